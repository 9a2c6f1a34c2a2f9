-- Spans moved by a number.
use Rattle.std.proofs.Common.{◌≡◌, ℕ, ◌-◌, ◌^◌, ◌<◌, ◌≤◌, ℤ, pos, Bool, true, Option, Some, None, inl, inr, arith, refl, ap, ◌∙◌, FitsSigned, to_z, of_z}
use Rattle.reg_kind.proofs.Names.{Direction, lowest, highest}
use Rattle.reg_kind.proofs.Names.{◌≤ℤ◌, w64, cast_signed, ints, to_z-of_z, nat_tests, Scalar, InScalar, ShowsOne, InScalar-words, shows_one, Span, SpanFits, AmountFits}
use Rattle.reg_kind.proofs.Names.{IsShifted, first_span, move_of, moved_by, span_between, span_moved}
use Rattle.std.specs.Int.{Width}
use Rattle.reg_kind.proofs.Readings.{IsReading, moved_read, moved_fits}

-- a number between two; a shape's is both of them
pub record IsBetween (exact : Bool) (least z greatest : ℤ) : Type 0 where
  pub above : least ≤ℤ z
  pub below : z ≤ℤ greatest
  pub alone : exact ≡ true → (least ≡ z) × (greatest ≡ z)

-- how a span's offsets and the numbers of a scalar lie between their ends
pub between_span : (exact : Bool) (span : Span) (o : ℕ) → SpanFits exact span o → IsBetween exact (pos span.least) (pos o) (pos span.greatest)
between_span exact span o h = grind (arith, ints)

pub amount_word : (exact : Bool) (by : Scalar) (n : ℕ) → AmountFits exact by n → n < 2 ^ 64
amount_word exact by n h = let word = InScalar-words by n in let one = shows_one by n in grind (arith, word, one)

pub moved_between : (exact : Bool) (way : Direction) (a b c x y z : ℤ) → IsBetween exact a b c → IsBetween exact x y z
    → IsBetween exact (moved_by way a (lowest way x z)) (moved_by way b y) (moved_by way c (highest way x z))
moved_between exact way a b c x y z h k = grind (arith, ints)

-- the ends of a span in a region
pub span_ends : (size : ℕ) (l g : ℤ) (t : Span) → Some t ≡ span_between size l g → (l ≡ pos t.least) × (g ≡ pos t.greatest) × (t.least ≤ size) × (t.greatest ≤ size)
span_ends size l g t e = grind (arith, nat_tests)

-- what lies between the ends of a span in a region
pub record IsInside (exact : Bool) (size : ℕ) (t : Span) (z : ℤ) : Type 0 where
  pub from : pos 0 ≤ℤ z
  pub to : z ≤ℤ pos size
  pub fits : (r : ℕ) → pos r ≡ z → SpanFits exact t r

pub inside : (exact : Bool) (size : ℕ) (l g z : ℤ) (t : Span) → Some t ≡ span_between size l g → IsBetween exact l z g → IsInside exact size t z
inside exact size l g z t e h = let ends = span_ends size l g t e in record { from = grind (arith, ints, ends); to = grind (arith, ints, ends); fits = λ r i. grind (arith, ints, ends) }

-- ends that are one number and give no span are not in the region
pub outside_of : (size : ℕ) (l g z : ℤ) → l ≡ z → g ≡ z → None ≡ span_between size l g → pos 0 ≤ℤ z → z ≤ℤ pos size → ⊥
outside_of size l g z p q e a b = grind (arith, nat_tests, ints)

-- ---- amounts

-- a reading of a scalar's words lies between two ends
pub record HasEnds (by : Scalar) (reading : ℕ → ℤ) (lo hi : ℤ) : Type 0 where
  pub reads : (n : ℕ) → IsReading n (reading n)
  pub between : (exact : Bool) (n : ℕ) → AmountFits exact by n → IsBetween exact lo (reading n) hi

ends_of : (by : Scalar) (reading : ℕ → ℤ) (lo hi : ℤ) → ((n : ℕ) → InScalar by n → lo ≤ℤ reading n) → ((n : ℕ) → InScalar by n → reading n ≤ℤ hi) → ((n : ℕ) → ShowsOne by n → (lo ≡ reading n) × (hi ≡ reading n)) → (exact : Bool) (n : ℕ) → AmountFits exact by n → IsBetween exact lo (reading n) hi
ends_of by reading lo hi least greatest single exact n h = let m = shows_one by n in let l = least n in let g = greatest n in let s = single n in grind (arith, m, l, g, s)

pub word_ends : (by : Scalar) (lo hi : ℕ) → ((n : ℕ) → InScalar by n → lo ≤ n) → ((n : ℕ) → InScalar by n → n ≤ hi) → ((n : ℕ) → ShowsOne by n → (lo ≡ n) × (hi ≡ n)) → HasEnds by pos (pos lo) (pos hi)
word_ends by lo hi least greatest single = record {
  reads = λ n. inl refl;
  between = ends_of by pos (pos lo) (pos hi) (λ n h. let q = least n h in omega (arith, ints)) (λ n h. let q = greatest n h in omega (arith, ints)) (λ n h. let q = single n h in (ap pos q.0, ap pos q.1));
}

pub number_ends : (by : Scalar) (lo hi : ℤ) → ((n : ℕ) → InScalar by n → lo ≤ℤ cast_signed w64 n) → ((n : ℕ) → InScalar by n → cast_signed w64 n ≤ℤ hi) → ((n : ℕ) → ShowsOne by n → (lo ≡ cast_signed w64 n) × (hi ≡ cast_signed w64 n)) → HasEnds by (cast_signed w64) lo hi
number_ends by lo hi least greatest single = record { reads = λ n. inr refl; between = ends_of by (cast_signed w64) lo hi least greatest single }

pub first_some : (o p : Option Span) (t : Span) → Some t ≡ o → Some t ≡ first_span o p
first_some o p t e = grind arith

pub first_none : (o p r : Option Span) → None ≡ o → r ≡ p → r ≡ first_span o p
first_none o p r e f = grind arith

pub plain : (w : Width) (x a : ℤ) → x ≡ a → FitsSigned w x → to_z w (of_z w x) ≡ a
plain w x a e fits = to_z-of_z w x fits ∙ e

-- ---- moves

-- a span moved by each of the numbers of a scalar
pub shifts : (way : Direction) (size : ℕ) (span t : Span) (by : Scalar) (reading : ℕ → ℤ) (lo hi : ℤ) → size ≤ 512 → span.greatest < 2 ^ 16 → HasEnds by reading lo hi → Some t ≡ span_moved way size span lo hi → IsShifted (move_of way) size span by (Some t)
shifts way size span t by reading lo hi le small ends e exact o n ho hn =
    let oh = between_span exact span o ho in
    let bound = oh.below in
    let i = inside exact size _ _ (moved_by way (pos o) (reading n)) t e (moved_between exact way _ _ _ _ _ _ oh (ends.between exact n hn)) in
    let same = moved_read way o n size (reading n) (ends.reads n) (omega (arith, ints)) le (amount_word exact by n hn) i.from i.to in
    let to = i.to in
    (omega (arith, ints), i.fits _ same)

not_moved : (way : Direction) (size : ℕ) (span : Span) (by : Scalar) (lo hi : ℕ) (lo2 hi2 : ℤ) → size ≤ 512 → span.greatest < 2 ^ 16 → HasEnds by pos (pos lo) (pos hi) → HasEnds by (cast_signed w64) lo2 hi2 → None ≡ span_moved way size span (pos lo) (pos hi) → None ≡ span_moved way size span lo2 hi2 → IsShifted (move_of way) size span by None
not_moved way size span by lo hi lo2 hi2 le small words numbers e f o n ho hn =
    let oh = between_span true span o ho in
    let bound = oh.below in
    let unsigned_ends = (moved_between true way _ _ _ _ _ _ oh (words.between true n hn)).alone refl in
    let signed_ends = (moved_between true way _ _ _ _ _ _ oh (numbers.between true n hn)).alone refl in
    let unsigned_out = outside_of size _ _ (moved_by way (pos o) (pos n)) unsigned_ends.0 unsigned_ends.1 e in
    let signed_out = outside_of size _ _ (moved_by way (pos o) (cast_signed w64 n)) signed_ends.0 signed_ends.1 f in
    let fits = moved_fits way o n size (omega (arith, ints)) le (amount_word true by n hn) in
    grind (arith, unsigned_out, signed_out, fits)

-- whether or not the second reading gives a span
pub moved_signed : (way : Direction) (size : ℕ) (span : Span) (by : Scalar) (lo hi : ℕ) (lo2 hi2 : ℤ) (r : Option Span) → size ≤ 512 → span.greatest < 2 ^ 16 → HasEnds by pos (pos lo) (pos hi) → HasEnds by (cast_signed w64) lo2 hi2 → None ≡ span_moved way size span (pos lo) (pos hi) → r ≡ span_moved way size span lo2 hi2 → IsShifted (move_of way) size span by r
moved_signed way size span by lo hi lo2 hi2 None le small words numbers e f = not_moved way size span by lo hi lo2 hi2 le small words numbers e f
moved_signed way size span by lo hi lo2 hi2 (Some t) le small words numbers e f = shifts way size span t by (cast_signed w64) lo2 hi2 le small numbers f
