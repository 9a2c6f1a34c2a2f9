-- Words by their places, and ranges by their ends.
use Rattle.std.proofs.Common.{◌≡◌, ℕ, ◌+◌, ◌%◌, ◌^◌, ◌<◌, ◌≤◌, Some, refl, arith}
use Rattle.range.proofs.Names.{Width, W32, W64, URange, IsSingle, LiesIn, signed_place, IsLeast, IsLeastPair, IsMeet, InRange, IsWordSum, IsReached, modulus}

pub lies : (place : ℕ → ℕ) (r : URange) (x : ℕ) → x < 2 ^ 64 → r.least ≤ place x → place x ≤ r.greatest → LiesIn place r x
lies place r x h k p = record { word = h; above = k; below = p }

pub member : (r : URange) (x : ℕ) → x < 2 ^ 64 → r.least ≤ x → x ≤ r.greatest → InRange r x
member r x h k p = record { word = h; above = k; below = p }

-- ---- numbers that are places

pub reached : (r : URange) → r.greatest < 2 ^ 64 → IsReached (λ (n : ℕ). n) r
reached r fits n h = (n, omega arith, refl)

pub reached_signed : (w : Width) (r : URange) → r.greatest < modulus w → IsReached (signed_place w) r
reached_signed W32 r fits n h = ((n + 2 ^ 31) % 2 ^ 32, omega arith, omega arith)
reached_signed W64 r fits n h = ((n + 2 ^ 63) % 2 ^ 64, omega arith, omega arith)

-- a number of a range as the place of a word
pub at_place : (place : ℕ → ℕ) (r : URange) → IsReached place r → (n : ℕ) → r.least ≤ n → n ≤ r.greatest → (x : ℕ) × LiesIn place r x × (place x ≡ n)
at_place place r reach n h k =
    let word = reach n k in
    let is = word.2 in
    (word.0, lies place r word.0 word.1 (omega arith) (omega arith), is)

-- words by their places' places
pub turned_back : (w : Width) (x : ℕ) → x < modulus w → signed_place w (signed_place w x) ≡ x
turned_back W32 x h = omega arith
turned_back W64 x h = omega arith

-- ---- ranges by their ends

-- a range whose ends are places of words of a kind is the least that has all words of that kind
pub least_by_ends : (place : ℕ → ℕ) (Kind : ℕ → Type 0) (r : URange) (l g : ℕ) → place l ≡ r.least → place g ≡ r.greatest → Kind l → Kind g → ((x : ℕ) → Kind x → LiesIn place r x) → IsLeast (LiesIn place) Kind r
least_by_ends place Kind r l g at_l at_g low high all = record {
  all = all;
  least = λ s has x h.
      let from = (has l low).above in
      let to = (has g high).below in
      lies place s x h.word (omega (arith, h.above)) (omega (arith, h.below));
}

-- two numbers of two ranges are related
pub record IsPair (Related : ℕ → ℕ → Type 0) (a b : URange) (p q : ℕ) : Type 0 where
  pub left : (a.least ≤ p) × (p ≤ a.greatest)
  pub right : (b.least ≤ q) × (q ≤ b.greatest)
  pub related : Related p q

-- what is left of two ranges by numbers: each of its ends is related to one, and it has all that are
pub record HasPairs (Related : ℕ → ℕ → Type 0) (a b c d : URange) : Type 0 where
  pub left_least : (q : ℕ) × IsPair Related a b c.least q
  pub left_greatest : (q : ℕ) × IsPair Related a b c.greatest q
  pub right_least : (p : ℕ) × IsPair Related a b p d.least
  pub right_greatest : (p : ℕ) × IsPair Related a b p d.greatest
  pub all : (p q : ℕ) → IsPair Related a b p q → ((c.least ≤ p) × (p ≤ c.greatest)) × ((d.least ≤ q) × (q ≤ d.greatest))

module _ (Related : ℕ → ℕ → Type 0) (a b c d : URange) (h : HasPairs Related a b c d) (place : ℕ → ℕ) (left : IsReached place a) (right : IsReached place b) where
  abbrev Placed : ℕ → ℕ → Type 0
  Placed x y = Related (place x) (place y)

  -- words at the places of a pair
  words_at : (p q : ℕ) → IsPair Related a b p q → (x : ℕ) × (y : ℕ) × LiesIn place a x × LiesIn place b y × Placed x y × (place x ≡ p) × (place y ≡ q)
  words_at p q pair =
      let x = at_place place a left p pair.left.0 pair.left.1 in
      let y = at_place place b right q pair.right.0 pair.right.1 in
      (x.0, y.0, x.1, y.1, rw (x.2, y.2) pair.related, x.2, y.2)

  lies_in_both : (x y : ℕ) → LiesIn place a x → LiesIn place b y → Placed x y → LiesIn place c x × LiesIn place d y
  lies_in_both x y hx hy related =
      let all = h.all (place x) (place y) (record { left = (hx.above, hx.below); right = (hy.above, hy.below); related = related }) in
      (lies place c x hx.word all.0.0 all.0.1, lies place d y hy.word all.1.0 all.1.1)

  pub least_by_pairs : IsLeastPair (LiesIn place) Placed a b c d
  least_by_pairs =
      let ll = words_at c.least h.left_least.0 h.left_least.1 in
      let lg = words_at c.greatest h.left_greatest.0 h.left_greatest.1 in
      let rl = words_at h.right_least.0 d.least h.right_least.1 in
      let rg = words_at h.right_greatest.0 d.greatest h.right_greatest.1 in
      record {
        left = least_by_ends place _ c ll.0 lg.0 ll.5 lg.5 (ll.1, ll.2, ll.3, ll.4) (lg.1, lg.2, lg.3, lg.4) (λ x k. (lies_in_both x k.0 k.1 k.2 k.3).0);
        right = least_by_ends place _ d rl.1 rg.1 rl.6 rg.6 (rl.0, rl.2, rl.3, rl.4) (rg.0, rg.2, rg.3, rg.4) (λ y k. (lies_in_both k.0 y k.1 k.2 k.3).1);
        some = (ll.0, (ll.1, ll.2, ll.3, ll.4));
      }

-- the words of one place that two ranges leave
pub least_equal : (a b c : URange) → c.least ≤ c.greatest → c.greatest < 2 ^ 64 → ((place : ℕ → ℕ) → IsMeet (LiesIn place) a b (Some c)) → (place : ℕ → ℕ) → IsReached place a → IsLeastPair (LiesIn place) (λ x y. place x ≡ place y) a b c c
least_equal a b c ordered fits both place reach =
    let low = (both (λ (n : ℕ). n) c.least).0 (member c c.least (omega arith) (omega arith) ordered) in
    let word = at_place place a reach c.least low.0.above low.0.below in
    let there : LiesIn place b word.0 = lies place b word.0 word.1.word (rw word.2 low.1.above) (rw word.2 low.1.below) in
    record {
      left = record {
        all = λ x k. (both place x).1 (k.1, lies place b x k.1.word (rw k.3 k.2.above) (rw k.3 k.2.below));
        least = λ s has x h. has x (x, ((both place x).0 h).0, ((both place x).0 h).1, refl);
      };
      right = record {
        all = λ y k. (both place y).1 (lies place a y k.2.word (rw (← k.3) k.1.above) (rw (← k.3) k.1.below), k.2);
        least = λ s has y h. has y (y, ((both place y).0 h).0, ((both place y).0 h).1, refl);
      };
      some = (word.0, (word.0, word.1, there, refl));
    }

-- a range of one word has its place at both ends
pub placed_ends : (place : ℕ → ℕ) (r : URange) (x : ℕ) → IsReached place r → r.least ≤ r.greatest → IsSingle (LiesIn place) r x → (r.least ≡ place x) × (r.greatest ≡ place x)
placed_ends place r x reach h single =
    let low = at_place place r reach r.least (omega arith) h in
    let high = at_place place r reach r.greatest h (omega arith) in
    let is_low = rw ((single low.0).0 low.1) at low.2 in
    let is_high = rw ((single high.0).0 high.1) at high.2 in
    (omega arith, omega arith)

pub single_ends : (r : URange) (x : ℕ) → r.least ≤ r.greatest → r.greatest < 2 ^ 64 → IsSingle InRange r x → (r.least ≡ x) × (r.greatest ≡ x)
single_ends r x h k single = placed_ends (λ (n : ℕ). n) r x (reached r k) h single

pub single_by_ends : (r : URange) (n m : ℕ) → r.least ≡ n → r.greatest ≡ n → n ≡ m → n < 2 ^ 64 → IsSingle InRange r m
single_by_ends r n m low high e fits y =
    ((λ h. omega (arith, h.above, h.below)), (λ is. member r y (omega arith) (omega arith) (omega arith)))

-- a range within another has its ends between those
pub ends_within : (a s : URange) → a.least ≤ a.greatest → a.greatest < 2 ^ 64 → ((x : ℕ) → InRange a x → InRange s x) → (s.least ≤ a.least) × (a.greatest ≤ s.greatest)
ends_within a s ordered fits has =
    ((has a.least (member a a.least (omega arith) (omega arith) ordered)).above, (has a.greatest (member a a.greatest fits ordered (omega arith))).below)

pub within_fits : (a s : URange) (m : ℕ) → a.least ≤ a.greatest → a.greatest < 2 ^ 64 → s.greatest < m → ((x : ℕ) → InRange a x → InRange s x) → a.greatest < m
within_fits a s m ordered fits small has = let ends = (ends_within a s ordered fits has).1 in omega arith

-- sums below 2 ^ 64 lie between the sum of the least and that of the greatest words
pub sums_between : (a b r : URange) → a.least ≤ a.greatest → b.least ≤ b.greatest → a.greatest + b.greatest < 2 ^ 64 → r.least ≡ a.least + b.least → r.greatest ≡ a.greatest + b.greatest → IsLeast InRange (IsWordSum a b) r
sums_between a b r h k fits low high =
    least_by_ends (λ (n : ℕ). n) (IsWordSum a b) r r.least r.greatest refl refl
    (a.least, b.least, member a a.least (omega arith) (omega arith) (omega arith), member b b.least (omega arith) (omega arith) (omega arith), omega arith)
    (a.greatest, b.greatest, member a a.greatest (omega arith) (omega arith) (omega arith), member b b.greatest (omega arith) (omega arith) (omega arith), omega arith)
    (λ n s.
    let sum : n ≡ s.0 + s.1 = omega (arith, s.4, s.2.below, s.3.below) in
    member r n (omega (arith, s.2.below, s.3.below)) (omega (arith, s.2.above, s.3.above)) (omega (arith, s.2.below, s.3.below)))

-- what fits a word fits a width of 64 bits
pub fits_word : (w : Width) (n : ℕ) → w ≡ W64 → n < 2 ^ 64 → n < modulus w
fits_word w n e h = rw e h
