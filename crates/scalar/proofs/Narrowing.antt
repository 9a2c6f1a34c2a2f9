-- What is left of two values, by what is left of their parts.
use Rattle.std.proofs.Common.{◌≡◌, ◌⊎◌, ℕ, ◌%◌, ◌^◌, Bool, true, false, IsTrue, refl, sym, ◌∙◌, subst, inl, inr}
use Rattle.std.proofs.lemmas.Bool.Decides.{Decides-eqb}
use Rattle.insn.specs.declared.operation.Cond.{Cond}
use Rattle.insn.specs.declared.operation.Cond.TheVariants.{Eq, Ne}
use Rattle.insn.specs.declared.operation.Width.{Width}
use Rattle.insn.specs.declared.operation.Width.TheVariants.{W32, W64}
use Rattle.insn.specs.Word.{seen, word_holds}
use Rattle.range.specs.Conditions.{HasAnswer, says}
use Rattle.range.specs.ConditionLaws.{equal_seen}
use Rattle.range.specs.MemberLaws.{same_low}
use Rattle.range.specs.Sets.{IsLeastPair, IsWithin}
use Rattle.range.specs.declared.half.HalfRange.{HalfRange}
use Rattle.range.specs.Half.{InHalfRange}
use Rattle.range.specs.Unsigned.{InRange}
use Rattle.range.specs.Signed.{InSignedRange}
use Rattle.known_bits.specs.declared.bits.KnownBits.{KnownBits}
use Rattle.known_bits.specs.Members.{HasBits}
use Rattle.known_bits.specs.Refined.{HasPartner, IsTight}
use Rattle.scalar.specs.declared.scalar.Scalar.{Scalar}
use Rattle.scalar.specs.MemberLaws.{shows_one}
use Rattle.scalar.specs.Members.{InScalar, IsAskedAlike}
use Rattle.scalar.specs.Narrowed.{Answer, AreNarrowed, said}
use Rattle.scalar.specs.NarrowedParts.{AreHalvesNarrowed, ArePartsNarrowed, IsWidthAsked}
use Rattle.scalar.proofs.Same.{AreSame}

-- an answer that says that words are equal orders them
pub equal_orders : (c : Cond) (taken : Bool) → IsTrue (says c taken).equal → IsTrue (says c taken).words × IsTrue (says c taken).numbers
equal_orders Eq true h = (h, h)
equal_orders Ne false h = (h, h)
equal_orders c taken h = absurd cc

-- what the least sets keep of equal words is in both
pub equal_within : {A : Type 0} (Has : A → ℕ → Type 0) (R : ℕ → ℕ → Type 0) (a b c d : A) → ((x y : ℕ) → Has a x → Has b y → R x y → Has b x × Has a y) → IsLeastPair Has R a b c d → IsWithin Has c b × IsWithin Has d a
equal_within Has R a b c d both h = (
  h.left.least b (λ x k. (both x k.0 k.1 k.2 k.3).0),
  h.right.least a (λ y k. (both k.0 y k.1 k.2 k.3).1),
)

low_both : (a b : HalfRange) (x y : ℕ) → InHalfRange a x → InHalfRange b y → x % 2 ^ 32 ≡ y % 2 ^ 32 → InHalfRange b x × InHalfRange a y
low_both a b x y hx hy e = (same_low b y x hx.word e hy, same_low a x y hy.word (sym e) hx)

partner_is : (b : KnownBits) (x : ℕ) → HasPartner W64 b x → HasBits b x
partner_is b x h = subst (λ (y : ℕ). HasBits b y) h.alike h.there

partner_seen : (w : Width) (b : KnownBits) (x : ℕ) → HasPartner W64 b x → HasPartner w b x
partner_seen W64 b x h = h
partner_seen W32 b x h = record { partner = h.partner; there = h.there; alike = subst (λ (y : ℕ). h.partner % 2 ^ 32 ≡ y % 2 ^ 32) h.alike refl }

-- ---- answers

pub not_not : (b c : Bool) → ((b ≡ c → ⊥) → ⊥) → b ≡ c
not_not true true h = refl
not_not false false h = refl
not_not true false h = absurd (h (λ e. cc))
not_not false true h = absurd (h (λ e. cc))

-- ---- the four together

abbrev asked_of : Answer → Width → Answer
asked_of t asked = record { cond = t.cond; width = asked; taken = t.taken }

module _ (t : Answer) (asked : Width) (a b : Scalar) (p q r : Scalar × Scalar)
    (width : IsWidthAsked t.width asked t.cond a b) (same : IsAskedAlike t.cond t.width asked a b)
    (parts : ArePartsNarrowed (asked_of t asked) a b p) (halves : AreHalvesNarrowed t p.0 p.1 q)
    (left : AreSame q.0 r.0) (right : AreSame q.1 r.1) where
  in_left : (x : ℕ) → InScalar r.0 x → InScalar p.0 x
  in_left x h = halves.within.0 x ((left x).0 h)

  in_right : (y : ℕ) → InScalar r.1 y → InScalar p.1 y
  in_right y h = halves.within.1 y ((right y).0 h)

  wide : t.width ≡ W64 → asked ≡ W64
  wide e = elim width.own [ inl is ↦ is | inr is ↦ is ∙ e ]

  partners : (w : Width) → asked ≡ w → IsTight w a.bits b.bits (p.0.bits, p.1.bits) → (v : Width) → (w ≡ W64) ⊎ (w ≡ v) →
      ((x : ℕ) → InScalar r.0 x → HasPartner v b.bits x) × ((y : ℕ) → InScalar r.1 y → HasPartner v a.bits y)
  partners W64 e h v own = (λ x m. partner_seen v b.bits x (h.left x (in_left x m).bits).1, λ y m. partner_seen v a.bits y (h.right y (in_right y m).bits).1)
  partners W32 e h W32 own = (λ x m. (h.left x (in_left x m).bits).1, λ y m. (h.right y (in_right y m).bits).1)
  partners W32 e h W64 own = elim own [ inl is ↦ absurd cc | inr is ↦ absurd cc ]

  low_within : IsTrue (said t).equal → IsWithin InHalfRange q.0.half b.half × IsWithin InHalfRange q.1.half a.half
  low_within says = by t.width refl where
    back : IsWithin InHalfRange q.0.half p.1.half × IsWithin InHalfRange q.1.half p.0.half → IsWithin InHalfRange q.0.half b.half × IsWithin InHalfRange q.1.half a.half
    back h = (rw parts.halves.1 at h.0, rw parts.halves.0 at h.1)

    by : (w : Width) → t.width ≡ w → IsWithin InHalfRange q.0.half b.half × IsWithin InHalfRange q.1.half a.half
    by W64 e = back (equal_within InHalfRange (HasAnswer W32 Eq true) p.0.half p.1.half q.0.half q.1.half
        (λ x y hx hy k. low_both p.0.half p.1.half x y hx hy ((Decides-eqb (x % 2 ^ 32) (y % 2 ^ 32)).0 k)) (halves.equal e says))
    by W32 e = back (equal_within InHalfRange (HasAnswer W32 t.cond t.taken) p.0.half p.1.half q.0.half q.1.half
        (λ x y hx hy k. low_both p.0.half p.1.half x y hx hy (equal_seen t.cond t.taken W32 x y says k)) (halves.low e (equal_orders t.cond t.taken says).1))

  three_equal : asked ≡ W64 → IsTrue (said t).equal → IsWithin InScalar r.0 b × IsWithin InScalar r.1 a
  three_equal e says =
      let orders = equal_orders t.cond t.taken says in
      let same : (x y : ℕ) → HasAnswer W64 t.cond t.taken x y → x ≡ y = λ x y k. equal_seen t.cond t.taken W64 x y says k in
      let u = equal_within InRange (HasAnswer W64 t.cond t.taken) a.unsigned b.unsigned p.0.unsigned p.1.unsigned
      (λ x y hx hy k. (subst (λ (z : ℕ). InRange b.unsigned z) (sym (same x y k)) hy, subst (λ (z : ℕ). InRange a.unsigned z) (same x y k) hx)) (parts.words e orders.0) in
      let s = equal_within InSignedRange (HasAnswer W64 t.cond t.taken) a.signed b.signed p.0.signed p.1.signed
      (λ x y hx hy k. (subst (λ (z : ℕ). InSignedRange b.signed z) (sym (same x y k)) hy, subst (λ (z : ℕ). InSignedRange a.signed z) (same x y k) hx)) (parts.numbers e orders.1) in
      let low = low_within says in
      let tight = partners asked refl (parts.tight says) W64 (inl e) in (
        λ x m. let h = in_left x m in record { unsigned = u.0 x h.unsigned; signed = s.0 x h.signed; bits = partner_is b.bits x (tight.0 x m); half = low.0 x ((left x).0 m).half },
        λ y m. let h = in_right y m in record { unsigned = u.1 y h.unsigned; signed = s.1 y h.signed; bits = partner_is a.bits y (tight.1 y m); half = low.1 y ((right y).0 m).half },
      )

  pub narrowed : AreNarrowed t a b r
  narrowed = record {
    within = (λ x m. parts.within.0 x (in_left x m), λ y m. parts.within.1 y (in_right y m));
    words = λ sees orders.
        let pair = parts.words (width.whole t.taken orders sees) orders in
        record { left = λ s all x m. pair.left.least s all x (in_left x m).unsigned; right = λ s all y m. pair.right.least s all y (in_right y m).unsigned; some = pair.some };
    numbers = λ e orders.
        let pair = parts.numbers (wide e) orders in
        record { left = λ s all x m. pair.left.least s all x (in_left x m).signed; right = λ s all y m. pair.right.least s all y (in_right y m).signed; some = pair.some };
    halves = λ e orders.
        let pair = rw (parts.halves.0, parts.halves.1) at halves.low e orders in
        record { left = λ s all x m. pair.left.least s all x ((left x).0 m).half; right = λ s all y m. pair.right.least s all y ((right y).0 m).half; some = pair.some };
    equal = λ sees says. three_equal (width.whole t.taken (equal_orders t.cond t.taken says).0 sees) says;
    bits = λ says. partners asked refl (parts.tight says) t.width width.own;
    single = λ x y one other. same x y ((shows_one a x one x).1 refl) ((shows_one b y other y).1 refl) ∙ parts.single x y one other;
  }
