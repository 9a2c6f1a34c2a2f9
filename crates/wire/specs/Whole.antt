-- All of the bytes.
use Rattle.std.proofs.Common.{◌≡◌, ℕ, cond, eqb, List, [], ◌++◌, length, Result, Ok, Err, refl, sym, ap, ◌∙◌}
use Rattle.std.proofs.lemmas.Bool.{eqb-true}
use Rattle.std.proofs.lemmas.List.{append-nil, nil_from_length}
use Rattle.wire.specs.declared.fault.Fault.{Fault}
use Rattle.wire.specs.declared.fault.Fault.TheVariants as faults
use Rattle.wire.specs.declared.fault.DecodeFault.{DecodeFault}
use Rattle.wire.specs.Reading.{◌>>=◌, IsBytes, GivesReading}
use Rattle.wire.specs.Format.{Format, bind_ok, checked_passed, ok_is}

-- the value that all of the bytes spell, or the first fault
abbrev pub all_at : {A : Type 0} → Format A → List ℕ → Result A Fault
all_at f bytes = f.read bytes >>= λ x. cond (eqb (length x.1) 0) (Ok x.0) (Err faults.Behind)

-- no bytes begin with the spellings of two values
pub spells_one : {A : Type 0} (f : Format A) (a b : A) (x y : List ℕ) → f.Fits a → f.Fits b → f.spell a ++ x ≡ f.spell b ++ y → (a ≡ b) × (x ≡ y)
spells_one {A} f a b x y fits fit e =
    let both = ok_is (a, x) (b, y) (sym (f.again a x fits) ∙ ap f.read e ∙ f.again b y fit) in
    (ap (λ (p : A × List ℕ). p.0) both, ap (λ (p : A × List ℕ). p.1) both)

pub all_takes : {A : Type 0} (f : Format A) (bytes : List ℕ) (a : A) → IsBytes bytes → all_at f bytes ≡ Ok a → (bytes ≡ f.spell a) × f.Fits a
all_takes {A} f bytes a fits e =
    let x = bind_ok (f.read bytes) (λ x. cond (eqb (length x.1) 0) (Ok x.0) (Err faults.Behind)) a e in
    let g = checked_passed (eqb (length x.0.1) 0) faults.Behind (Ok x.0.0) a x.2 in
    let t = f.takes bytes x.0 fits x.1 in
    let same : x.0.0 ≡ a = ok_is x.0.0 a g.1 in
    let none : x.0.1 ≡ [] = nil_from_length x.0.1 (eqb-true _ _ g.0) in
    (t.0.parts ∙ ap (λ (r : List ℕ). f.spell x.0.0 ++ r) none ∙ append-nil (f.spell x.0.0) ∙ ap f.spell same, rw (← same) t.1)

pub all_again : {A : Type 0} (f : Format A) (a : A) → f.Fits a → all_at f (f.spell a) ≡ Ok a
all_again f a fits =
    ap (all_at f) (sym (append-nil (f.spell a))) ∙ rw (f.again a [] fits) refl

pub spells_one_alone : {A : Type 0} (f : Format A) (a b : A) → f.Fits a → f.Fits b → f.spell a ≡ f.spell b → a ≡ b
spells_one_alone f a b fits fit e = (spells_one f a b [] [] fits fit (ap (λ (t : List ℕ). t ++ []) e)).0
