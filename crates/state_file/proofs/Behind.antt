-- What a batch tells that begins with a horizon: just what stands behind that.
use Rattle.std.proofs.Common.{◌≡◌, ◌-◌, ℕ, zero, suc, List, [], ◌∷◌, take, drop, length, Some, Option, refl, sym, subst, arith}
use Rattle.std.specs.Prelude.{IsSome}
use Rattle.std.proofs.lemmas.List.{length-drop, take_all}
use Rattle.state_file.proofs.Names.{append-nil, AreTold, Event, IsUnlisted, StateFault}
use Rattle.state_file.specs.Listing.{IsNoneBehind}
use Rattle.state_file.specs.Standing.{AreBehind, IsTold, horizon_in}
use Rattle.state_file.specs.declared.fault.StateFault.TheVariants.{Memory, Spelling}

-- the bytes behind it
abbrev pub behind : List ℕ → List ℕ
behind batch = take (length batch - 9) (drop 9 batch)

behind_is : (batch : List ℕ) → behind batch ≡ drop 9 batch
behind_is batch = take_all (length batch - 9) (drop 9 batch) (let size = length-drop 9 batch in omega (arith, size))

told_of : (batch : List ℕ) (moment : ℕ) (facts : List Event) → horizon_in batch ≡ Some moment → AreBehind (drop 9 batch) facts → AreTold (batch ∷ []) facts
told_of (suc (suc (suc zero)) ∷ bytes) moment facts is are =
    (facts, [], (subst (λ (o : Option ℕ). IsSome o) (sym is) refl, are), refl, sym (append-nil facts))
told_of _ moment facts is are = absurd cc

pub behind_told : (batch : List ℕ) (moment : ℕ) (facts : List Event) → horizon_in batch ≡ Some moment → AreBehind (behind batch) facts → AreTold (batch ∷ []) facts
behind_told batch moment facts is are = told_of batch moment facts is (subst (λ (bytes : List ℕ). AreBehind bytes facts) (behind_is batch) are)

told_behind : (batch : List ℕ) (moment : ℕ) (facts : List Event) → horizon_in batch ≡ Some moment → IsTold batch facts → AreBehind (drop 9 batch) facts
told_behind (suc (suc (suc zero)) ∷ bytes) moment facts is told = told.1
told_behind _ moment facts is told = absurd cc

pub behind_refused : (batch : List ℕ) (moment : ℕ) (fault : StateFault) → horizon_in batch ≡ Some moment → IsNoneBehind (behind batch) fault → IsUnlisted (batch ∷ []) fault
behind_refused batch moment Memory is none = tt
behind_refused batch moment (Spelling fault) is none = λ facts told.
    none told.0 (subst (λ (bytes : List ℕ). AreBehind bytes told.0) (sym (behind_is batch)) (told_behind batch moment told.0 is told.2))
behind_refused batch moment _ is none = absurd none
