-- Laws of steps of which the first fault counts.
use Rattle.std.proofs.Common.{◌≡◌, Bool, true, if◌then◌else◌, refl, sym, ap, ◌∙◌, arith, Option, Some, None, Result, Ok, Err}
use Rattle.clients.specs.Names.{ok_or, ConfigFault, Refusal, Spot}
use Rattle.registry_json.specs.Faults.{◌>>=◌}
use Rattle.registry_json.specs.Spots.{located}

-- where all steps have a value the first one has
pub then_ok : {A B E : Type 0} (r : Result A E) (next : A → Result B E) (y : B) → (r >>= next) ≡ Ok y
    → (x : A) × (r ≡ Ok x) × (next x ≡ Ok y)
then_ok (Ok x) next y ok = (x, refl, ok)
then_ok (Err e) next y ok = cc ok

-- so it is of a step that tells where its fault lies
pub located_ok : {A B : Type 0} (spot : Spot) (r : Result A ConfigFault) (next : A → Result B Refusal) (y : B) → (located spot r >>= next) ≡ Ok y
    → (x : A) × (r ≡ Ok x) × (next x ≡ Ok y)
located_ok spot (Ok x) next y ok = (x, refl, ok)
located_ok spot (Err fault) next y ok = absurd (grind (arith, ok))

-- what was read there was read
pub located_is : {A : Type 0} (spot : Spot) (r : Result A ConfigFault) (x : A) → located spot r ≡ Ok x → r ≡ Ok x
located_is spot (Ok y) x ok = let same : y ≡ x = cc ok in ap (λ z. Ok z) same
located_is spot (Err fault) x ok = absurd (grind (arith, ok))

pub ok_same : {A E : Type 0} (r : Result A E) (x y : A) → r ≡ Ok x → r ≡ Ok y → x ≡ y
ok_same r x y one other = let same : Ok x ≡ Ok y = sym one ∙ other in cc same

-- what a test lets through passes it
pub test_passed : {A E : Type 0} (test : A → Bool) (x y : A) (e : E) → (if test x then Ok x else Err e) ≡ Ok y → test y ≡ true
test_passed test x y e ok = grind (arith, ok)

pub option_ok : {A E : Type 0} (o : Option A) (e : E) (x : A) → ok_or o e ≡ Ok x → o ≡ Some x
option_ok None e x ok = cc ok
option_ok (Some y) e x ok = cc ok
