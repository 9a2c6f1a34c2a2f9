-- A step behind others that had no fault.
use Rattle.std.proofs.Common.{◌≡◌, inl, inr, ap, Err, Result}
use Rattle.clients.specs.Names.{Refusal}
use Rattle.registry_json.specs.Faults.{◌>>=◌, GivesUnless}
use Rattle.registry_json.specs.declared.fault.Refusal.TheVariants.{Memory}

-- its fault is one of all of them, and so is want of memory
pub later_gives : {A B W : Type 0} (e : Refusal) (r : Result A Refusal) (next : A → Result B Refusal) → W → GivesUnless {A = A} Memory (Unit {0}) (Err e) r → GivesUnless {A = B} Memory W (Err e) (r >>= next)
later_gives e r next w (inl m) = inl (m.0, w)
later_gives e r next w (inr is) = inr (ap (λ x. x >>= next) is)
