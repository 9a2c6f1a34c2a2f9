-- What was planned of what a source told, beside what stands on a device. For proofs alone.
use Rattle.std.proofs.Common.{◌≡◌, ◌⊎◌, ⊎_elim, inl, inr, ℕ, List, Result, Ok, Err, sym, subst}
use Rattle.std.specs.Prelude.{IfErr, IfOk, OnOk}
use Rattle.lifetime.specs.Names.{RegistryRecord, HookFact, StateFault}
use Rattle.lifetime.specs.Plans.{IsPlanOf, IsPlanned, RefusesPlan}
use Rattle.lifetime.specs.declared.plan.Plan.{Plan}
use Rattle.state_file.specs.Making.{StopsReading}
use Rattle.state_keeper.specs.Starting.{HasFront}

module _ (told seen : List ℕ) (Over : Type 0) (same : Over → seen ≡ told) where
  -- it is planned of what the device has, where that is what was told, once its end was reached
  pub planned_of : (rules : RegistryRecord) (hooks : List HookFact) (plan : Result Plan StateFault) → OnOk plan Over → IfOk plan (IsPlanOf rules hooks told) →
      IfErr plan (λ fault. StopsReading fault ⊎ (Over × RefusesPlan rules hooks told fault)) → IsPlanned rules hooks seen plan
  planned_of rules hooks (Ok plan) over made refused = subst (λ (bytes : List ℕ). IsPlanOf rules hooks bytes plan) (sym (same over)) made
  planned_of rules hooks (Err fault) over made refused =
      ⊎_elim (λ stops. inl stops) (λ refuses. inr (subst (λ (bytes : List ℕ). RefusesPlan rules hooks bytes fault) (sym (same refuses.0)) refuses.1)) refused

  -- and there its batches stand
  pub front_of : (plan : Result Plan StateFault) → OnOk plan Over → IfOk plan (λ p. HasFront told p.origin p.prepared.front) → IfOk plan (λ p. HasFront seen p.origin p.prepared.front)
  front_of (Ok plan) over front = subst (λ (bytes : List ℕ). HasFront bytes plan.origin plan.prepared.front) (sym (same over)) front
  front_of (Err fault) over front = tt
