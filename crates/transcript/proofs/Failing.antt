-- Faults behind the first line are a transcript's faults.
use Rattle.std.proofs.Common.{◌≡◌, ◌≢◌, ℕ, List, inr, Result, Err, IfErr}
use Rattle.transcript.proofs.Names.{Hosting, RegistryRecord, outset_of, Configures, Stops, IsReplayFault, ReplayFault}
use Rattle.transcript.specs.declared.fault.ReplayFault.TheVariants.{Config, BadLine, Refused, Memory}

pub later_fault : {H : Type 0} (hosting : Hosting H) (first : H) (text : List ℕ) (rules : RegistryRecord) (later : List (List ℕ)) (fault : ReplayFault) → Configures text rules later
    → (fault ≢ Memory → Stops hosting (outset_of rules first) later fault) → IsReplayFault hosting first text fault
later_fault hosting first text rules later (Config fault) configures stops = absurd ((stops (λ e. cc)).fault_is)
later_fault hosting first text rules later (BadLine line) configures stops = inr (record { rules = rules; later = later; configures = configures; stops = stops (λ e. cc) })
later_fault hosting first text rules later (Refused line fault) configures stops = record { rules = rules; later = later; configures = configures; stops = stops (λ e. cc) }
later_fault hosting first text rules later Memory configures stops = tt {0}

pub if_err : {T E : Type 0} (r : Result T E) (P : E → Type 0) (fault : E) → r ≡ Err fault → P fault → IfErr r P
if_err r P fault same p = rw same p
