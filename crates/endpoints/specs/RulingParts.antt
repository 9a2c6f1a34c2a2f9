-- Beside Ruling: only the contracts of this crate's own parts and their proofs cite this, no public clause.
use Rattle.std.specs.Prelude.{◌≡◌, ◌≢◌, Option, None, Result, Ok, Err}
use Rattle.endpoints.specs.Names.{as_list, HookFault, Hosting, Halts, Setting, outcome_told, Halt, Refuse, NoMemory}
use Rattle.consent.specs.History as history
use Rattle.consent.specs.declared.change.Changes.TheVariants.{Nothing}
use Rattle.hook_host.specs.declared.fault.HookFault.TheVariants.{Memory}
use Rattle.answers.specs.declared.answer.Answer.TheVariants.{HookRefused}
use Rattle.endpoints.specs.Hosts.{IsHostFault}
use Rattle.endpoints.specs.Parts.{hook_points}
use Rattle.endpoints.specs.declared.ruling.Ruling.{Ruling}
use Rattle.endpoints.specs.Ruling.{CanMakeAll}

-- the fault is told, or memory was refused
abbrev pub IsHookRefused : {H : Type 0} → HookFault → Result (Ruling H) Halt → Type 0
IsHookRefused fault (Err (Refuse error)) = ⊥
IsHookRefused fault (Err NoMemory) = Unit {0}
IsHookRefused fault (Ok ruling) =
    (fault ≢ Memory) × (ruling.decision ≡ record { answer = HookRefused fault; changes = Nothing })

-- The host has one of its own faults for the change that is asked for, or none. By that the ruling is what the points
-- come to, and the host can make its change.
abbrev pub RulesHooks : {H : Type 0} → Hosting H → H → Setting → Option history.Change → Result (Ruling H) Halt → Type 0
RulesHooks hosting host s change (Err halt) = Halts halt (hook_points change None)
RulesHooks hosting host s change (Ok ruling) =
    (fault : Option HookFault) × IsHostFault hosting host change fault
    × (outcome_told s ruling.decision ≡ hook_points change fault) × CanMakeAll hosting host (as_list ruling.decision.changes) ruling.checked
