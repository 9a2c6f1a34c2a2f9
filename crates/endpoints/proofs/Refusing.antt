-- What a host's refusal comes to.
use Rattle.std.proofs.Common.{◌≡◌, Option, Some, arith}
use Rattle.endpoints.proofs.Names.{◌≢◌, HookFault, Hosting, plain, refused_body, only, Setting, Halt, Refuse, NoMemory, IsHostFault, by_fault, IsHookRefused, RulesHooks, Ruling}
use Rattle.std.specs.Prelude.{Result, Ok, Err}
use Rattle.consent.specs.History.{Change}
use Rattle.hook_host.specs.declared.fault.HookFault.TheVariants.{Memory}
use Rattle.hook_host.specs.Faults.{hook_fault_text}

fault_told : (change : Change) (fault : HookFault) → fault ≢ Memory → only (plain 400 (refused_body (hook_fault_text fault))) ≡ by_fault change (Some fault)
fault_told change fault other = grind (arith, other)

-- the host's own fault for the change that was asked for
pub refused_rules : {H : Type 0} (hosting : Hosting H) (host : H) (s : Setting) (change : Option Change) (asked : Change) (fault : HookFault) (result : Result (Ruling H) Halt) →
    change ≡ Some asked → IsHostFault hosting host (Some asked) (Some fault) → IsHookRefused fault result → RulesHooks hosting host s change result
refused_rules hosting host s change asked fault (Err (Refuse error)) is host_fault refusal = absurd refusal
refused_rules hosting host s change asked fault (Err NoMemory) is host_fault refusal = tt
refused_rules hosting host s change asked fault (Ok ruling) is host_fault refusal =
    rw is (rw (refusal.1) (Some fault, host_fault, fault_told asked fault refusal.0, tt))
