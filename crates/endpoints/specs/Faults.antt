-- Why a change is not made again, where a hook or the store is why.
use Rattle.endpoints.specs.Names.{HookFault, RedoFault, Hook, Unknown, DrawTaken}
use Rattle.hook_host.specs.declared.fault.HookFault.TheVariants as hook
use Rattle.token_store.specs.declared.fault.AgainFault.{AgainFault}
use Rattle.token_store.specs.declared.fault.AgainFault.TheVariants as again
use Rattle.endpoints.specs.declared.redo.RedoFault.TheVariants.{Memory}

-- want of memory is Memory, whatever it was wanted for
abbrev pub of_hook_fault : HookFault → RedoFault
of_hook_fault hook.Memory = Memory
of_hook_fault fault = Hook fault

abbrev pub of_again_fault : AgainFault → RedoFault
of_again_fault again.Unknown = Unknown
of_again_fault again.DrawTaken = DrawTaken
of_again_fault again.Memory = Memory
