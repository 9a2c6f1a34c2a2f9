-- Why hooks are refused, and how that is printed.
use Rattle.std.specs.Prelude.{ℕ, List, ◌++◌, codes}
use Rattle.insn.specs.declared.fault.InsnFault.{InsnFault}
use Rattle.insn.specs.declared.fault.InsnFault.TheVariants as insn
use Rattle.insn.specs.declared.verify_fault.VerifyFault.{VerifyFault}
use Rattle.insn.specs.declared.verify_fault.VerifyFault.TheVariants as verify
use Rattle.insn.specs.FaultTexts.{insn_fault_text, verify_fault_text}
use Rattle.hook_host.specs.declared.fault.HookFault.{HookFault}
use Rattle.hook_host.specs.declared.fault.HookFault.TheVariants.{Insn, Verify, NameTaken, BadName, Full, Unknown, Memory}

-- want of memory is Memory, whatever it was wanted for
abbrev pub of_decoding : InsnFault → HookFault
of_decoding insn.Memory = Memory
of_decoding fault = Insn fault

abbrev pub of_verifying : VerifyFault → HookFault
of_verifying verify.Memory = Memory
of_verifying fault = Verify fault

abbrev pub hook_fault_text : HookFault → List ℕ
hook_fault_text (Insn fault) = codes "Insn " ++ insn_fault_text fault
hook_fault_text (Verify fault) = codes "Verify " ++ verify_fault_text fault
hook_fault_text NameTaken = codes "NameTaken"
hook_fault_text BadName = codes "BadName"
hook_fault_text Full = codes "Full"
hook_fault_text Unknown = codes "Unknown"
hook_fault_text Memory = codes "Memory"
