-- The names by which faults are told.
use Rattle.std.specs.Prelude.{ℕ, List, ◌++◌, codes}
use Rattle.std.specs.Fmt.{decimal}
use Rattle.insn.specs.declared.fault.InsnFault.{InsnFault}
use Rattle.insn.specs.declared.fault.InsnFault.TheVariants as insn
use Rattle.insn.specs.declared.verify_fault.VerifyFault.{VerifyFault}
use Rattle.insn.specs.declared.verify_fault.VerifyFault.TheVariants as verify

-- a name, and a slot in brackets
abbrev pub at_slot : List ℕ → ℕ → List ℕ
at_slot name slot = name ++ codes "(" ++ decimal slot ++ codes ")"

abbrev pub insn_fault_text : InsnFault → List ℕ
insn_fault_text insn.Empty = codes "Empty"
insn_fault_text insn.BadLength = codes "BadLength"
insn_fault_text insn.TooLong = codes "TooLong"
insn_fault_text (insn.UnknownOpcode slot) = at_slot (codes "UnknownOpcode") slot
insn_fault_text (insn.BadRegister slot) = at_slot (codes "BadRegister") slot
insn_fault_text (insn.NonzeroField slot) = at_slot (codes "NonzeroField") slot
insn_fault_text (insn.TruncatedWide slot) = at_slot (codes "TruncatedWide") slot
insn_fault_text (insn.Atomic slot) = at_slot (codes "Atomic") slot
insn_fault_text (insn.Call slot) = at_slot (codes "Call") slot
insn_fault_text (insn.LegacyLoad slot) = at_slot (codes "LegacyLoad") slot
insn_fault_text insn.Memory = codes "Memory"

abbrev pub verify_fault_text : VerifyFault → List ℕ
verify_fault_text (verify.JumpOut slot) = at_slot (codes "JumpOut") slot
verify_fault_text (verify.JumpBack slot) = at_slot (codes "JumpBack") slot
verify_fault_text (verify.JumpIntoWide slot) = at_slot (codes "JumpIntoWide") slot
verify_fault_text (verify.WritesR10 slot) = at_slot (codes "WritesR10") slot
verify_fault_text (verify.FallsOff slot) = at_slot (codes "FallsOff") slot
verify_fault_text (verify.UnsetRegister slot) = at_slot (codes "UnsetRegister") slot
verify_fault_text (verify.UnsetByte slot) = at_slot (codes "UnsetByte") slot
verify_fault_text (verify.OutOfRegion slot) = at_slot (codes "OutOfRegion") slot
verify_fault_text (verify.ReadOnlyField slot) = at_slot (codes "ReadOnlyField") slot
verify_fault_text (verify.PointerMisuse slot) = at_slot (codes "PointerMisuse") slot
verify_fault_text (verify.ExitsWithPointer slot) = at_slot (codes "ExitsWithPointer") slot
verify_fault_text (verify.PointerRange slot) = at_slot (codes "PointerRange") slot
verify_fault_text verify.Memory = codes "Memory"
