-- A program with its slots.
use Rattle.std.specs.Prelude.{ℕ, ◌+◌, List, [], ◌∷◌}
use Rattle.insn.specs.declared.instruction.Insn.{Insn}
use Rattle.insn.specs.Instruction.{slots_of}
use Rattle.lister.specs.declared.slots.SlotLine.{SlotLine}

-- each instruction behind the slot at which it begins, from a slot on
abbrev pub lines_from : ℕ → List Insn → List SlotLine
lines_from slot [] = []
lines_from slot (i ∷ rest) = record { slot = slot; insn = i } ∷ lines_from (slot + slots_of i) rest

abbrev pub slot_lines : List Insn → List SlotLine
slot_lines program = lines_from 0 program
