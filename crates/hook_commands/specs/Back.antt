-- What is told of a jump back: the jump, and the instruction to which it leads.
use Rattle.std.specs.Prelude.{◌≡◌, ◌+◌, ◌≤◌, ℕ, negsuc, List, Option, Some, None, option_and_then}
use Rattle.hook_commands.specs.Names.{option_map, VerifyFault, JumpBack, distance_of, slots_of, begins_at}
use Rattle.insn.specs.declared.instruction.Insn.{Insn}
use Rattle.lister.specs.declared.slots.SlotLine.{SlotLine}
use Rattle.hook_commands.specs.declared.back.JumpBackTold.{JumpBackTold}

-- the instruction that begins at a slot, behind that slot
abbrev pub line_at : List Insn → ℕ → Option SlotLine
line_at program slot = option_map (λ i. record { slot = slot; insn = i }) (begins_at program slot)

-- the slot n + 1 slots before another; there is none where that lies before the first
abbrev pub IsBefore : ℕ → ℕ → Option ℕ → Type 0
IsBefore slot n None = slot ≤ n
IsBefore slot n (Some to) = to + n + 1 ≡ slot

-- the slot to which a jump leads that leads back: so many slots before the one behind it
abbrev pub IsBackTo : SlotLine → Option ℕ → Type 0
IsBackTo line to = (n : ℕ) → distance_of line.insn ≡ Some (negsuc n) → IsBefore (line.slot + slots_of line.insn) n to

-- a jump back is told, and what begins where it leads
pub record IsJumpBack (program : List Insn) (slot : ℕ) (told : JumpBackTold) : Type 0 where
  pub here : line_at program slot ≡ Some told.jump
  pub back : Option ℕ
  pub leads : IsBackTo told.jump back
  pub there : told.to ≡ option_and_then (line_at program) back

-- of a fault of the first look a jump back alone is told
abbrev pub IsJumpTold : List Insn → VerifyFault → Option JumpBackTold → Type 0
IsJumpTold program (JumpBack slot) None = line_at program slot ≡ None
IsJumpTold program (JumpBack slot) (Some told) = IsJumpBack program slot told
IsJumpTold program fault told = told ≡ None
