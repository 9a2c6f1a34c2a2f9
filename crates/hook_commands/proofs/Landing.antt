-- The instruction that begins at a slot.
use Rattle.std.proofs.Common.{◌≡◌, ℕ, ◌<◌, ◌≤◌, List, [], ◌∷◌, Some, None, refl, arith, drop, length, get_or}
use Rattle.insn.specs.declared.instruction.Insn.{Insn}
use Rattle.insn.specs.Program.{places, slot_count}
use Rattle.insn.specs.RunLaws.{begins_here, begins_nowhere, stands_inside}
use Rattle.hook_commands.specs.Back.{line_at}

module _ (program : List Insn) (slot : ℕ) where
  -- where a program's rest is empty no instruction begins
  pub no_line : (rest : List Insn) → length rest < 1 → places rest ≡ drop slot (places program) → None ≡ line_at program slot
  no_line [] less same = rw (begins_nowhere program slot (record { same = same })) refl
  no_line (i ∷ after) less same = absurd (omega arith)

  -- and else its first one, inside the program
  pub first_line : (rest : List Insn) (none : Insn) → 1 ≤ length rest → places rest ≡ drop slot (places program) → Some (record { slot = slot; insn = get_or rest 0 none }) ≡ line_at program slot
  first_line [] none more same = absurd (omega arith)
  first_line (i ∷ after) none more same = rw (begins_here program slot i after (record { same = same })) refl

  pub slot_inside : (rest : List Insn) → 1 ≤ length rest → places rest ≡ drop slot (places program) → slot < slot_count program
  slot_inside [] more same = absurd (omega arith)
  slot_inside (i ∷ after) more same = stands_inside program slot i after (record { same = same })
