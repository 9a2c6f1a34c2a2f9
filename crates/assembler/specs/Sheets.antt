-- What is kept of the lines of a text that is read.
use Rattle.std.specs.Prelude.{◌≡◌, ⊤, ℕ, ◌+◌, pos, ◌≤◌, List, [], ◌∷◌, map, Option}
use Rattle.std.specs.Borrow.{Bor}
use Rattle.std.specs.BTreeMap.{BTreeMap, get_by}
use Rattle.std.specs.Cmp.Lexicographic.{slice_cmp}
use Rattle.std.specs.Ordering.{nat_cmp}
use Rattle.std.specs.Option.{option_map}
use Rattle.insn.specs.declared.instruction.Insn.{Insn}
use Rattle.insn.specs.Program.{slot_count, SLOT_LIMIT}
use Rattle.assembly.specs.Text.{Word, Line, Blank, Label, Statement, labels_in, slot_of, names_in, AllDiffer, line_of, words_in}
use Rattle.assembler.specs.declared.slot_number.SlotNumber.{SlotNumber}
use Rattle.assembler.specs.declared.draft.Draft.{Draft}
use Rattle.assembler.specs.declared.draft.Draft.TheVariants.{Whole, ToLabel}
use Rattle.assembler.specs.declared.sheet.Place.{Place}
use Rattle.assembler.specs.Drafts.{draft_slots, jump_over, IsDraft}

-- the lines of these bytes
abbrev pub lines_of : List (List ℕ) → List Line
lines_of parts = map (λ bytes. line_of (words_in bytes)) parts

-- the places of lines, behind so many others and from a slot on
abbrev pub AreFrom : ℕ → ℕ → List Line → List Place → Type 0
AreFrom number slot [] [] = ⊤
AreFrom number slot (Blank ∷ lines) places = AreFrom (number + 1) slot lines places
AreFrom number slot (Label name ∷ lines) places = AreFrom (number + 1) slot lines places
AreFrom number slot (Statement words ∷ lines) (p ∷ places) =
    IsDraft words p.draft × (p.line ≡ number + 1) × (p.behind.number ≡ slot + draft_slots p.draft) × AreFrom (number + 1) p.behind.number lines places
AreFrom number slot lines places = ⊥

-- an instruction of a draft, with 0 for a distance that is open
abbrev pub with_zero : Draft → Insn
with_zero (Whole i) = i
with_zero (ToLabel jump name) = jump_over jump (pos 0)

abbrev pub zeroed : List Place → List Insn
zeroed places = map (λ p. with_zero p.draft) places

-- the slot of a name in a map
abbrev pub find_in : BTreeMap (Bor (List ℕ)) SlotNumber → Word → Option ℕ
find_in labels name = option_map (λ slot. slot.number) (get_by (λ key. slice_cmp nat_cmp name key.now) labels)

-- lines were read: their places and labels are these, and this is the slot behind them
pub record AreRead (lines : List Line) (places : List Place) (find : Word → Option ℕ) (slot : ℕ) : Type 0 where
  pub stand : AreFrom 0 0 lines places
  pub behind : slot ≡ slot_count (zeroed places)
  pub labels : (name : Word) → find name ≡ slot_of (labels_in 0 lines (zeroed places)) name
  pub differ : AllDiffer (names_in lines)

pub record IsSheet (lines : List Line) (places : List Place) (find : Word → Option ℕ) : Type 0 where
  pub lines_read : AreRead lines places find (slot_count (zeroed places))
  pub short : slot_count (zeroed places) ≤ SLOT_LIMIT
