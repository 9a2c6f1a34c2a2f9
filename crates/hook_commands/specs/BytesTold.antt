-- What is told of the bytes of the stack that a load reads.
use Rattle.std.specs.Prelude.{◌≡◌, ℕ, zero, suc, ℤ, ◌+◌, ◌*◌, ◌-◌, ◌/◌, ◌&&◌, if◌then◌else◌, Bool, true, false, List, [], ◌∷◌, ◌++◌, Option, Some, None, Result, Ok, Err}
use Rattle.hook_commands.specs.Names.{Layout, size_bytes, Known, reg_of}
use Rattle.insn.specs.declared.action.Action.{Action}
use Rattle.insn.specs.declared.action.Action.TheVariants.{LoadFrom}
use Rattle.insn.specs.declared.operation.Size.TheVariants.{Eight}
use Rattle.insn.specs.declared.state.Region.{Region}
use Rattle.insn.specs.declared.state.Region.TheVariants as region
use Rattle.insn.specs.declared.verify_fault.WalkFault.{WalkFault}
use Rattle.reg_kind.specs.declared.place.Place.{Place}
use Rattle.reg_kind.specs.declared.reg.Reg.{Reg}
use Rattle.reg_kind.specs.declared.reg.Reg.TheVariants as reg
use Rattle.reg_kind.specs.declared.span.Span.{Span}
use Rattle.reg_kind.specs.Accesses.{place_behind}
use Rattle.reg_kind.specs.Spans.{span_from}
use Rattle.stack_state.specs.declared.mark.Mark.{Mark}
use Rattle.stack_state.specs.declared.mark.Mark.TheVariants as mark
use Rattle.stack_state.specs.declared.stack.Stack.{Stack}
use Rattle.stack_state.specs.Accesses.{IsGiven, IsLoad}
use Rattle.stack_state.specs.Fits.{mark_at}
use Rattle.hook_commands.specs.declared.bytes_told.BytesRead.{BytesRead}
use Rattle.hook_commands.specs.declared.bytes_told.BytesTold.{BytesTold}
use Rattle.hook_commands.specs.declared.bytes_told.BytesTold.TheVariants.{Block, Byte}

-- ---- the bytes that are read

-- n bytes from each offset of a span on, where they lie in the stack
abbrev pub stack_bytes_in : Region → Span → ℕ → Option BytesRead
stack_bytes_in region.Record span n = None
stack_bytes_in region.Stack span n = Some (record { from = span.least; to = span.greatest + n })

abbrev pub bytes_at : Result Place WalkFault → ℕ → Option BytesRead
bytes_at (Err fault) n = None
bytes_at (Ok place) n = stack_bytes_in place.region place.span n

-- n bytes so far behind what a register holds
abbrev pub bytes_behind : Layout → Reg → ℤ → ℕ → Option BytesRead
bytes_behind layout r offset n = bytes_at (place_behind layout r offset n) n

-- the bytes of the stack that are read, or may be
abbrev pub bytes_read : Layout → Known → Action → Option BytesRead
bytes_read layout known (LoadFrom size extension dst src offset) = bytes_behind layout (reg_of known src) offset (size_bytes size)
bytes_read layout known action = None

-- ---- what is told of a block: eight bytes from a multiple of eight on

abbrev pub is_unset_mark : Mark → Bool
is_unset_mark mark.Unset = true
is_unset_mark known = false

-- so many bytes from one on are unset
abbrev pub are_unset : Stack → ℕ → ℕ → Bool
are_unset stack from zero = true
are_unset stack from (suc n) = are_unset stack from n && is_unset_mark (mark_at stack (from + n))

-- each of so many bytes from one on
abbrev pub bytes_each : Stack → ℕ → ℕ → List BytesTold
bytes_each stack from zero = []
bytes_each stack from (suc n) = bytes_each stack from n ++ Byte (from + n) (mark_at stack (from + n)) ∷ []

-- a load of eight bytes gives this, as they are known: the value that stands there whole, a number where all are bytes,
-- or a fault
pub record GivesBlock (stack : Stack) (from : ℕ) (answer : Result Reg WalkFault) : Type 0 where
  pub given : IsGiven stack (span_from from from) Eight answer
  pub reads : IsLoad stack (span_from from from) Eight answer

-- what a load of eight bytes gives is told, or else that none of them is set, or else each of them by itself
abbrev pub block_told : Stack → ℕ → Result Reg WalkFault → List BytesTold
block_told stack from (Ok value) = Block from value ∷ []
block_told stack from (Err fault) = if are_unset stack from 8 then Block from reg.Unset ∷ [] else bytes_each stack from 8

-- the block that begins at a byte is told behind what was
abbrev pub TellsBlockBehind : Stack → ℕ → List BytesTold → List BytesTold → Type 0
TellsBlockBehind stack from before told =
    (answer : Result Reg WalkFault) × GivesBlock stack from answer × (told ≡ before ++ block_told stack from answer)

-- so many blocks are told, in order, from one on
abbrev pub TellsBlocks : Stack → ℕ → ℕ → List BytesTold → Type 0
TellsBlocks stack first zero told = told ≡ []
TellsBlocks stack first (suc n) told =
    (before : List BytesTold) × TellsBlocks stack first n before × TellsBlockBehind stack (8 * (first + n)) before told

-- ---- what is told of a load

-- the block in which bytes begin, and how many of them they touch
abbrev pub first_block : BytesRead → ℕ
first_block bytes = bytes.from / 8

abbrev pub block_count : BytesRead → ℕ
block_count bytes = (bytes.to + 7) / 8 - first_block bytes

-- each block that bytes touch is told
abbrev pub TellsRead : Stack → Option BytesRead → List BytesTold → Type 0
TellsRead stack None told = told ≡ []
TellsRead stack (Some bytes) told = TellsBlocks stack (first_block bytes) (block_count bytes) told

-- what is known of the bytes of the stack that are read is told
abbrev pub TellsBytes : Layout → Known → Action → List BytesTold → Type 0
TellsBytes layout known action told = TellsRead known.stack (bytes_read layout known action) told
