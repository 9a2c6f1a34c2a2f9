-- Where an access of some bytes behind a register's pointer begins, and why it is refused.
use Rattle.std.specs.Prelude.{◌≡◌, ℕ, ◌+◌, ◌-◌, ◌≤◌, ◌&&◌, nat_le, ℤ, Bool, true, Option, Some, None, Result, Ok, Err, IfOk}
use Rattle.insn.specs.declared.operation.Size.{Size}
use Rattle.insn.specs.declared.layout.Layout.{Layout}
use Rattle.insn.specs.declared.state.Region.{Region}
use Rattle.insn.specs.declared.state.Region.TheVariants.{Record as InRecord, Stack as InStack}
use Rattle.insn.specs.declared.state.Value.{Value}
use Rattle.insn.specs.declared.state.Pointer.{Pointer}
use Rattle.insn.specs.declared.verify_fault.WalkFault.{WalkFault}
use Rattle.insn.specs.declared.verify_fault.WalkFault.TheVariants.{UnsetRegister, OutOfRegion, PointerMisuse}
use Rattle.insn.specs.Instruction.{size_bytes}
use Rattle.insn.specs.Values.{region_size, writable_from, writable_to}
use Rattle.insn.specs.Outcomes.{Tested, access_place, and_then, held}
use Rattle.reg_kind.specs.declared.reg.Reg.{Reg}
use Rattle.reg_kind.specs.declared.reg.Reg.TheVariants.{Unset, Number, Record, Stack}
use Rattle.reg_kind.specs.declared.span.Span.{Span}
use Rattle.reg_kind.specs.declared.place.Place.{Place}
use Rattle.reg_kind.specs.Spans.{span_raised}
use Rattle.reg_kind.specs.Fits.{RegFits, SpanFits, IsRight, StaysIn}

-- a pointer is at a place
abbrev pub IsAt : Bool → Place → Pointer → Type 0
IsAt exact place p = (p.region ≡ place.region) × SpanFits exact place.span p.offset

-- where n bytes behind the offsets of a span begin; refused where an end of it leaves the region
abbrev pub place_at : Region → Option Span → Result Place WalkFault
place_at region None = Err OutOfRegion
place_at region (Some span) = Ok (record { region = region; span = span })

abbrev pub place_in : Layout → Region → Span → ℤ → ℕ → Result Place WalkFault
place_in layout region span offset n = place_at region (span_raised (region_size layout region - n) span offset offset)

-- the same behind what a register holds
abbrev pub place_behind : Layout → Reg → ℤ → ℕ → Result Place WalkFault
place_behind layout Unset offset n = Err UnsetRegister
place_behind layout (Number a) offset n = Err PointerMisuse
place_behind layout (Record span) offset n = place_in layout InRecord span offset n
place_behind layout (Stack span) offset n = place_in layout InStack span offset n

-- from the first byte to the last, n bytes at each offset of a place lie within the record's two bounds, or on the stack
abbrev pub is_span_writable : Layout → Region → Span → ℕ → Bool
is_span_writable layout InRecord span n = nat_le (writable_from layout) span.least && nat_le (span.greatest + n) (writable_to layout)
is_span_writable layout InStack span n = true

abbrev pub is_place_writable : Layout → Place → ℕ → Bool
is_place_writable layout place n = is_span_writable layout place.region place.span n

-- all bytes at a place lie in its region
abbrev pub AreInside : Layout → Size → Place → Type 0
AreInside layout size place = place.span.greatest + size_bytes size ≤ region_size layout place.region

-- where an access of what a register holds begins
abbrev pub accessed : Layout → Option Value → ℤ → Size → Tested Pointer
accessed layout o offset size = and_then (held o) (λ base. access_place layout base offset size)

-- an answer is right for every value that a register may hold
pub record IsAccess (layout : Layout) (r : Reg) (offset : ℤ) (size : Size) (answer : Result Place WalkFault) : Type 0 where
  pub stays : StaysIn answer
  pub inside : IfOk answer (AreInside layout size)
  pub right : (exact : Bool) (v : Option Value) → RegFits exact r v → IsRight (IsAt exact) exact answer (accessed layout v offset size)
