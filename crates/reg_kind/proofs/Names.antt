-- The names of other crates that more than one file of these proofs uses.
pub use Rattle.insn.specs.Outcomes.{access_place, Tested, Passes, and_then, failed, number_held, operation_result, or_fault}
pub use Rattle.insn.specs.Values.{region_size, at}
pub use Rattle.insn.specs.declared.layout.Layout.{Layout}
pub use Rattle.insn.specs.declared.operation.BinOp.TheVariants.{Add, Sub, Mov}
pub use Rattle.insn.specs.declared.state.Pointer.{Pointer}
pub use Rattle.insn.specs.declared.state.Region.{Region}
pub use Rattle.insn.specs.declared.state.Region.TheVariants.{Record as InRecord, Stack as InStack}
pub use Rattle.insn.specs.declared.state.Value.{Value}
pub use Rattle.insn.specs.declared.state.Value.TheVariants.{Address, Number as IsNumber}
pub use Rattle.insn.specs.declared.verify_fault.WalkFault.{WalkFault}
pub use Rattle.insn.specs.declared.verify_fault.WalkFault.TheVariants.{UnsetRegister, PointerMisuse, OutOfRegion, FallsOff, PointerRange}
pub use Rattle.reg_kind.specs.Fits.{IsRight, RegFits, SpanFits, pointer_to, NumberFits, ValueFits, StaysIn}
pub use Rattle.reg_kind.specs.Spans.{lowest, highest, move_of, moved_by, span_moved, span_raised, AmountFits, IsShifted, first_span, span_between}
pub use Rattle.reg_kind.specs.declared.reg.Reg.{Reg}
pub use Rattle.reg_kind.specs.declared.reg.Reg.TheVariants.{Unset, Number, Record, Stack}
pub use Rattle.reg_kind.specs.declared.span.Direction.{Direction}
pub use Rattle.reg_kind.specs.declared.span.Direction.TheVariants.{Up, Down}
pub use Rattle.reg_kind.specs.declared.span.Span.{Span}
pub use Rattle.scalar.specs.MemberLaws.{shows_one, InScalar-words}
pub use Rattle.scalar.specs.Members.{InScalar, ShowsOne}
pub use Rattle.scalar.specs.declared.scalar.Scalar.{Scalar}
pub use Rattle.std.proofs.lemmas.Bool.Decides.{nat_tests}
pub use Rattle.std.proofs.lemmas.Int.{ints, to_z-of_z}
pub use Rattle.std.specs.Int.{w64, cast_signed}
pub use Rattle.std.specs.Prelude.{◌≤ℤ◌, ◌+ℤ◌}
