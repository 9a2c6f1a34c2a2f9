-- The names of other crates that more than one file of these proofs uses.
pub use Rattle.insn.specs.Instruction.{size_bytes}
pub use Rattle.insn.specs.Memory.{low_bytes, number_spelled, value_in, parts_of, written, are_parts, is_unset, may_hold}
pub use Rattle.insn.specs.MemoryLaws.{unset_holds, length-low_bytes, length-written}
pub use Rattle.insn.specs.Outcomes.{Passes, failed, value_at, stored_state, Tested, all_set, and_then, or_fault}
pub use Rattle.insn.specs.Values.{State, at}
pub use Rattle.insn.specs.declared.layout.Layout.{Layout}
pub use Rattle.insn.specs.declared.operation.BinOp.TheVariants.{Add, And, Lsh, Rsh}
pub use Rattle.insn.specs.declared.operation.Size.{Size}
pub use Rattle.insn.specs.declared.state.Cell.{Cell}
pub use Rattle.insn.specs.declared.state.Pointer.{Pointer}
pub use Rattle.insn.specs.declared.state.Region.TheVariants.{Stack as InStack}
pub use Rattle.insn.specs.declared.state.Value.{Value}
pub use Rattle.insn.specs.declared.state.Value.TheVariants.{Address}
pub use Rattle.insn.specs.declared.verify_fault.WalkFault.{WalkFault}
pub use Rattle.insn.specs.declared.verify_fault.WalkFault.TheVariants.{FallsOff, UnsetByte, PointerMisuse}
pub use Rattle.reg_kind.specs.Fits.{IsRight, SpanFits, ValueFits, RegFits, StaysIn}
pub use Rattle.reg_kind.proofs.Shifts.{amount_word}
pub use Rattle.reg_kind.specs.Spans.{AmountFits}
pub use Rattle.reg_kind.specs.declared.reg.Reg.{Reg}
pub use Rattle.reg_kind.specs.declared.span.Span.{Span}
pub use Rattle.scalar.specs.MemberLaws.{InScalar-words, shows_one}
pub use Rattle.scalar.specs.Members.{ShowsOne, InScalar}
pub use Rattle.scalar.specs.declared.scalar.Scalar.{Scalar}
pub use Rattle.stack_state.specs.Accesses.{AreBytes, HoldsWhole, IsGiven, IsLoad, IsLoadFault, IsNumberRead, IsTouched, IsWholePlace, IsWithinBlock, Touches, HoldsNone, AreStored, IsWordStored}
pub use Rattle.stack_state.specs.Accesses.{touched, IsStored, IsStoredWhole}
pub use Rattle.stack_state.specs.Blocks.{IsNotWhole, IsTorn}
pub use Rattle.stack_state.specs.BlocksParts.{BlockPut, IsBeside, IsPut, IsValueAt, IsWordPut}
pub use Rattle.stack_state.specs.Fits.{HasWord, StackFits, WordIn, block_at, block_cells, mark_at, BlockFits, MarkFits, WordFits, block_mark, cells_filled, value_mark, MaySpell}
pub use Rattle.stack_state.specs.Joins.{IsBlockJoin, IsMarkJoin, IsMeeting, IsStackJoin, block_of, common_mark}
pub use Rattle.stack_state.specs.Words.{byte_of, word_with, bytes_from}
pub use Rattle.stack_state.specs.declared.block.Block.{Block}
pub use Rattle.stack_state.specs.declared.block.Block.TheVariants.{Whole}
pub use Rattle.stack_state.specs.declared.mark.Mark.{Mark}
pub use Rattle.stack_state.specs.declared.stack.Stack.{Stack}
pub use Rattle.std.proofs.lemmas.Bool.{cases_eq, cases_lt}
pub use Rattle.std.proofs.lemmas.Bool.Decides.{nat_tests}
pub use Rattle.std.proofs.lemmas.List.{get_or-replicate, length-replicate, length-map, get_or-set_other, get_or-set_same, length-set, places, same_lists, get_or_default}
pub use Rattle.std.proofs.lemmas.Nat.{and-not, and_comm, and_mask, field_of, mod-pow-add, mod_low, mod_below, mul-add-lt, pow-add, pow_pos, shl_whole, shr-shr, shr_below, shr_high, shr_split}
