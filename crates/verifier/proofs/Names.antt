-- The names of other crates that more than one file of these proofs uses.
pub use Rattle.verifier.specs.Names.{Effect, Exits, Falls, Jumps, word_of, operand_value, slots_of, reg_number, size_bytes, action_of, effect, passed, comparison, fault_at, slot_count, begins_at}
pub use Rattle.verifier.specs.Names.{walk_fault_at, look_verdict, Reaches, lead, exit_at, ExitsWithin, Safe, ◌>>=◌, Config, IsRecord, start, State, value_of, STACK_SIZE, entry, record_size}
pub use Rattle.verifier.specs.Names.{word_holds, wrapped, int_width, Action, Operate, Convert, LoadWord, LoadFrom, StoreAt, Go, End, Insn, Operand, Reg, Imm, Layout, BinOp, Add, Sub, Mov, Width, W32}
pub use Rattle.verifier.specs.Names.{W64, RegNo, R10, R0, Cell, Byte, Pointer, Value, Number, Address, WalkFault, PointerMisuse, PointerRange, ExitsWithPointer, ReadOnlyField, UnsetRegister}
pub use Rattle.verifier.specs.Names.{FallsOff, RegFits, ValueFits, IsKindJoin, IsKindResult, number_in_reg, IsKindImage, IsKnownNumber, Kind, InScalar, Scalar, StackFits, block_at, mark_at}
pub use Rattle.verifier.specs.Names.{box_value, filter_map, option_map, Flow, Jump, Next, Bits, Lowest, Sum, Difference}
pub use Rattle.insn.specs.Arithmetic.{left_operand}
pub use Rattle.insn.specs.FirstLook.{register_written_by, distance_in, first_found, look_fault, distance_of, distance_fault, jump_fault, write_fault, written_by}
pub use Rattle.insn.specs.Memory.{is_writable, within, low_bytes, may_hold, number_spelled, parts_of, value_in, with_value, written, is_unset}
pub use Rattle.insn.specs.MemoryLaws.{length-low_bytes, each-written, low_bytes_fit}
pub use Rattle.insn.specs.OutcomeLaws.{stuck_is_named}
pub use Rattle.insn.specs.Outcomes.{Fails, Tested, action_outcome, and_then, operation_result, or_fault, put, Passes, outcome, access_place, extended, failed, number_held}
pub use Rattle.insn.specs.Outcomes.{stored_state, held, passes_if, value_at, loaded}
pub use Rattle.insn.specs.Program.{SLOT_LIMIT, places}
pub use Rattle.insn.specs.Refusals.{look_fault_at}
pub use Rattle.insn.specs.RunLaws.{exit_ends, StandsAt, begins_here, stands_behind, stands_inside, first_rest, begins_along}
pub use Rattle.insn.specs.SlotLaws.{slots_of_bounds, length-places, nothing_inside}
pub use Rattle.insn.specs.Step.{step, steps}
pub use Rattle.insn.specs.Values.{at, region_size}
pub use Rattle.insn.specs.Word.{word_result, unary_result}
pub use Rattle.insn.specs.declared.operation.Cond.{Cond}
pub use Rattle.insn.specs.declared.operation.ExtendBits.{ExtendBits}
pub use Rattle.insn.specs.declared.operation.Size.{Size}
pub use Rattle.insn.specs.declared.operation.Size.TheVariants.{Eight}
pub use Rattle.insn.specs.declared.operation.UnOp.{UnOp}
pub use Rattle.insn.specs.declared.operation.UnOp.TheVariants.{Extend}
pub use Rattle.insn.specs.declared.state.Region.{Region}
pub use Rattle.insn.specs.declared.verify_fault.WalkFault.TheVariants.{OutOfRegion, UnsetByte}
pub use Rattle.reg_kind.proofs.Places.{kinds_access, writable_right}
pub use Rattle.reg_kind.proofs.Results.{LeftFits, image_of, images_right, kinds_right, IsImage, IsResult, KeepsAmount}
pub use Rattle.reg_kind.specs.Accesses.{is_span_writable, place_at, place_behind, place_in, IsAt, accessed, is_place_writable}
pub use Rattle.reg_kind.specs.Fits.{IsRight, StaysIn, SpanFits, pointer_to, IsRegJoin, IsAnswered, IsRegRefined}
pub use Rattle.reg_kind.specs.Operations.{IsComputed, IsRegMove, in_region}
pub use Rattle.reg_kind.specs.declared.place.Place.{Place}
pub use Rattle.reg_kind.specs.declared.span.Span.{Span}
pub use Rattle.scalar.specs.MemberLaws.{InScalar-words, shows_one}
pub use Rattle.stack_state.proofs.Spelled.{read, HasFit, held_right}
pub use Rattle.stack_state.specs.Accesses.{IsGiven, IsStored, AreStored, HoldsWhole, IsNumberRead, IsLoadFault, IsStoredWhole, IsTouched, IsWholePlace, touched, IsLoad}
pub use Rattle.stack_state.specs.Fits.{block_mark, value_mark, BlockFits, EachFits, MarkFits, block_cells, cells_filled}
pub use Rattle.stack_state.specs.Joins.{IsStackJoin, IsBlockJoin}
pub use Rattle.stack_state.specs.declared.block.Block.{Block}
pub use Rattle.stack_state.specs.declared.mark.Mark.{Mark}
pub use Rattle.stack_state.specs.declared.stack.Stack.{Stack}
pub use Rattle.std.proofs.Math.ListN.{get_or-map}
pub use Rattle.std.proofs.lemmas.Bool.{cases_eq, cases_lt, le-leb, eqb-true}
pub use Rattle.std.proofs.lemmas.Bool.Decides.{Decides-eqb}
pub use Rattle.std.proofs.lemmas.Int.{ints, to_z-of_z}
pub use Rattle.std.proofs.lemmas.List.{append-nil, append_assoc, get_or-set_other, get_or-set_same, length-set, length-take, length-drop, length-map, drop-map, take-map, length-replicate}
pub use Rattle.std.proofs.lemmas.List.{length-append, drop-set, drop_more, set-get_or, set-set, take-append-drop, take-set, take_more, drop-set-lt}
pub use Rattle.std.proofs.lemmas.List.Elements.{All-push, Contains-append_cases, Contains-append_left, Contains-append_right, filter_map-append}
pub use Rattle.std.specs.Int.{cast_unsigned}
pub use Rattle.std.specs.List.{list_any, cons_option}
pub use Rattle.std.specs.Option.{option_to_list, option_or}
pub use Rattle.std.specs.Prelude.{All, ◌+ℤ◌, not, IsSome, IfSome, is_some, slice_get, nat_lt}
pub use Rattle.verifier.specs.Findings.{IsAcceptance, IsExplained, IsKnownAt, NoneComesTo}
pub use Rattle.verifier.specs.Fits.{InStates, AsShape, IsWholePointer, Reading, RegIs, WhereSet, StackIs, StackShows, StateFits, is_exact}
pub use Rattle.verifier.specs.Follows.{FlowFits, FlowIs, Follows, WritesNoR10, reg_of, FlowOf, comparison_of, FlowTo, IsOperand, IsEntry, IsJoined, test_answer, IsFaulty, goes_behind}
pub use Rattle.verifier.specs.Kinds.{LeavesKnown, IsLinked, LeavesRow, IsSoundRow, Receives, flow_where, test_of, Extends, GivenAt, StoredAt, StoredOf, StoredWhere, kept_in_record, put_at}
pub use Rattle.verifier.specs.Kinds.{GivenIn, Put, StoredIn, IsWide, Loads, OfOperand}
pub use Rattle.verifier.specs.Learnt.{operand_set, IsSpreadToAll, IsCompared, IsSpreadBelow, IsSpread, IsTested, KeepsAnswered, MaySpread, SpreadOne, IsLearnt, answer_of, IsNarrowed}
pub use Rattle.links.specs.Links.{AreLeft, AreLinked, AreLinksJoined, AreMade, AreRelated, IsLinkJoin, LinkHolds, LinksHold, bits_after, lesser, link_at, link_left, plus_after, AreValuesLinked}
pub use Rattle.links.specs.Links.{copied, difference_from, less, link_kept, link_made, link_of, with_turn}
pub use Rattle.links.specs.LinksParts.{AreNumbersRefined, IsEqualKept, IsLinkRefined}
pub use Rattle.verifier.specs.LearntParts.{IsNarrowedOrNone}
pub use Rattle.verifier.specs.Shapes.{effects, shape_of, MovesNone, NoMovedPointer, both_ways, branch_in, blank_cell, blank_value, OnWay, shape_config, IsStuckShape, Uniform, ways, ways_from}
pub use Rattle.verifier.specs.Typing.{IsNoMoreThan, HasTyping, IsTyping, GoesTyped, MayCome, IsNeverStuck, UniformIsTyped}
pub use Rattle.verifier.specs.Waits.{AreBothPushed, IsTestSettled, IsPassed, IsPushed, IsRefusedAt, IsRefusedHere, IsTaken, IsToldOnward, IsVisited, PassesEach}
pub use Rattle.verifier.specs.Waits.{ahead_alone, behind_alone, onward_by_both, onward_of, onward_of_each, onward_from, slot_unless, unreached_by}
pub use Rattle.verifier.specs.Waits.{either, nowhere, IsBegun, IsAdded, IsSettled, IsWayPushed, MayPush, HasWalked, Begun, Visited, IsJoinedIn, StandsBeside, IsMerged}
pub use Rattle.verifier.specs.WaitsParts.{AreBothTold, IsCopy, IsFar, IsLastPassage, IsPassage, IsTestTold, IsVisit, IsWayTold, IsFirst, IsFirstPlace, IsRoomFor}
pub use Rattle.verifier.specs.declared.known.Known.{Known}
pub use Rattle.verifier.specs.declared.known.Test.{Test}
pub use Rattle.links.specs.declared.link.Link.{Link}
pub use Rattle.links.specs.declared.link.Links.{Links}
