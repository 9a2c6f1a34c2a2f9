-- The names of other crates that more than one file of these proofs uses.
pub use Rattle.links.specs.Names.{RegNo, BinOp, Add, Sub, Width, W32, W64, Value, Number, Address, reg_number, Action, Cell, block_at, word_holds, wrapped, Scalar, InScalar, Kind, RegFits, Bits, Lowest, Sum, Difference, Link}
pub use Rattle.links.specs.Links.{AreLeft, AreLinked, AreLinksJoined, AreMade, AreRelated, AreValuesLinked, IsLinkJoin, LinkHolds, LinksHold, bits_after, lesser, link_at, link_left, plus_after}
pub use Rattle.links.specs.LinksParts.{AreNumbersRefined, IsEqualKept, IsLinkRefined}
pub use Rattle.links.specs.Narrowed.{IsDerived, IsTraced}
pub use Rattle.links.specs.declared.link.Links.{Links}
pub use Rattle.insn.specs.Word.{word_result}
pub use Rattle.scalar.specs.MemberLaws.{InScalar-words, shows_one}
pub use Rattle.std.proofs.lemmas.Bool.{cases_eq}
pub use Rattle.std.proofs.lemmas.Bool.Decides.{Decides-eqb}
pub use Rattle.std.proofs.lemmas.List.{get_or-set_other, get_or-set_same, set-get_or}
pub use Rattle.std.specs.Int.{cast_unsigned}
pub use Rattle.std.specs.Option.{option_or}
pub use Rattle.reg_kind.specs.Fits.{IsKindJoin}
pub use Rattle.stack_state.specs.Fits.{block_cells, cells_filled}
pub use Rattle.stack_state.specs.Joins.{IsBlockJoin}
pub use Rattle.stack_state.specs.declared.block.Block.{Block}
pub use Rattle.stack_state.specs.declared.stack.Stack.{Stack}
