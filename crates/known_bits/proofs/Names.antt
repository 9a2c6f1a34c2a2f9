-- The names of other crates that more than one file of these proofs uses.
pub use Rattle.insn.specs.Word.{word_result, seen, word_holds, int_width, extend_width, word_extended, swap_width, word_swapped, wrapped, unary_result}
pub use Rattle.insn.specs.WordLaws.{negated_is, word_result_fits, word_extended_fits, word_in_width, word_swapped_fits}
pub use Rattle.insn.specs.declared.operation.BinOp.{BinOp}
pub use Rattle.insn.specs.declared.operation.BinOp.TheVariants.{Or, And, Xor, Lsh, Rsh, Add, Sub, Mul, Div, Mod, Mov, Arsh}
pub use Rattle.insn.specs.declared.operation.UnOp.TheVariants.{Neg, Swap, Extend}
pub use Rattle.insn.specs.declared.operation.Width.{Width}
pub use Rattle.insn.specs.declared.operation.Width.TheVariants.{W64, W32}
pub use Rattle.known_bits.specs.Exact.{IsExact, carry, Gives, GivesImage, IsExactImage, is_exact}
pub use Rattle.known_bits.specs.Members.{Agrees, HasBits}
pub use Rattle.known_bits.specs.Moves.{IsWanted, MovesBits, MovesLeft}
pub use Rattle.known_bits.specs.declared.bits.KnownBits.{KnownBits}
pub use Rattle.range.proofs.LowHalves.{narrow_low}
pub use Rattle.range.proofs.Results.{seen_same}
pub use Rattle.range.specs.Half.{is_told}
pub use Rattle.range.specs.Domain.{IsSingle, IsSoundResult, IsJoin, IsSoundImage}
pub use Rattle.std.proofs.Math.Nat.{add-mul, zero-mul, mul-add-div_right, mod-eq_of_lt, mul_comm, div-zero, mod-zero}
pub use Rattle.std.proofs.lemmas.Bool.{cases_lt, cases_eq, eq-eqb}
pub use Rattle.std.proofs.lemmas.Bool.Decides.{nat_tests, Decides-eqb, Decides-not}
pub use Rattle.std.proofs.lemmas.Nat.{and_le_r, or_lt, pow_pos, pow_below, and_mask, mod_below, xor_shr, div_below, shr_split, and_mod, le-div, or_disjoint, xor_lt, shr-shr, mod_low, or_mod, xor_mod}
pub use Rattle.std.proofs.lemmas.Nat.{mul-mod, le_or_l, le_or_r, one_shl}
pub use Rattle.std.proofs.lemmas.Nat.Bits.{bit_at-lt, bit_at_and, bit_at_or, bit_at_xor, bit_at_not, bit_at-zero, bit_at_above, bit_at_ones, bit_at-pow_other, same_from_bits, bit_at-pow_same}
pub use Rattle.std.proofs.lemmas.Nat.Bits.{and_pow, bit_at_cat_low, bit_at_cat_high, bit_at-trailing_zeros, bit_at_mask_below, bit_at_mask_inside}
pub use Rattle.std.specs.Int.{bit_at, bit_not, trailing_zeros, Width as IntWidth, cast_signed, cast_unsigned, int_shr, swap_bytes}
pub use Rattle.std.specs.Int.RustNames.{bit_and, bit_xor}
