-- The names of other crates that more than one file of these proofs uses.
pub use Rattle.range.specs.Names.{extend_width, int_width, unary_result, word_extended, word_result, seen, result_in, BinOp, Add, Sdiv, Lsh, Smod, Arsh, Mod, Eq, Ne, Lt, Le, Gt, Ge, Width, W32, W64}
pub use Rattle.insn.specs.Word.{signed_quotient, signed_remainder, wrapped}
pub use Rattle.insn.specs.WordLaws.{image_is_word, negated_is, word_extended_fits, word_in_width, word_result_fits}
pub use Rattle.insn.specs.declared.operation.BinOp.TheVariants.{Sub, Mul, Or, And, Xor, Mov}
pub use Rattle.insn.specs.declared.operation.ExtendBits.{ExtendBits}
pub use Rattle.insn.specs.declared.operation.ExtendBits.TheVariants.{B8, B16, B32}
pub use Rattle.range.specs.Conditions.{HasAnswer, says}
pub use Rattle.range.specs.ConditionsParts.{IsAnsweredIn, IsOfPlaces}
pub use Rattle.range.specs.Domain.{IsSingle, IsRefined, Keeps}
pub use Rattle.range.specs.Half.{InHalfRange, IsDeterminedImage, IsHalf, is_told, places_of}
pub use Rattle.range.specs.MemberLaws.{same_low}
pub use Rattle.range.specs.Places.{LiesIn, signed_place, number_at}
pub use Rattle.range.specs.Sets.{IsLeast, IsLeastPair, IsMeet, AreWithin, IsLeft, IsRight, IsLeastAnswered, IsLeastRefined, IsWithin}
pub use Rattle.range.specs.Signed.{InSignedRange, least_of, greatest_of}
pub use Rattle.range.specs.Unsigned.{InRange, IsWordSum}
pub use Rattle.range.specs.UnsignedParts.{IsReached, AreCompared, IsCutBy, IsLeastPlaced, turned_round}
pub use Rattle.range.specs.WidthsParts.{size, modulus, extended_half, half}
pub use Rattle.range.specs.declared.signed.SRange.{SRange}
pub use Rattle.range.specs.declared.unsigned.URange.{URange}
pub use Rattle.std.proofs.Math.Facts.{sfits_to_z, sfits_widen, Fits-of_z}
pub use Rattle.std.proofs.Math.Nat.{mul-add, mul_comm, mul-one, mul_assoc, div-le_self, div-mul-le_self, mod-eq_of_lt, mod-le, mod-zero}
pub use Rattle.std.proofs.lemmas.Bool.{cases_lt, true≢false}
pub use Rattle.std.proofs.lemmas.Int.{ints, to_z-of_z, of_z-to_z, to_z_pos, int_wrap_fits, wrapping_mul-bits, clamps, quot_fits, rem_is, wrapping_add-bits, wrapping_sub-bits, quot_is}
pub use Rattle.std.proofs.lemmas.Nat.{and_mask, or_lt, xor_lt, pow_pos, pow-add, shr_high, leading_length, one_shl, and_mod, or_mod, xor_mod, mul-mod, mul-mod_first, le-div, mul-le, div-add-mod'}
pub use Rattle.std.proofs.lemmas.Nat.{mod_below, and_le_r}
pub use Rattle.std.specs.Int.{Width as IntWidth, cast_signed, cast_unsigned, int_shr, int_max, int_min}
pub use Rattle.std.specs.Int.RustNames.{int_div, int_rem}
pub use Rattle.std.specs.Int.Signed.{mag_shr, mag_rem}
