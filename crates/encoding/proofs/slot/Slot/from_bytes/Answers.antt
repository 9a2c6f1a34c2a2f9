use Rattle.std.proofs.Common.{◌∙◌, ap, w16, w32, to_z, of_z, FitsSigned, rules, ◌≡◌, ℕ, ℤ, ◌+◌, ◌*◌, ◌/◌, ◌%◌, ◌<◌, List, [], ◌∷◌, length, get_or, refl, arith}
use Rattle.encoding.proofs.Names.{to_z-of_z, of_z-to_z, cast_signed, slot, slot_bytes}
use Rattle.encoding.proofs.slot.Slot.from_bytes.Goals as goal

-- a slot made from eight bytes has those bytes
spelled : (bytes : List ℕ) (offset imm : ℤ) → length bytes ≡ 8 → ((k : ℕ) → get_or bytes k 0 < 256)
    → offset ≡ cast_signed w16 (get_or bytes 2 0 + get_or bytes 3 0 * 256)
    → imm ≡ cast_signed w32 (get_or bytes 4 0 + get_or bytes 5 0 * 256 + get_or bytes 6 0 * 65536 + get_or bytes 7 0 * 16777216)
    → slot_bytes (slot (get_or bytes 0 0) (get_or bytes 1 0 % 16) (get_or bytes 1 0 / 16) offset imm) ≡ bytes
spelled (b0 ∷ b1 ∷ b2 ∷ b3 ∷ b4 ∷ b5 ∷ b6 ∷ b7 ∷ []) offset imm long fits o m =
    let low = b2 + b3 * 256 in
    let high = b4 + b5 * 256 + b6 * 65536 + b7 * 16777216 in
    let registers : b1 / 16 * 16 + b1 % 16 ≡ b1 = omega arith in
    let two : (low % 256 ≡ b2) × (low / 256 % 256 ≡ b3) = omega (arith, fits 2, fits 3) in
    let four : (high % 256 ≡ b4) × (high / 256 % 256 ≡ b5) × (high / 65536 % 256 ≡ b6) × (high / 16777216 % 256 ≡ b7) = omega (arith, fits 4, fits 5, fits 6, fits 7) in
    rw (o, m, registers, of_z-to_z w16 low (omega (arith, fits 2, fits 3)), of_z-to_z w32 high (omega (arith, fits 4, fits 5, fits 6, fits 7)), two.0, two.1, four.0, four.1, four.2, four.3) refl
spelled _ offset imm long fits o m = absurd (omega arith)

pub returns-clause-bytes : goal.returns-clause-bytes
returns-clause-bytes c =
    let f16 : FitsSigned w16 c.cast_signed.result = search rules in
    let f32 : FitsSigned w32 c.cast_signed-2.result = search rules in
    spelled c.args.bytes.now (to_z w16 (of_z w16 c.cast_signed.result)) (to_z w32 (of_z w32 c.cast_signed-2.result)) c.told-bytes c.fits-bytes
    (simp to_z-of_z (c.cast_signed.ensures ∙ ap (to_z w16) c.from_le_bytes-offset.ensures))
    (simp to_z-of_z (c.cast_signed-2.ensures ∙ ap (to_z w32) c.from_le_bytes-imm.ensures))
