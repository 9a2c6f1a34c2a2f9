-- A pointer moved by a word, read as an unsigned or as a signed number.
use Rattle.std.proofs.Common.{◌≡◌, ℕ, ◌^◌, ◌<◌, ◌≤◌, ℤ, pos, ◌⊎◌, arith}
use Rattle.reg_kind.proofs.Names.{Direction}
use Rattle.reg_kind.proofs.Names.{◌≤ℤ◌, w64, cast_signed, ints, moved_by, move_of}
use Rattle.insn.specs.declared.operation.Width.TheVariants.{W64}
use Rattle.insn.specs.Word.{word_result}

-- a reading of a word: the number itself, or the signed one
abbrev pub IsReading : ℕ → ℤ → Type 0
IsReading n z = (z ≡ pos n) ⊎ (z ≡ cast_signed w64 n)

-- what is read as a word moves a pointer so, where it stays in the region
pub moved_read : (way : Direction) (o n size : ℕ) (z : ℤ) → IsReading n z → o < 2 ^ 16 → size ≤ 512 → n < 2 ^ 64 → pos 0 ≤ℤ moved_by way (pos o) z → moved_by way (pos o) z ≤ℤ pos size → pos (word_result W64 (move_of way) o n) ≡ moved_by way (pos o) z
moved_read way o n size z reading a b c d f = grind (arith, ints)

-- where that is in a region, one of the two readings says so
pub moved_fits : (way : Direction) (o n size : ℕ) → o < 2 ^ 16 → size ≤ 512 → n < 2 ^ 64 → word_result W64 (move_of way) o n ≤ size
    → ((pos 0 ≤ℤ moved_by way (pos o) (pos n)) × (moved_by way (pos o) (pos n) ≤ℤ pos size)) ⊎ ((pos 0 ≤ℤ moved_by way (pos o) (cast_signed w64 n)) × (moved_by way (pos o) (cast_signed w64 n) ≤ℤ pos size))
moved_fits way o n size a b c d = grind (arith, ints)
