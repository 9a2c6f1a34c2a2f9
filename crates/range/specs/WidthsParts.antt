-- Beside Widths: only the contracts of this crate's own parts and their proofs cite this, no public clause.
use Rattle.std.specs.Prelude.{ℕ, ◌^◌}
use Rattle.range.specs.Names.{Width, int_width, swap_width, extend_width}
use mir.Val.{bits, hbits}
use Rattle.insn.specs.declared.operation.SwapBits.{SwapBits}
use Rattle.insn.specs.declared.operation.ExtendBits.{ExtendBits}

-- how many bits a width has
abbrev pub size : Width → ℕ
size w = bits (int_width w)

-- how many numbers it has
abbrev pub modulus : Width → ℕ
modulus w = 2 ^ size w

-- how many of them are not negative as signed numbers
abbrev pub half : Width → ℕ
half w = 2 ^ hbits (int_width w)

-- how many numbers the bits of a byte swap have
abbrev pub swapped_numbers : SwapBits → ℕ
swapped_numbers n = 2 ^ bits (swap_width n)

-- how many numbers the bits of a sign extension have
abbrev pub extended_numbers : ExtendBits → ℕ
extended_numbers n = 2 ^ bits (extend_width n)

-- how many of them are not negative as signed numbers
abbrev pub extended_half : ExtendBits → ℕ
extended_half n = 2 ^ hbits (extend_width n)
