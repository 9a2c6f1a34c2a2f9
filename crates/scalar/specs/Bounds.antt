-- Between which words, and between which signed numbers, a value's members lie.
use Rattle.std.specs.Prelude.{ℕ, ℤ}
use Rattle.range.specs.Signed.{least_of, greatest_of}
use Rattle.scalar.specs.declared.scalar.Scalar.{Scalar}

abbrev pub least_word : Scalar → ℕ
least_word s = s.unsigned.least

abbrev pub greatest_word : Scalar → ℕ
greatest_word s = s.unsigned.greatest

abbrev pub least_number : Scalar → ℤ
least_number s = least_of s.signed

abbrev pub greatest_number : Scalar → ℤ
greatest_number s = greatest_of s.signed
