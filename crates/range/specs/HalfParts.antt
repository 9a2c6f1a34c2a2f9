-- Beside Half: only the contracts of this crate's own parts and their proofs cite this, no public clause.
use Rattle.std.specs.Prelude.{ℕ, ◌<◌, ◌^◌, bit_and}
use Rattle.range.specs.Names.{Width, W64, BinOp, word_extended, word_result}
use Rattle.insn.specs.declared.operation.ExtendBits.TheVariants.{B32}
use Rattle.range.specs.declared.half.HalfRange.{HalfRange}
use Rattle.range.specs.Half.{InHalfRange, IsHalf}

-- the result for low halves, with their signs in the upper half
abbrev pub by_extended : Width → BinOp → ℕ → ℕ → ℕ
by_extended w op x y = word_result w op (word_extended W64 B32 x) (word_extended W64 B32 y)

-- that of a shift of 32 bits, by an amount below 32
abbrev pub shifted_by : BinOp → ℕ → ℕ → ℕ
shifted_by op x y = word_result W64 op (word_extended W64 B32 x) (bit_and (word_extended W64 B32 y) 31)

-- what a function gives of all words of two ranges; of one low half each it gives one
pub record HasResults (f : ℕ → ℕ → ℕ) (a b c : HalfRange) : Type 0 where
  pub has : (x y : ℕ) → InHalfRange a x → InHalfRange b y → InHalfRange c (f x y)
  pub single : (x y : ℕ) → x < 2 ^ 64 → y < 2 ^ 64 → IsHalf a x → IsHalf b y → IsHalf c (f x y)
