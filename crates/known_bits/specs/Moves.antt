-- Functions on words that only move bits, and tests of bits in common.
use Rattle.std.specs.Prelude.{◌≡◌, ◌↔◌, ℕ, ◌<◌, ◌^◌, ◌⊎◌, nat_lt, Bool}
use Rattle.std.specs.Int.{bit_at, bit_not, w64}
use Rattle.std.specs.Int.RustNames.{bit_and}
use Rattle.insn.specs.declared.operation.Width.{Width}
use Rattle.insn.specs.declared.operation.BinOp.{BinOp}
use Rattle.insn.specs.Word.{word_result}
use Rattle.known_bits.specs.declared.bits.KnownBits.{KnownBits}
use Rattle.known_bits.specs.Members.{HasBits}

-- each bit of a result is 0 for every word, or is one bit of the word
pub record MovesBits (f : ℕ → ℕ) : Type 0 where
  pub fits : (n : ℕ) → n < 2 ^ 64 → f n < 2 ^ 64
  pub source : (k : ℕ) → ((n : ℕ) → n < 2 ^ 64 → bit_at (f n) k ≡ 0) ⊎ ((s : ℕ) × ((n : ℕ) → n < 2 ^ 64 → bit_at (f n) k ≡ bit_at n s))

-- an operation moves the bits of its left operand, whatever word the right one is
abbrev pub MovesLeft : BinOp → Width → Type 0
MovesLeft op w = (n : ℕ) → n < 2 ^ 64 → MovesBits (λ x. word_result w op x n)

-- with one word that is known, a test of a bit in common has an answer exactly for the words that have these of its bits
pub record IsWanted (t : KnownBits) (taken : Bool) (n : ℕ) : Type 0 where
  pub only : (x : ℕ) → HasBits t x → x ≡ t.value
  pub inside : bit_and n (bit_not w64 t.value) ≡ 0
  pub says : (x : ℕ) → (nat_lt 0 (bit_and x t.value) ≡ taken) ↔ (bit_and x t.value ≡ n)
