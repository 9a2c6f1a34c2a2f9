-- The words that known bits stand for.
use Rattle.std.specs.Prelude.{◌≡◌, ℕ, ◌<◌, ◌^◌}
use Rattle.std.specs.Int.{bit_at}
use Rattle.known_bits.specs.declared.bits.KnownBits.{KnownBits}

-- a word that has the bits of a value outside a mask
pub record Agrees (value mask x : ℕ) : Type 0 where
  pub word : x < 2 ^ 64
  pub same : (k : ℕ) → bit_at mask k ≡ 0 → bit_at x k ≡ bit_at value k

-- a word that has the known bits
abbrev pub HasBits : KnownBits → ℕ → Type 0
HasBits b x = Agrees b.value b.mask x
