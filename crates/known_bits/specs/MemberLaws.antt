-- Laws of members.
use Rattle.std.specs.Prelude.{ℕ, ◌<◌, ◌^◌}
use Rattle.known_bits.specs.declared.bits.KnownBits.{KnownBits}
use Rattle.known_bits.specs.Members.{HasBits}

-- a member is a word
pub HasBits-words : (b : KnownBits) (x : ℕ) → HasBits b x → x < 2 ^ 64
HasBits-words b x h = h.word
