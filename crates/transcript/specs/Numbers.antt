-- Numbers of a transcript: in decimal, without leading zeros.
use Rattle.std.specs.Prelude.{◌≡◌, ◌<◌, ◌^◌, ℕ, List}
use Rattle.std.specs.Fmt.{decimal}

-- a word is the number of a connection
abbrev pub IsConnection : List ℕ → ℕ → Type 0
IsConnection word c = (word ≡ decimal c) × (c < 2 ^ 32)

-- a word is a moment, in seconds
abbrev pub IsMomentWord : List ℕ → ℕ → Type 0
IsMomentWord word moment = (word ≡ decimal moment) × (moment < 2 ^ 63)
