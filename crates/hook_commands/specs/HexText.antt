-- Hex text: digits in pairs, of either case, with spaces and line feeds before, between and behind the pairs.
use Rattle.std.specs.Prelude.{◌≡◌, ℕ, ◌+◌, ◌*◌, ◌⊎◌, List, [], ◌∷◌, Option, Some}
use Rattle.std.specs.Option.{option_and_then, option_map}
use Rattle.hex.specs.Hex.{hex_digit_value}

-- a space or a line feed
abbrev pub IsBlank : ℕ → Type 0
IsBlank c = (c ≡ 32) ⊎ (c ≡ 10)

-- the byte of two digits, the high one first
abbrev pub byte_of : ℕ → ℕ → Option ℕ
byte_of high low = option_and_then (λ h. option_map (λ l. h * 16 + l) (hex_digit_value low)) (hex_digit_value high)

-- a text is hex of these bytes: it ends, or it begins with a blank or with the two digits of a byte, and goes on so
pub data IsHexOf : List ℕ → List ℕ → Type 0 where
  End : IsHexOf [] []
  Blank : {c : ℕ} {text bytes : List ℕ} → IsBlank c → IsHexOf text bytes → IsHexOf (c ∷ text) bytes
  Pair : {high low byte : ℕ} {text bytes : List ℕ} → byte_of high low ≡ Some byte → IsHexOf text bytes
      → IsHexOf (high ∷ low ∷ text) (byte ∷ bytes)

-- a text is hex of no bytes at all
abbrev pub IsNoHex : List ℕ → Type 0
IsNoHex text = (bytes : List ℕ) → IsHexOf text bytes → ⊥
