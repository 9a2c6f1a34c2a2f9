-- What comes with a piece of a stream: draws and bytes, both as hex of either case.
use Rattle.std.specs.Prelude.{◌≡◌, ◌≢◌, ◌⊎◌, ◌==◌, ℕ, List, [], codes, map, take, drop, Option, Some, Ok}
use Rattle.std.specs.List.{slice_split}
use Rattle.std.specs.Option.{option_map}
use Rattle.std.specs.Result.{result_ok}
use Rattle.hex.specs.Hex.{decode_of, decode_sized}
use Rattle.messages.specs.declared.request.Draws.{Draws}

-- 64 bytes drawn: 32 of the first code or token, and 32 of the second
abbrev pub drawn : List ℕ → Draws
drawn bytes = record { first = take 32 bytes; second = drop 32 bytes }

-- what 128 hex digits draw
abbrev pub draws_in : List ℕ → Option Draws
draws_in digits = option_map drawn (result_ok (decode_sized digits 64))

-- words of 128 hex digits each draw these
abbrev pub AllDraw : List (List ℕ) → List Draws → Type 0
AllDraw words draws = map draws_in words ≡ map Some draws

-- a word is a minus, for no draws, or draws that are joined by commas
abbrev pub SpellsDraws : List ℕ → List Draws → Type 0
SpellsDraws word draws = ((word ≡ codes "-") × (draws ≡ [])) ⊎ AllDraw (slice_split (λ c. c == 44) word) draws

-- a word is one or more pairs of hex digits, for so many bytes
abbrev pub SpellsPiece : List ℕ → List ℕ → Type 0
SpellsPiece word piece = (word ≢ []) × (decode_of word ≡ Ok piece)
