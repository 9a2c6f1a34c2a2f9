-- The lines of a transcript.
use Rattle.std.specs.Prelude.{◌≡◌, ◌==◌, ℕ, List, [], ◌∷◌, ◌++◌, codes}
use Rattle.std.specs.Io.BufRead.{strip_last}
use Rattle.std.specs.List.{slice_split}
use Rattle.messages.specs.declared.request.Draws.{Draws}
use Rattle.transcript.specs.Numbers.{IsConnection, IsMomentWord}
use Rattle.transcript.specs.Pieces.{SpellsDraws, SpellsPiece}

-- the lines of a text: each ends with a line feed, the last one may do without
abbrev pub transcript_lines : List ℕ → List (List ℕ)
transcript_lines text = slice_split (λ c. c == 10) (strip_last 10 text)

-- a line hands in the JSON text of a registry: all that stands behind the space
abbrev pub HandsIn : List ℕ → List ℕ → Type 0
HandsIn line json = line ≡ codes "config " ++ json

-- what comes on a connection by one line: it is opened, or bytes came at a moment with some draws, or its stream ended
pub data Statement : Type 0 where
  Opens : (c : ℕ) → Statement
  Brings : (c moment : ℕ) → (draws : List Draws) → (piece : List ℕ) → Statement
  Ends : (c : ℕ) → Statement

-- the words of a line, with a single space between two
abbrev pub line_words : List ℕ → List (List ℕ)
line_words line = slice_split (λ c. c == 32) line

-- two words, of which the second is the connection's number
pub record NamesConnection (words : List (List ℕ)) (name : List ℕ) (c : ℕ) : Type 0 where
  pub number : List ℕ
  pub words_are : words ≡ name ∷ number ∷ []
  pub connection_is : IsConnection number c

-- words `bytes C MOMENT DRAWS HEX`
pub record NamesPiece (words : List (List ℕ)) (c moment : ℕ) (draws : List Draws) (piece : List ℕ) : Type 0 where
  pub number : List ℕ
  pub seconds : List ℕ
  pub drawn : List ℕ
  pub hex : List ℕ
  pub words_are : words ≡ codes "bytes" ∷ number ∷ seconds ∷ drawn ∷ hex ∷ []
  pub connection_is : IsConnection number c
  pub moment_is : IsMomentWord seconds moment
  pub draws_are : SpellsDraws drawn draws
  pub piece_is : SpellsPiece hex piece

-- words `open C`, `bytes C MOMENT DRAWS HEX` and `end C` state what comes
abbrev pub WordsState : List (List ℕ) → Statement → Type 0
WordsState words (Opens c) = NamesConnection words (codes "open") c
WordsState words (Brings c moment draws piece) = NamesPiece words c moment draws piece
WordsState words (Ends c) = NamesConnection words (codes "end") c

-- a line states what comes
abbrev pub States : List ℕ → Statement → Type 0
States line statement = WordsState (line_words line) statement
