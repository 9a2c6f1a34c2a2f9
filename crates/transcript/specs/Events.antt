-- What the lines of a transcript stand for.
use Rattle.std.specs.Prelude.{◌≡◌, ℕ, List, [], ◌∷◌, Bool, Some, length, ⊤}
use Rattle.http_edge.specs.Answers.{Mishap}
use Rattle.http_edge.specs.Schedule.{Connection, Happening, Opened, Came, HasEnded, piece_of}
use Rattle.http_edge.specs.Refusals.{IsOpeningRefusal, IsPieceRefusal, IsEndingRefusal}
use Rattle.http_edge.specs.declared.fault.EdgeFault.{EdgeFault}
use Rattle.telling.specs.declared.told.Told.{Told}
use Rattle.transcript.specs.Lines.{Statement, Opens, Brings, Ends, States}

-- the event that a statement is, with what was free in it, and what was told of it
abbrev pub happening : Statement → List Mishap → Bool → List Told → Happening
happening (Opens c) mishaps closes tellings = Opened c
happening (Brings c moment draws piece) mishaps closes tellings = Came (record {
  piece = piece_of c piece moment;
  draws = draws;
  mishaps = mishaps;
  closes = closes;
  tellings = tellings;
})
happening (Ends c) mishaps closes tellings = HasEnded c

-- a line stands for an event
pub record LineStandsFor (line : List ℕ) (event : Happening) : Type 0 where
  pub statement : Statement
  pub states : States line statement
  pub mishaps : List Mishap
  pub closes : Bool
  pub tellings : List Told
  pub event_is : event ≡ happening statement mishaps closes tellings

-- each line stands for the event at its place
abbrev pub StandFor : List (List ℕ) → List Happening → Type 0
StandFor [] [] = ⊤
StandFor (line ∷ lines) (event ∷ schedule) = LineStandsFor line event × StandFor lines schedule
StandFor lines schedule = ⊥

-- why a statement's event is refused, where these connections are
abbrev pub IsStatementRefusal : EdgeFault → List Connection → Statement → Type 0
IsStatementRefusal fault connections (Opens c) = IsOpeningRefusal fault connections c
IsStatementRefusal fault connections (Brings c moment draws piece) = IsPieceRefusal fault connections c piece (Some (length draws))
IsStatementRefusal fault connections (Ends c) = IsEndingRefusal fault connections c
