-- The lines of an audit trail.
use Rattle.std.specs.Prelude.{ℕ, List, [], ◌∷◌, ◌++◌, ◌==◌, codes, length, Option, Some, None, if◌then◌else◌}
use Rattle.json.specs.Print.{print}
use Rattle.json.specs.Token.{Token, begin_object, end_object}
use Rattle.clients.specs.RegistryRecord.{RegistryRecord}
use Rattle.reports.specs.ReportTokens.{count_tokens}
use Rattle.reports.specs.ToldTokens.{told_tokens}
use Rattle.telling.specs.declared.told.Told.{Told}

-- an object of JSON, and a line's end
abbrev pub line_text : List Token → List ℕ
line_text tokens = print tokens ++ 10 ∷ []

-- so many lines were lost
abbrev pub dropped_text : ℕ → List ℕ
dropped_text dropped = line_text (begin_object ∷ count_tokens (codes "dropped") dropped ++ end_object ∷ [])

-- a life began at this moment, by a registry of so many clients and owners
abbrev pub begun_text : RegistryRecord → ℕ → List ℕ
begun_text rules moment =
    line_text (begin_object ∷ count_tokens (codes "began") moment
    ++ count_tokens (codes "clients") (length rules.clients)
    ++ count_tokens (codes "owners") (length rules.owners) ++ end_object ∷ [])

-- how many lines were lost, where some were
abbrev pub lost_text : ℕ → List ℕ
lost_text dropped = if dropped == 0 then [] else dropped_text dropped

-- that a life began, where that is still to be told
abbrev pub start_text : RegistryRecord → Option ℕ → List ℕ
start_text rules None = []
start_text rules (Some moment) = begun_text rules moment

-- a request, behind what is to be told before it
abbrev pub told_lines : RegistryRecord → ℕ → Option ℕ → Told → List ℕ
told_lines rules dropped begun told = lost_text dropped ++ start_text rules begun ++ line_text (told_tokens rules told)
