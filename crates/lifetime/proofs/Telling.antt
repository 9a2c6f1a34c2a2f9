-- What a journal is told, one notice after the other.
use Rattle.std.proofs.Common.{List, [], ◌∷◌, ◌++◌, subst}
use Rattle.outside.specs.declared.journal.Journal.{Ghosts as Journal}
use Rattle.outside.specs.declared.report.Notice.{Notice}
use Rattle.lifetime.specs.Starts.{ReportsAll}

pub reports_then : {J : Type 0} (journaling : Journal J) (a b c : J) (first later : List Notice) → ReportsAll journaling a first b → ReportsAll journaling b later c →
    ReportsAll journaling a (first ++ later) c
reports_then journaling a b c [] later one two = subst (λ j. ReportsAll journaling j later c) one two
reports_then journaling a b c (notice ∷ first) later one two = (one.0, one.1, reports_then journaling one.0 b c first later one.2 two)
