-- What a line of the program's own states.
use Rattle.transcript.specs.Lines.{Statement, Opens, Brings, Ends}
use Rattle.transcript.specs.declared.line.Line.{Line}
use Rattle.transcript.specs.declared.line.Line.TheVariants.{Open, Bytes, End}

abbrev pub stated : Line → Statement
stated (Open c) = Opens c
stated (Bytes c moment draws piece) = Brings c moment draws.items piece.items
stated (End c) = Ends c
