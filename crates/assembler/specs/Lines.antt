-- What stands on a line, as its type has it.
use Rattle.std.specs.Prelude.{map}
use Rattle.assembly.specs.Text as text
use Rattle.assembler.specs.declared.line.Line.{Line}
use Rattle.assembler.specs.declared.line.Line.TheVariants.{Blank, Label, Statement}

abbrev pub line_seen : Line → text.Line
line_seen Blank = text.Blank
line_seen (Label name) = text.Label name.now
line_seen (Statement words) = text.Statement (map (λ word. word.now) words.items)
