use Rattle.std.proofs.Common.{◌≡◌, map, take}
use Rattle.assembler.specs.Sheets.{find_in, lines_of, AreRead}
use Rattle.assembler.proofs.sheet.read_sheet.Given as goal

abbrev pub invariant-loop-bytes : goal.invariant-loop-bytes
invariant-loop-bytes l = record {
  counted : l.number ≡ l.bytes-index;
  lines_read : AreRead (lines_of (map (λ line. line.now) (take l.bytes-index l.lines))) l.places.items (find_in l.labels) l.end.number;
}
