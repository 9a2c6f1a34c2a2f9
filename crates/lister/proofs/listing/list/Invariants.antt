use Rattle.std.proofs.Common.{◌≡◌, take, flat_map}
use Rattle.std.specs.String.{string_bytes}
use Rattle.assembly.specs.Text.{canonical_line}
use Rattle.lister.proofs.listing.list.Given as goal

abbrev pub invariant-loop-insn : goal.invariant-loop-insn
invariant-loop-insn l = string_bytes l.text ≡ flat_map canonical_line (take l.insn-index l.insn-items)
