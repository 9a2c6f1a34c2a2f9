use Rattle.std.proofs.Common.{◌≡◌, take}
use Rattle.encoding.specs.Spelling.{spelling}
use Rattle.encoding.proofs.encoding.encode.Given as goal

abbrev pub invariant-loop-insn : goal.invariant-loop-insn
invariant-loop-insn l = l.bytes.items ≡ spelling (take l.insn-index l.insn-items)
