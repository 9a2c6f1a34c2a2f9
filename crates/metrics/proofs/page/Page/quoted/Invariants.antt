use Rattle.std.proofs.Common.{◌≡◌, ◌++◌, take}
use Rattle.std.specs.List.{flat_map}
use Rattle.metrics.specs.Lines.{escaped_byte}
use Rattle.metrics.proofs.page.Page.quoted.Given as goal

abbrev pub invariant-loop-byte : goal.invariant-loop-byte
invariant-loop-byte l = l.self.text.items ≡ l.fn.self.text.items ++ flat_map escaped_byte (take l.byte-index l.bytes)
