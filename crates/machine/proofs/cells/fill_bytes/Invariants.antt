use Rattle.std.proofs.Common.{◌≡◌, ◌-◌, ◌++◌, length, take}
use Rattle.insn.specs.Memory.{low_bytes}
use Rattle.machine.proofs.cells.fill_bytes.Given as goal

-- what is written and what is left are all
abbrev pub invariant-loop-byte : goal.invariant-loop-byte
invariant-loop-byte l = low_bytes (length l.initial.bytes) l.number ≡ take l.byte-index l.bytes ++ low_bytes (length l.initial.bytes - l.byte-index) l.rest
