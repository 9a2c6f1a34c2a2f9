use Rattle.std.proofs.Common.{◌≡◌, ◌+◌, ◌*◌, ◌++◌, length}
use Rattle.encoding.proofs.Names.{AllByRecursion, slot_count, Fits, spelling}
use Rattle.encoding.proofs.decoding.insns_of.Given as goal

abbrev pub invariant-loop-first : goal.invariant-loop-first
invariant-loop-first l = record {
  so_far : l.bytes ≡ spelling l.insns.items ++ l.rest;
  fit : AllByRecursion Fits l.insns.items;
  slots : l.at ≡ slot_count l.insns.items;
  room : 8 * l.at + length l.rest ≡ length l.bytes;
}

abbrev pub decreases-loop-first : goal.decreases-loop-first
decreases-loop-first l = length l.rest
