use Rattle.std.proofs.Common.{◌≡◌, ◌≤◌, ◌-◌, length, drop}
use Rattle.std.specs.Prelude.{replicate}
use Rattle.cluster_file.proofs.beside.without_zeros.Given as goal

abbrev pub invariant-zeros : goal.invariant-zeros
invariant-zeros l = record {
  within : l.size ≤ length l.fn.bytes;
  zeros : drop l.size l.fn.bytes ≡ replicate (length l.fn.bytes - l.size) 0;
}

abbrev pub decreases-zeros : goal.decreases-zeros
decreases-zeros l = l.size
