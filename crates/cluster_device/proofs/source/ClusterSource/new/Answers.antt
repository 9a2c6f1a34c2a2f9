use Rattle.std.proofs.Common.{List, ℕ, sym, subst}
use Rattle.cluster_device.specs.Sources.{IsTelling}
use Rattle.cluster_device.proofs.Telling.{telling_none}
use Rattle.cluster_device.proofs.source.ClusterSource.new.Goals as goal

pub invariant_of-result : goal.invariant_of-result
invariant_of-result g c =
    let D = g.C.Cluster in
    subst (λ (l : List ℕ). IsTelling D c.args.file 0 l) (sym c.new.ensures) (telling_none D c.args.file c.requires.opened c.requires.read)
