use Rattle.std.proofs.Common.{◌∙◌, List, ℕ, sym, subst}
use Rattle.cluster_device.specs.Sources.{IsTelling}
use Rattle.cluster_device.proofs.Telling.{telling_none}
use Rattle.cluster_device.proofs.source.ClusterSourceByteSource.rewind.Goals as goal

pub reopen-requires : goal.reopen-requires
reopen-requires g c = λ working. (c.self.invariant.opened working).sound

pub invariant_of-self : goal.invariant_of-self
invariant_of-self g c =
    let D = g.C.Cluster in
    let file = c.reopen.new.self in
    let again = c.reopen.ensures in
    subst (λ (l : List ℕ). IsTelling D file 0 l) (sym c.clear.ensures) (telling_none D file (λ working. again.opened (sym again.lost ∙ working)) again.read)
