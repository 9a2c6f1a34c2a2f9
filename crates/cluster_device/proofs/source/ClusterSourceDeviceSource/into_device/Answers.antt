use Rattle.std.proofs.Common.{◌∙◌, refl, sym, subst}
use Rattle.etcd_cluster.specs.declared.settling.SettleFault.TheVariants.{Refused}
use Rattle.cluster_file.specs.declared.file.ClusterFile.{ClusterFile}
use Rattle.cluster_device.specs.Failing.{IsWorking}
use Rattle.cluster_device.proofs.Telling.{lost_works, told_works}
use Rattle.cluster_device.proofs.source.ClusterSourceDeviceSource.into_device.Goals.{then-not-is_over, else-not-is_over}
use Rattle.cluster_device.proofs.source.ClusterSourceDeviceSource.into_device.Goals as goal

pub new-requires : goal.new-requires
new-requires g c =
    let D = g.C.Cluster in
    let file = c.self.inside.file in
    elim c.if-not-is_over.branch [
      | then-not-is_over w ↦ subst (λ (f : ClusterFile _). IsWorking D f 0) (sym (w.file-is ∙ w.give_up.ensures)) (lost_works D file Refused c.self.invariant.read)
      | else-not-is_over w ↦
          subst (λ (f : ClusterFile _). IsWorking D f 0) (sym w.file-is)
          (told_works D file c.self.inside.at c.self.inside.log.told c.self.invariant (w.if-not-is_over.ensures.0 refl))
    ]
