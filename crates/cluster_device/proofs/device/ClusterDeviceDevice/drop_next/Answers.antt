use Rattle.std.proofs.Common.{sym, subst}
use Rattle.std.specs.Prelude.{None}
use Rattle.batch_file.specs.Crashes.{Elapses, IsBeside}
use Rattle.etcd_cluster.specs.Calls.{AreTrue}
use Rattle.cluster_file.specs.Devices.{has_left, leaves}
use Rattle.cluster_file.specs.Files.{seen_of}
use Rattle.cluster_file.specs.declared.file.ClusterFile.{ClusterFile}
use Rattle.cluster_file.proofs.Going.{keeps_same}
use Rattle.cluster_file.proofs.Nexts.{seen_next, well_next}
use Rattle.cluster_device.specs.Failing.{Failing, IsWorking}
use Rattle.cluster_device.proofs.Counted.{beside_of, drop_elapses}
use Rattle.cluster_device.proofs.device.ClusterDeviceDevice.drop_next.Goals as goal

pub invariant_of-self : goal.invariant_of-self
invariant_of-self g c =
    let D = g.C.Cluster in
    let o = c.self.inside.file in
    let n = c.self.inside.failures in
    subst (λ (f : ClusterFile _). IsWorking D f n) (sym c.drop_beside.ensures) (well_next D o None c.self.invariant.0 (λ _. tt), c.self.invariant.1)

pub returns-clause-beside : goal.returns-clause-beside
returns-clause-beside g c =
    let D = g.C.Cluster in
    let o = c.self.inside.file in
    let n = c.self.inside.failures in
    let f : ClusterFile _ = record o { next = None } in
    subst (λ (v : Failing _). IsBeside (λ (d : Failing _). seen_of D d.file) (λ d. leaves D d.file) (λ d. d.failures) v (record { file = c.drop_beside.new.self; failures = n })) c.self.view_is
    (subst (λ (x : ClusterFile _). IsBeside (λ (d : Failing _). seen_of D d.file) (λ d. leaves D d.file) (λ d. d.failures) (record { file = o; failures = n }) (record { file = x; failures = n }))
    (sym c.drop_beside.ensures) (beside_of D o f n (seen_next D o o None (keeps_same D o))))

pub returns-clause-time : goal.returns-clause-time
returns-clause-time g c =
    let D = g.C.Cluster in
    let o = c.self.inside.file in
    subst (λ (v : Failing _). Elapses (D.moment v.file.cluster) (D.moment c.drop_beside.new.self.cluster) (has_left D v.file) (has_left D c.drop_beside.new.self)
    (leaves D c.drop_beside.new.self)) c.self.view_is
    (subst (λ (x : ClusterFile _). Elapses (D.moment o.cluster) (D.moment x.cluster) (has_left D o) (has_left D x) (leaves D x)) (sym c.drop_beside.ensures) (drop_elapses D o))

pub returns-clause-truth : goal.returns-clause-truth
returns-clause-truth g c =
    let D = g.C.Cluster in
    let o = c.self.inside.file in
    subst (λ (v : Failing _). AreTrue (D.calls c.drop_beside.new.self.cluster) → AreTrue (D.calls v.file.cluster)) c.self.view_is
    (subst (λ (x : ClusterFile _). AreTrue (D.calls x.cluster) → AreTrue (D.calls o.cluster)) (sym c.drop_beside.ensures) (λ are. are))
