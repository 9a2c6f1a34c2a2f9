use Rattle.std.proofs.Common.{◌≡◌, ◌++◌, subst}
use Rattle.std.specs.Prelude.{OnOk, option_map}
use Rattle.batch_file.specs.Crashes.{Elapses, IsBeside}
use Rattle.cluster_device.proofs.Counted.{beside_of, goes_works}
use Rattle.cluster_file.specs.Devices.{has_left, leaves}
use Rattle.cluster_device.specs.Failing.{Failing}
use Rattle.cluster_file.specs.Files.{next_of, seen_of}
use Rattle.etcd_cluster.specs.Calls.{AreTrue}
use Rattle.cluster_device.proofs.device.ClusterDeviceDevice.add_to_next.Goals as goal

pub add_beside-requires : goal.add_beside-requires
add_beside-requires g c =
    c.self.invariant.0

pub invariant_of-self : goal.invariant_of-self
invariant_of-self g c =
    let D = g.C.Cluster in
    let o = c.self.inside.file in
    let n = c.self.inside.failures in
    let f = c.add_beside.new.self in
    goes_works D o f n c.self.invariant c.add_beside.ensures.goes_on

pub returns-clause-added : goal.returns-clause-added
returns-clause-added g c =
    let D = g.C.Cluster in
    let f = c.add_beside.new.self in
    subst (λ (v : Failing _). OnOk c.add_beside.result (next_of D f ≡ option_map (λ written. written ++ c.args.bytes.now) (next_of D v.file))) c.self.view_is
    (c.add_beside.ensures.added)

pub returns-clause-beside : goal.returns-clause-beside
returns-clause-beside g c =
    let D = g.C.Cluster in
    let o = c.self.inside.file in
    let n = c.self.inside.failures in
    let f = c.add_beside.new.self in
    subst (λ (v : Failing _). IsBeside (λ (d : Failing _). seen_of D d.file) (λ d. leaves D d.file) (λ d. d.failures) v (record { file = f; failures = n })) c.self.view_is
    (beside_of D o f n c.add_beside.ensures.seen)

pub returns-clause-time : goal.returns-clause-time
returns-clause-time g c =
    let D = g.C.Cluster in
    let f = c.add_beside.new.self in
    subst (λ (v : Failing _). Elapses (D.moment v.file.cluster) (D.moment f.cluster) (has_left D v.file) (has_left D f) (leaves D f)) c.self.view_is
    (c.add_beside.ensures.goes_on.time)

pub returns-clause-truth : goal.returns-clause-truth
returns-clause-truth g c =
    let D = g.C.Cluster in
    let f = c.add_beside.new.self in
    subst (λ (v : Failing _). AreTrue (D.calls f.cluster) → AreTrue (D.calls v.file.cluster)) c.self.view_is (c.add_beside.ensures.goes_on.truth)
