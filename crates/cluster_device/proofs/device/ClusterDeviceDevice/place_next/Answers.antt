use Rattle.std.proofs.Common.{◌≡◌, subst}
use Rattle.std.specs.Prelude.{IfErr, IfSome, OnOk}
use Rattle.batch_file.specs.Crashes.{ComesOfStep, Elapses, HasCause, IsBeside, IsReplaceFailure, IsUnplaced, Only, Swapped}
use Rattle.cluster_device.proofs.Counted.{counted_works, not_placed, on_ok}
use Rattle.cluster_file.specs.Devices.{has_left, leaves}
use Rattle.cluster_device.specs.Failing.{Failing}
use Rattle.cluster_file.specs.Files.{next_of, seen_of}
use Rattle.etcd_cluster.specs.Calls.{AreTrue}
use Rattle.batch_file.specs.declared.device.ReplaceFault.TheVariants as replacing
use Rattle.cluster_device.proofs.device.ClusterDeviceDevice.place_next.Goals as goal

pub place_beside-told-requires : goal.place_beside-told-requires
place_beside-told-requires g c =
    c.self.invariant.0

pub invariant_of-self : goal.invariant_of-self
invariant_of-self g c =
    let D = g.C.Cluster in
    let o = c.self.inside.file in
    let n = c.self.inside.failures in
    let f = c.place_beside-told.new.self in
    let m = c.counted_placing.new.failures in
    let r = c.counted_placing.result in
    let k = c.counted_placing.ensures in
    counted_works IsReplaceFailure replacing.Memory D o f n m c.place_beside-told.result r c.self.invariant c.place_beside-told.ensures.goes_on c.place_beside-told.ensures.loses k

pub returns-clause-replaced : goal.returns-clause-replaced
returns-clause-replaced g c =
    let D = g.C.Cluster in
    let n = c.self.inside.failures in
    let f = c.place_beside-told.new.self in
    let m = c.counted_placing.new.failures in
    let r = c.counted_placing.result in
    let k = c.counted_placing.ensures in
    subst (λ (v : Failing _). OnOk r (IfSome (next_of D v.file) (λ bytes. seen_of D f ≡ bytes))) c.self.view_is
    (on_ok IsReplaceFailure replacing.Memory n m c.place_beside-told.result r _ k c.place_beside-told.ensures.replaced)

pub returns-clause-durable : goal.returns-clause-durable
returns-clause-durable g c =
    let D = g.C.Cluster in
    let n = c.self.inside.failures in
    let f = c.place_beside-told.new.self in
    let m = c.counted_placing.new.failures in
    let r = c.counted_placing.result in
    let k = c.counted_placing.ensures in
    subst (λ (v : Failing _). OnOk r (IfSome (next_of D v.file) (λ bytes. Only bytes (leaves D f)))) c.self.view_is
    (on_ok IsReplaceFailure replacing.Memory n m c.place_beside-told.result r _ k c.place_beside-told.ensures.durable)

pub returns-clause-unplaced : goal.returns-clause-unplaced
returns-clause-unplaced g c =
    let D = g.C.Cluster in
    let o = c.self.inside.file in
    let n = c.self.inside.failures in
    let f = c.place_beside-told.new.self in
    let m = c.counted_placing.new.failures in
    let r = c.counted_placing.result in
    let k = c.counted_placing.ensures in
    subst (λ (v : Failing _). IfErr r (λ fault. IsUnplaced fault → IsBeside (λ (d : Failing _). seen_of D d.file) (λ d. leaves D d.file) (λ d. d.failures) v
    (record { file = f; failures = m }))) c.self.view_is (not_placed D o f n m c.place_beside-told.result r c.self.invariant c.place_beside-told.ensures.goes_on k
    c.place_beside-told.ensures.unplaced)

pub returns-clause-crash : goal.returns-clause-crash
returns-clause-crash g c =
    let D = g.C.Cluster in
    let f = c.place_beside-told.new.self in
    subst (λ (v : Failing _). IfSome (next_of D v.file) (λ bytes. ComesOfStep (Swapped bytes) (leaves D v.file) (leaves D f))) c.self.view_is (c.place_beside-told.ensures.crash)

pub returns-clause-time : goal.returns-clause-time
returns-clause-time g c =
    let D = g.C.Cluster in
    let f = c.place_beside-told.new.self in
    subst (λ (v : Failing _). Elapses (D.moment v.file.cluster) (D.moment f.cluster) (has_left D v.file) (has_left D f) (leaves D f)) c.self.view_is
    (c.place_beside-told.ensures.goes_on.time)

pub returns-clause-cause : goal.returns-clause-cause
returns-clause-cause g c =
    let m = c.counted_placing.new.failures in
    let r = c.counted_placing.result in
    let k = c.counted_placing.ensures in
    subst (λ (v : Failing _). HasCause IsReplaceFailure v.failures m r) c.self.view_is (k.cause)

pub returns-clause-truth : goal.returns-clause-truth
returns-clause-truth g c =
    let D = g.C.Cluster in
    let f = c.place_beside-told.new.self in
    subst (λ (v : Failing _). AreTrue (D.calls f.cluster) → AreTrue (D.calls v.file.cluster)) c.self.view_is (c.place_beside-told.ensures.goes_on.truth)
