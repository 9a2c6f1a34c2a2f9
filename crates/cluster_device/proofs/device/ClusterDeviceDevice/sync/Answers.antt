use Rattle.std.proofs.Common.{◌≡◌, ℕ, List, sym, ap, subst}
use Rattle.std.specs.Prelude.{OnOk}
use Rattle.batch_file.specs.Crashes.{Elapses, HasCause, IsFailure, Only}
use Rattle.cluster_device.proofs.Counted.{counted_works, durable_any, on_ok}
use Rattle.cluster_file.specs.Devices.{has_left, leaves}
use Rattle.cluster_device.specs.Failing.{Failing}
use Rattle.cluster_file.specs.Files.{IsSoleBy, next_of, seen_of}
use Rattle.cluster_file.specs.declared.file.ClusterFile.{ClusterFile}
use Rattle.etcd_cluster.specs.Calls.{AreTrue}
use Rattle.batch_file.specs.declared.device.DeviceFault.TheVariants.{Memory}
use Rattle.cluster_device.proofs.device.ClusterDeviceDevice.sync.Goals as goal

pub still_works-told-requires : goal.still_works-told-requires
still_works-told-requires g c =
    c.self.invariant.0

pub invariant_of-self : goal.invariant_of-self
invariant_of-self g c =
    let D = g.C.Cluster in
    let o = c.self.inside.file in
    let n = c.self.inside.failures in
    let f = c.still_works-told.new.self in
    let m = c.counted.new.failures in
    let r = c.counted.result in
    let k = c.counted.ensures in
    counted_works IsFailure Memory D o f n m c.still_works-told.result r c.self.invariant c.still_works-told.ensures.goes_on c.still_works-told.ensures.loses k

pub returns-clause-durable : goal.returns-clause-durable
returns-clause-durable g c =
    let D = g.C.Cluster in
    let o = c.self.inside.file in
    let n = c.self.inside.failures in
    let f = c.still_works-told.new.self in
    let m = c.counted.new.failures in
    let r = c.counted.result in
    let k = c.counted.ensures in
    subst (λ (v : Failing _). OnOk r (v.failures ≡ 0 → Only (seen_of D v.file) (leaves D f))) c.self.view_is
    (on_ok IsFailure Memory n m c.still_works-told.result r _ k (durable_any D o f c.still_works-told.result n c.still_works-told.ensures.durable))

pub returns-clause-seen : goal.returns-clause-seen
returns-clause-seen g c =
    let D = g.C.Cluster in
    let f = c.still_works-told.new.self in
    subst (λ (v : Failing _). seen_of D f ≡ seen_of D v.file) c.self.view_is (c.still_works-told.ensures.seen.seen)

pub returns-clause-crash : goal.returns-clause-crash
returns-clause-crash g c =
    let D = g.C.Cluster in
    let f = c.still_works-told.new.self in
    subst (λ (v : Failing _). (left : List ℕ) → leaves D f left → leaves D v.file left) c.self.view_is (c.still_works-told.ensures.seen.crash)

pub returns-clause-time : goal.returns-clause-time
returns-clause-time g c =
    let D = g.C.Cluster in
    let f = c.still_works-told.new.self in
    subst (λ (v : Failing _). Elapses (D.moment v.file.cluster) (D.moment f.cluster) (has_left D v.file) (has_left D f) (leaves D f)) c.self.view_is
    (c.still_works-told.ensures.goes_on.time)

pub returns-clause-cause : goal.returns-clause-cause
returns-clause-cause g c =
    let m = c.counted.new.failures in
    let r = c.counted.result in
    let k = c.counted.ensures in
    subst (λ (v : Failing _). HasCause IsFailure v.failures m r) c.self.view_is (k.cause)

pub returns-clause-next : goal.returns-clause-next
returns-clause-next g c =
    let D = g.C.Cluster in
    let f = c.still_works-told.new.self in
    subst (λ (v : Failing _). next_of D f ≡ next_of D v.file) c.self.view_is (c.still_works-told.ensures.next)

pub returns-clause-truth : goal.returns-clause-truth
returns-clause-truth g c =
    let D = g.C.Cluster in
    let f = c.still_works-told.new.self in
    subst (λ (v : Failing _). AreTrue (D.calls f.cluster) → AreTrue (D.calls v.file.cluster)) c.self.view_is (c.still_works-told.ensures.goes_on.truth)

pub returns-clause-sole : goal.returns-clause-sole
returns-clause-sole g c =
    let D = g.C.Cluster in
    let f = c.still_works-told.new.self in
    subst (λ (v : Failing _). (t : ℕ) → IsSoleBy D v.file.cluster t → IsSoleBy D f.cluster t) c.self.view_is
    (λ t sole. subst (λ x. IsSoleBy D x t) (sym (ap (λ (x : ClusterFile _). x.cluster) c.still_works-told.ensures.same)) sole)
