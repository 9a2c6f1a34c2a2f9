use Rattle.std.proofs.Common.{◌≡◌, ◌≤◌, ℕ, length, sym, subst}
use Rattle.std.specs.Prelude.{OnOk}
use Rattle.batch_file.specs.Crashes.{ComesOfStep, Elapses, HasCause, IsFailure, IsWrittenAt}
use Rattle.batch_file.specs.Tears.{Torn}
use Rattle.cluster_device.proofs.Counted.{counted_works, on_ok}
use Rattle.cluster_file.specs.Devices.{has_left, leaves}
use Rattle.cluster_device.specs.Failing.{Failing}
use Rattle.cluster_file.specs.Files.{IsSoleBy, next_of, seen_of}
use Rattle.etcd_cluster.specs.Calls.{AreTrue}
use Rattle.batch_file.specs.declared.device.DeviceFault.TheVariants.{Memory}
use Rattle.cluster_device.proofs.device.ClusterDeviceDevice.write_at.Goals as goal

pub put-told-requires-clause-well : goal.put-told-requires-clause-well
put-told-requires-clause-well g c =
    c.self.invariant.0

pub put-told-requires-clause-within : goal.put-told-requires-clause-within
put-told-requires-clause-within g c =
    let D = g.C.Cluster in
    subst (λ (v : Failing _). c.args.at ≤ length (seen_of D v.file)) (sym c.self.view_is) c.requires

pub invariant_of-self : goal.invariant_of-self
invariant_of-self g c =
    let D = g.C.Cluster in
    let o = c.self.inside.file in
    let n = c.self.inside.failures in
    let f = c.put-told.new.self in
    let m = c.counted.new.failures in
    let r = c.counted.result in
    let k = c.counted.ensures in
    counted_works IsFailure Memory D o f n m c.put-told.result r c.self.invariant c.put-told.ensures.goes_on c.put-told.ensures.loses k

pub returns-clause-written : goal.returns-clause-written
returns-clause-written g c =
    let D = g.C.Cluster in
    let n = c.self.inside.failures in
    let f = c.put-told.new.self in
    let m = c.counted.new.failures in
    let r = c.counted.result in
    let k = c.counted.ensures in
    subst (λ (v : Failing _). OnOk r (IsWrittenAt (seen_of D v.file) c.args.at c.args.bytes.now (seen_of D f))) c.self.view_is
    (on_ok IsFailure Memory n m c.put-told.result r _ k c.put-told.ensures.written)

pub returns-clause-crash : goal.returns-clause-crash
returns-clause-crash g c =
    let D = g.C.Cluster in
    let f = c.put-told.new.self in
    subst (λ (v : Failing _). ComesOfStep (Torn c.args.at c.args.bytes.now) (leaves D v.file) (leaves D f)) c.self.view_is (c.put-told.ensures.crash)

pub returns-clause-time : goal.returns-clause-time
returns-clause-time g c =
    let D = g.C.Cluster in
    let f = c.put-told.new.self in
    subst (λ (v : Failing _). Elapses (D.moment v.file.cluster) (D.moment f.cluster) (has_left D v.file) (has_left D f) (leaves D f)) c.self.view_is
    (c.put-told.ensures.goes_on.time)

pub returns-clause-cause : goal.returns-clause-cause
returns-clause-cause g c =
    let m = c.counted.new.failures in
    let r = c.counted.result in
    let k = c.counted.ensures in
    subst (λ (v : Failing _). HasCause IsFailure v.failures m r) c.self.view_is (k.cause)

pub returns-clause-next : goal.returns-clause-next
returns-clause-next g c =
    let D = g.C.Cluster in
    let f = c.put-told.new.self in
    subst (λ (v : Failing _). next_of D f ≡ next_of D v.file) c.self.view_is (c.put-told.ensures.next)

pub returns-clause-truth : goal.returns-clause-truth
returns-clause-truth g c =
    let D = g.C.Cluster in
    let f = c.put-told.new.self in
    subst (λ (v : Failing _). AreTrue (D.calls f.cluster) → AreTrue (D.calls v.file.cluster)) c.self.view_is (c.put-told.ensures.goes_on.truth)

pub returns-clause-sole : goal.returns-clause-sole
returns-clause-sole g c =
    let D = g.C.Cluster in
    let n = c.self.inside.failures in
    let f = c.put-told.new.self in
    let m = c.counted.new.failures in
    let r = c.counted.result in
    let k = c.counted.ensures in
    subst (λ (v : Failing _). OnOk r ((t : ℕ) → t ≤ D.moment v.file.cluster → IsSoleBy D f.cluster t)) c.self.view_is
    (on_ok IsFailure Memory n m c.put-told.result r _ k c.put-told.ensures.sole)
