use Rattle.std.proofs.Common.{◌≡◌, ◌≤◌, ◌+◌, ◌^◌, ◌++◌, ℕ, length, sym, subst}
use Rattle.std.specs.Prelude.{IfNone, IfOk, IfSome, replicate}
use Rattle.batch_file.specs.Crashes.{ComesOfStep, Elapses, HasCause, IsFailure}
use Rattle.batch_file.specs.Tears.{Torn}
use Rattle.cluster_device.proofs.Counted.{counted_works, if_ok, room_fits, room_same}
use Rattle.cluster_file.specs.Devices.{has_left, leaves}
use Rattle.cluster_device.specs.Failing.{Failing}
use Rattle.cluster_file.specs.Files.{next_of, seen_of}
use Rattle.etcd_cluster.specs.Calls.{AreTrue}
use Rattle.batch_file.specs.declared.device.DeviceFault.TheVariants.{Memory}
use Rattle.cluster_device.proofs.device.ClusterDeviceDevice.grow.Goals as goal

pub put_room-told-requires : goal.put_room-told-requires
put_room-told-requires g c =
    c.self.invariant.0

pub invariant_of-self : goal.invariant_of-self
invariant_of-self g c =
    let D = g.C.Cluster in
    let o = c.self.inside.file in
    let n = c.self.inside.failures in
    let f = c.put_room-told.new.self in
    let m = c.counted.new.failures in
    let r = c.counted.result in
    let k = c.counted.ensures in
    counted_works IsFailure Memory D o f n m c.put_room-told.result r c.self.invariant c.put_room-told.ensures.goes_on c.put_room-told.ensures.loses k

pub returns-clause-longer : goal.returns-clause-longer
returns-clause-longer g c =
    let D = g.C.Cluster in
    let n = c.self.inside.failures in
    let f = c.put_room-told.new.self in
    let m = c.counted.new.failures in
    let r = c.counted.result in
    let k = c.counted.ensures in
    subst (λ (v : Failing _). IfOk r (λ refused. IfNone refused (seen_of D f ≡ seen_of D v.file ++ replicate c.args.size 0))) c.self.view_is
    (if_ok IsFailure Memory n m c.put_room-told.result r _ k c.put_room-told.ensures.longer)

pub returns-clause-same : goal.returns-clause-same
returns-clause-same g c =
    let D = g.C.Cluster in
    let o = c.self.inside.file in
    let n = c.self.inside.failures in
    let f = c.put_room-told.new.self in
    let m = c.counted.new.failures in
    let r = c.counted.result in
    let k = c.counted.ensures in
    subst (λ (v : Failing _). IfOk r (λ refused. IfSome refused (λ _. seen_of D f ≡ seen_of D v.file))) c.self.view_is
    (if_ok IsFailure Memory n m c.put_room-told.result r _ k (room_same D o f c.put_room-told.result c.put_room-told.ensures.same))

pub returns-clause-of_room : goal.returns-clause-of_room
returns-clause-of_room g c =
    let n = c.self.inside.failures in
    let m = c.counted.new.failures in
    let r = c.counted.result in
    let k = c.counted.ensures in
    if_ok IsFailure Memory n m c.put_room-told.result r _ k (room_fits c.put_room-told.result c.put_room-told.ensures.of_room)

pub returns-clause-told : goal.returns-clause-told
returns-clause-told g c =
    let n = c.self.inside.failures in
    let m = c.counted.new.failures in
    let r = c.counted.result in
    let k = c.counted.ensures in
    subst (λ (v : Failing _). IfOk r (λ refused. IfSome refused (λ _. 2 ^ 64 ≤ v.file.room + c.args.size))) c.self.view_is
    (if_ok IsFailure Memory n m c.put_room-told.result r _ k c.put_room-told.ensures.full)

pub returns-clause-crash : goal.returns-clause-crash
returns-clause-crash g c =
    let D = g.C.Cluster in
    let f = c.put_room-told.new.self in
    subst (λ (at : ℕ). ComesOfStep (Torn at (replicate c.args.size 0)) (leaves D c.args.self.now.file) (leaves D f)) (sym c.requires)
    (subst (λ (v : Failing _). ComesOfStep (Torn (length (seen_of D v.file)) (replicate c.args.size 0)) (leaves D v.file) (leaves D f)) c.self.view_is
    (c.put_room-told.ensures.crash))

pub returns-clause-time : goal.returns-clause-time
returns-clause-time g c =
    let D = g.C.Cluster in
    let f = c.put_room-told.new.self in
    subst (λ (v : Failing _). Elapses (D.moment v.file.cluster) (D.moment f.cluster) (has_left D v.file) (has_left D f) (leaves D f)) c.self.view_is
    (c.put_room-told.ensures.goes_on.time)

pub returns-clause-cause : goal.returns-clause-cause
returns-clause-cause g c =
    let m = c.counted.new.failures in
    let r = c.counted.result in
    let k = c.counted.ensures in
    subst (λ (v : Failing _). HasCause IsFailure v.failures m r) c.self.view_is (k.cause)

pub returns-clause-next : goal.returns-clause-next
returns-clause-next g c =
    let D = g.C.Cluster in
    let f = c.put_room-told.new.self in
    subst (λ (v : Failing _). next_of D f ≡ next_of D v.file) c.self.view_is (c.put_room-told.ensures.next)

pub returns-clause-truth : goal.returns-clause-truth
returns-clause-truth g c =
    let D = g.C.Cluster in
    let f = c.put_room-told.new.self in
    subst (λ (v : Failing _). AreTrue (D.calls f.cluster) → AreTrue (D.calls v.file.cluster)) c.self.view_is (c.put_room-told.ensures.goes_on.truth)
