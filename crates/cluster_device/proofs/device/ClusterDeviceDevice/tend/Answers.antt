use Rattle.std.proofs.Common.{◌≡◌, ℕ, List, sym, subst}
use Rattle.std.specs.Prelude.{IfOk, IsSome, OnOk}
use Rattle.batch_file.specs.Crashes.{Elapses, HasCause, IsBeside, IsFailure}
use Rattle.cluster_device.proofs.Counted.{beside_ok, counted_works, due_cause, due_ok, due_with, on_ok}
use Rattle.cluster_file.specs.Devices.{KeepsLease, has_left, leaves}
use Rattle.cluster_device.specs.Failing.{Failing}
use Rattle.cluster_file.specs.Files.{next_of, seen_of}
use Rattle.etcd_cluster.specs.Calls.{AreTrue}
use Rattle.batch_file.specs.declared.device.DeviceFault.TheVariants.{Memory}
use Rattle.cluster_device.proofs.device.ClusterDeviceDevice.tend.Goals as goal

pub keep_place-told-requires : goal.keep_place-told-requires
keep_place-told-requires g c =
    c.self.invariant.0

pub invariant_of-self : goal.invariant_of-self
invariant_of-self g c =
    let D = g.C.Cluster in
    let o = c.self.inside.file in
    let n = c.self.inside.failures in
    let f = c.keep_place-told.new.self in
    let m = c.counted-told.new.failures in
    let r = c.counted-told.result in
    let k = c.counted-told.ensures in
    counted_works IsFailure Memory D o f n m c.keep_place-told.result r c.self.invariant c.keep_place-told.ensures.goes_on c.keep_place-told.ensures.loses k

pub returns-clause-tended : goal.returns-clause-tended
returns-clause-tended g c =
    let D = g.C.Cluster in
    let o = c.self.inside.file in
    let n = c.self.inside.failures in
    let f = c.keep_place-told.new.self in
    let m = c.counted-told.new.failures in
    let r = c.counted-told.result in
    let k = c.counted-told.ensures in
    subst (λ (v : Failing _). IfOk c.due.result (λ due. IsSome due × KeepsLease (D.calls v.file.cluster) (D.calls f.cluster))) c.self.view_is
    (subst (λ x. IfOk x (λ due. IsSome due × KeepsLease (D.calls o.cluster) (D.calls f.cluster))) (sym c.due.ensures)
    (due_with r _ (on_ok IsFailure Memory n m c.keep_place-told.result r _ k c.keep_place-told.ensures.kept)))

pub returns-clause-beside : goal.returns-clause-beside
returns-clause-beside g c =
    let D = g.C.Cluster in
    let o = c.self.inside.file in
    let n = c.self.inside.failures in
    let f = c.keep_place-told.new.self in
    let m = c.counted-told.new.failures in
    let r = c.counted-told.result in
    let k = c.counted-told.ensures in
    subst (λ (v : Failing _). OnOk c.due.result (IsBeside (λ (d : Failing _). seen_of D d.file) (λ d. leaves D d.file) (λ d. d.failures) v (record { file = f; failures = m })))
    c.self.view_is (subst (λ x. OnOk x (IsBeside (λ (d : Failing _). seen_of D d.file) (λ d. leaves D d.file) (λ d. d.failures) (record { file = o; failures = n })
    (record { file = f; failures = m }))) (sym c.due.ensures) (due_ok r _ (beside_ok D o f n m c.keep_place-told.result r k c.keep_place-told.ensures.seen)))

pub returns-clause-crash : goal.returns-clause-crash
returns-clause-crash g c =
    let D = g.C.Cluster in
    let f = c.keep_place-told.new.self in
    subst (λ (v : Failing _). (left : List ℕ) → leaves D f left → leaves D v.file left) c.self.view_is (c.keep_place-told.ensures.seen.crash)

pub returns-clause-time : goal.returns-clause-time
returns-clause-time g c =
    let D = g.C.Cluster in
    let f = c.keep_place-told.new.self in
    subst (λ (v : Failing _). Elapses (D.moment v.file.cluster) (D.moment f.cluster) (has_left D v.file) (has_left D f) (leaves D f)) c.self.view_is
    (c.keep_place-told.ensures.goes_on.time)

pub returns-clause-cause : goal.returns-clause-cause
returns-clause-cause g c =
    let n = c.self.inside.failures in
    let m = c.counted-told.new.failures in
    let r = c.counted-told.result in
    let k = c.counted-told.ensures in
    subst (λ (v : Failing _). HasCause IsFailure v.failures m c.due.result) c.self.view_is (subst (λ x. HasCause IsFailure n m x) (sym c.due.ensures) (due_cause n m r k.cause))

pub returns-clause-next : goal.returns-clause-next
returns-clause-next g c =
    let D = g.C.Cluster in
    let f = c.keep_place-told.new.self in
    subst (λ (v : Failing _). next_of D f ≡ next_of D v.file) c.self.view_is (c.keep_place-told.ensures.next)

pub returns-clause-truth : goal.returns-clause-truth
returns-clause-truth g c =
    let D = g.C.Cluster in
    let f = c.keep_place-told.new.self in
    subst (λ (v : Failing _). AreTrue (D.calls f.cluster) → AreTrue (D.calls v.file.cluster)) c.self.view_is (c.keep_place-told.ensures.goes_on.truth)
