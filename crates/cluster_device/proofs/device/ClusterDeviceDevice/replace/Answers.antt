use Rattle.std.proofs.Common.{◌≡◌, sym, subst}
use Rattle.std.specs.Prelude.{IfErr, OnOk}
use Rattle.batch_file.specs.Crashes.{ComesOfStep, Elapses, HasCause, IsFailure, IsReplaceFailure, IsUnplaced, Only, Swapped}
use Rattle.cluster_file.proofs.Going.{loses_any}
use Rattle.cluster_device.proofs.Counted.{counted_works, on_ok, replaced_cause, replaced_fault, replaced_ok, untouched_of}
use Rattle.cluster_file.specs.Devices.{has_left, leaves}
use Rattle.cluster_device.specs.Failing.{Failing}
use Rattle.cluster_file.specs.Files.{seen_of}
use Rattle.etcd_cluster.specs.Calls.{AreTrue}
use Rattle.batch_file.specs.declared.device.DeviceFault.TheVariants.{Memory}
use Rattle.cluster_device.proofs.device.ClusterDeviceDevice.replace.Goals as goal

pub put_other-told-requires : goal.put_other-told-requires
put_other-told-requires g c =
    c.self.invariant.0

pub invariant_of-self : goal.invariant_of-self
invariant_of-self g c =
    let D = g.C.Cluster in
    let o = c.self.inside.file in
    let n = c.self.inside.failures in
    let f = c.put_other-told.new.self in
    let m = c.counted-told.new.failures in
    let r = c.counted-told.result in
    let k = c.counted-told.ensures in
    counted_works IsFailure Memory D o f n m c.put_other-told.result r c.self.invariant c.put_other-told.ensures.goes_on
    (loses_any f c.put_other-told.result c.put_other-told.ensures.loses) k

pub returns-clause-replaced : goal.returns-clause-replaced
returns-clause-replaced g c =
    let D = g.C.Cluster in
    let n = c.self.inside.failures in
    let f = c.put_other-told.new.self in
    let m = c.counted-told.new.failures in
    let r = c.counted-told.result in
    let k = c.counted-told.ensures in
    subst (λ (v : Failing _). OnOk c.replaced.result (seen_of D f ≡ c.args.bytes.now)) c.self.view_is
    (subst (λ x. OnOk x (seen_of D f ≡ c.args.bytes.now)) (sym c.replaced.ensures) (replaced_ok r _
    (on_ok IsFailure Memory n m c.put_other-told.result r _ k c.put_other-told.ensures.replaced)))

pub returns-clause-durable : goal.returns-clause-durable
returns-clause-durable g c =
    let D = g.C.Cluster in
    let n = c.self.inside.failures in
    let f = c.put_other-told.new.self in
    let m = c.counted-told.new.failures in
    let r = c.counted-told.result in
    let k = c.counted-told.ensures in
    subst (λ x. OnOk x (Only c.args.bytes.now (leaves D f))) (sym c.replaced.ensures) (replaced_ok r _
    (on_ok IsFailure Memory n m c.put_other-told.result r _ k c.put_other-told.ensures.durable))

pub returns-clause-untouched : goal.returns-clause-untouched
returns-clause-untouched g c =
    let D = g.C.Cluster in
    let o = c.self.inside.file in
    let n = c.self.inside.failures in
    let f = c.put_other-told.new.self in
    let m = c.counted-told.new.failures in
    let r = c.counted-told.result in
    let k = c.counted-told.ensures in
    subst (λ (v : Failing _). IfErr c.replaced.result (λ fault. IsUnplaced fault → record { file = f; failures = m } ≡ v)) c.self.view_is
    (subst (λ x. IfErr x (λ fault. IsUnplaced fault → record { file = f; failures = m } ≡ record { file = o; failures = n })) (sym c.replaced.ensures)
    (replaced_fault r _ (untouched_of D o f n m c.put_other-told.result r c.self.invariant c.put_other-told.ensures.goes_on k c.put_other-told.ensures.failed)))

pub returns-clause-crash : goal.returns-clause-crash
returns-clause-crash g c =
    let D = g.C.Cluster in
    let f = c.put_other-told.new.self in
    subst (λ (v : Failing _). ComesOfStep (Swapped c.args.bytes.now) (leaves D v.file) (leaves D f)) c.self.view_is (c.put_other-told.ensures.crash)

pub returns-clause-time : goal.returns-clause-time
returns-clause-time g c =
    let D = g.C.Cluster in
    let f = c.put_other-told.new.self in
    subst (λ (v : Failing _). Elapses (D.moment v.file.cluster) (D.moment f.cluster) (has_left D v.file) (has_left D f) (leaves D f)) c.self.view_is
    (c.put_other-told.ensures.goes_on.time)

pub returns-clause-cause : goal.returns-clause-cause
returns-clause-cause g c =
    let n = c.self.inside.failures in
    let m = c.counted-told.new.failures in
    let r = c.counted-told.result in
    let k = c.counted-told.ensures in
    subst (λ (v : Failing _). HasCause IsReplaceFailure v.failures m c.replaced.result) c.self.view_is
    (subst (λ x. HasCause IsReplaceFailure n m x) (sym c.replaced.ensures) (replaced_cause n m r k.cause))

pub returns-clause-truth : goal.returns-clause-truth
returns-clause-truth g c =
    let D = g.C.Cluster in
    let f = c.put_other-told.new.self in
    subst (λ (v : Failing _). AreTrue (D.calls f.cluster) → AreTrue (D.calls v.file.cluster)) c.self.view_is (c.put_other-told.ensures.goes_on.truth)
