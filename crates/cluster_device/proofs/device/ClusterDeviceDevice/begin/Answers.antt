use Rattle.std.proofs.Common.{◌≡◌, ◌≤◌, ◌∙◌, ◌++◌, length, take, sym, subst}
use Rattle.std.specs.Prelude.{IfErr, Ok}
use Rattle.batch_file.specs.Crashes.{ComesOfStep, Elapses, HasCause, IsBeside, IsFailure, IsReplaceFailure, IsUnplaced, Swapped}
use Rattle.cluster_device.proofs.Counted.{counted_works, never_copies, on_ok, settled_cause, settled_fault, settled_then, unplaced_of}
use Rattle.cluster_file.proofs.Kept.{fault_then}
use Rattle.cluster_file.specs.Devices.{KeepsSeen, has_left, leaves}
use Rattle.cluster_device.specs.Failing.{Failing}
use Rattle.cluster_file.specs.Files.{seen_of}
use Rattle.etcd_cluster.specs.Calls.{AreTrue}
use Rattle.batch_file.specs.declared.device.DeviceFault.{DeviceFault}
use Rattle.batch_file.specs.declared.device.DeviceFault.TheVariants.{Memory}
use Rattle.batch_file.specs.declared.device.Beginning.TheVariants.{Settled}
use Rattle.cluster_device.proofs.device.ClusterDeviceDevice.begin.Goals as goal

pub begin_with-told-requires-clause-well : goal.begin_with-told-requires-clause-well
begin_with-told-requires-clause-well g c =
    c.self.invariant.0

pub begin_with-told-requires-clause-within : goal.begin_with-told-requires-clause-within
begin_with-told-requires-clause-within g c =
    let D = g.C.Cluster in
    subst (λ (v : Failing _). c.args.end ≤ length (seen_of D v.file)) (sym c.self.view_is) c.requires

pub invariant_of-self : goal.invariant_of-self
invariant_of-self g c =
    let D = g.C.Cluster in
    let o = c.self.inside.file in
    let n = c.self.inside.failures in
    let f = c.begin_with-told.new.self in
    let m = c.counted-told.new.failures in
    let r = c.counted-told.result in
    let k = c.counted-told.ensures in
    counted_works IsFailure Memory D o f n m c.begin_with-told.result r c.self.invariant c.begin_with-told.ensures.goes_on c.begin_with-told.ensures.loses k

pub returns-clause-settled : goal.returns-clause-settled
returns-clause-settled g c =
    let D = g.C.Cluster in
    let n = c.self.inside.failures in
    let f = c.begin_with-told.new.self in
    let m = c.counted-told.new.failures in
    let r = c.counted-told.result in
    let k = c.counted-told.ensures in
    subst (λ (v : Failing _). c.settled.result ≡ Ok Settled → seen_of D f ≡ take c.args.end (seen_of D v.file) ++ c.args.bytes.now) c.self.view_is
    (λ is. settled_then r _ (on_ok IsFailure Memory n m c.begin_with-told.result r _ k c.begin_with-told.ensures.settled) (sym c.settled.ensures ∙ is))

pub returns-clause-durable : goal.returns-clause-durable
returns-clause-durable g c =
    let n = c.self.inside.failures in
    let m = c.counted-told.new.failures in
    let r = c.counted-told.result in
    let k = c.counted-told.ensures in
    λ is. settled_then r _ (on_ok IsFailure Memory n m c.begin_with-told.result r _ k c.begin_with-told.ensures.durable) (sym c.settled.ensures ∙ is)

pub returns-clause-copy : goal.returns-clause-copy
returns-clause-copy g c =
    let r = c.counted-told.result in
    λ is. absurd (never_copies r (sym c.settled.ensures ∙ is))

pub returns-clause-unplaced : goal.returns-clause-unplaced
returns-clause-unplaced g c =
    let D = g.C.Cluster in
    let o = c.self.inside.file in
    let n = c.self.inside.failures in
    let f = c.begin_with-told.new.self in
    let m = c.counted-told.new.failures in
    let r = c.counted-told.result in
    let k = c.counted-told.ensures in
    let never = fault_then c.begin_with-told.result IsFailure (λ fault. fault ≡ Memory → KeepsSeen D o f) c.begin_with-told.ensures.failed
    (λ fault failed memory. absurd (subst (λ (x : DeviceFault). IsFailure x) memory failed)) in
    subst (λ (v : Failing _). IfErr c.settled.result (λ fault. IsUnplaced fault → IsBeside (λ (d : Failing _). seen_of D d.file) (λ d. leaves D d.file) (λ d. d.failures) v
    (record { file = f; failures = m }))) c.self.view_is (subst (λ x. IfErr x (λ fault. IsUnplaced fault → IsBeside (λ (d : Failing _). seen_of D d.file) (λ d. leaves D d.file)
    (λ d. d.failures) (record { file = o; failures = n }) (record { file = f; failures = m }))) (sym c.settled.ensures)
    (settled_fault r _ (unplaced_of D o f n m c.begin_with-told.result r c.self.invariant c.begin_with-told.ensures.goes_on k never)))

pub returns-clause-crash : goal.returns-clause-crash
returns-clause-crash g c =
    let D = g.C.Cluster in
    let f = c.begin_with-told.new.self in
    subst (λ (v : Failing _). ComesOfStep (Swapped (take c.args.end (seen_of D v.file) ++ c.args.bytes.now)) (leaves D v.file) (leaves D f)) c.self.view_is
    (c.begin_with-told.ensures.crash)

pub returns-clause-time : goal.returns-clause-time
returns-clause-time g c =
    let D = g.C.Cluster in
    let f = c.begin_with-told.new.self in
    subst (λ (v : Failing _). Elapses (D.moment v.file.cluster) (D.moment f.cluster) (has_left D v.file) (has_left D f) (leaves D f)) c.self.view_is
    (c.begin_with-told.ensures.goes_on.time)

pub returns-clause-cause : goal.returns-clause-cause
returns-clause-cause g c =
    let n = c.self.inside.failures in
    let m = c.counted-told.new.failures in
    let r = c.counted-told.result in
    let k = c.counted-told.ensures in
    subst (λ (v : Failing _). HasCause IsReplaceFailure v.failures m c.settled.result) c.self.view_is
    (subst (λ x. HasCause IsReplaceFailure n m x) (sym c.settled.ensures) (settled_cause n m r k.cause))

pub returns-clause-truth : goal.returns-clause-truth
returns-clause-truth g c =
    let D = g.C.Cluster in
    let f = c.begin_with-told.new.self in
    subst (λ (v : Failing _). AreTrue (D.calls f.cluster) → AreTrue (D.calls v.file.cluster)) c.self.view_is (c.begin_with-told.ensures.goes_on.truth)
