use Rattle.std.proofs.Common.{◌≡◌, ◌∙◌, true, sym, ap, subst, arith, rules}
use Rattle.std.specs.Prelude.{None, Some, is_some}
use Rattle.batch_file.specs.Crashes.{IsFailure}
use Rattle.batch_file.specs.declared.device.DeviceFault.{DeviceFault}
use Rattle.etcd_cluster.specs.declared.settling.SettleFault.TheVariants.{Refused}
use Rattle.cluster_file.specs.Devices.{GoesOn, IsWell, KeepsSeen}
use Rattle.cluster_file.specs.declared.file.ClusterFile.{ClusterFile}
use Rattle.cluster_file.proofs.Going.{gives_seen, gives_up, goes_same, keeps_same}
use Rattle.cluster_file.proofs.Kept.{err_any}
use Rattle.cluster_file.proofs.Made.{failed_is}
use Rattle.cluster_file.proofs.Nexts.{begun_none, goes_next, goes_taken, none_written, seen_next, seen_taken, well_next}
use Rattle.cluster_file.proofs.file.ClusterFile.begin_beside.Goals as goal

pub returns-then-is_some-clause-seen : goal.returns-then-is_some-clause-seen
returns-then-is_some-clause-seen g c =
    keeps_same g.C.Cluster c.args.self.now

pub returns-then-is_some-clause-goes_on : goal.returns-then-is_some-clause-goes_on
returns-then-is_some-clause-goes_on g c =
    goes_same g.C.Cluster c.args.self.now c.requires

pub returns-then-is_some-clause-lost : goal.returns-then-is_some-clause-lost
returns-then-is_some-clause-lost g c =
    sym c.is_some.ensures ∙ c.if-is_some.true

pub returns-in_default-clause-seen : goal.returns-in_default-clause-seen
returns-in_default-clause-seen g c =
    let D = g.C.Cluster in
    let old = c.args.self.now in
    let working : old.lost ≡ None = search rules in
    let taken : ClusterFile _ = record old { next = None } in
    let well : IsWell D taken = well_next D old None c.requires (λ none. tt) in
    subst (λ (x : ClusterFile _). KeepsSeen D old x) (sym c.lose.ensures.lost) (seen_taken D old (record taken { lost = Some Refused }) (gives_seen D taken well working Refused))

pub returns-in_default-clause-goes_on : goal.returns-in_default-clause-goes_on
returns-in_default-clause-goes_on g c =
    let D = g.C.Cluster in
    let old = c.args.self.now in
    let working : old.lost ≡ None = search rules in
    let taken : ClusterFile _ = record old { next = None } in
    let well : IsWell D taken = well_next D old None c.requires (λ none. tt) in
    subst (λ (x : ClusterFile _). GoesOn D old x) (sym c.lose.ensures.lost)
    (goes_taken D old (record taken { lost = Some Refused }) working (gives_up D taken well working Refused))

pub returns-in_default-clause-lost : goal.returns-in_default-clause-lost
returns-in_default-clause-lost g c =
    ap (λ (x : ClusterFile _). is_some x.lost) c.lose.ensures.lost

pub returns-in_default-clause-failed : goal.returns-in_default-clause-failed
returns-in_default-clause-failed g c = subst (λ (f : DeviceFault). IsFailure f) (sym c.lose.ensures.told) (failed_is Refused)

pub change_beside-requires-clause-well : goal.change_beside-requires-clause-well
change_beside-requires-clause-well g c =
    well_next g.C.Cluster c.args.self.now None c.requires (λ none. tt)

pub change_beside-requires-clause-beside : goal.change_beside-requires-clause-beside
change_beside-requires-clause-beside g c =
    let is = c.in-Some.ensures in
    λ same. omega (arith, is, same)

pub returns-in_err-change_beside-clause-seen : goal.returns-in_err-change_beside-clause-seen
returns-in_err-change_beside-clause-seen g c =
    seen_taken g.C.Cluster c.args.self.now c.change_beside.new.self c.change_beside.ensures.seen

pub returns-in_err-change_beside-clause-goes_on : goal.returns-in_err-change_beside-clause-goes_on
returns-in_err-change_beside-clause-goes_on g c =
    let working : c.args.self.now.lost ≡ None = search rules in
    goes_taken g.C.Cluster c.args.self.now c.change_beside.new.self working c.change_beside.ensures.goes_on

pub returns-in_err-change_beside-clause-lost : goal.returns-in_err-change_beside-clause-lost
returns-in_err-change_beside-clause-lost g c =
    err_any c.from_residual.result (is_some c.change_beside.new.self.lost ≡ true) c.in_err-change_beside.ensures.lost

pub returns-clause-begun : goal.returns-clause-begun
returns-clause-begun g c =
    ap (λ l. Some l) (none_written g.C.Cluster c.change_beside.new.self.cluster c.new.result c.new.ensures.laid c.new.ensures.rest)

pub returns-clause-seen : goal.returns-clause-seen
returns-clause-seen g c =
    let D = g.C.Cluster in
    let old = c.args.self.now in
    seen_next D old c.change_beside.new.self (Some c.new.result) (seen_taken D old c.change_beside.new.self c.change_beside.ensures.seen)

pub returns-clause-goes_on : goal.returns-clause-goes_on
returns-clause-goes_on g c =
    let D = g.C.Cluster in
    let old = c.args.self.now in
    let working : old.lost ≡ None = search rules in
    goes_next D old c.change_beside.new.self (Some c.new.result) working (goes_taken D old c.change_beside.new.self working c.change_beside.ensures.goes_on)
    (λ none. begun_none D c.change_beside.new.self.cluster c.new.result c.new.ensures.laid c.new.ensures.starts)

pub returns-clause-ends : goal.returns-clause-ends
returns-clause-ends g c = λ begun ends. c.in_ok-change_beside.ensures.ends begun ends
