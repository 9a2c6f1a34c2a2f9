use Rattle.std.proofs.Common.{◌≡◌, ◌∙◌, ap, subst, sym, rules}
use Rattle.std.specs.Prelude.{None, OnOk}
use Rattle.batch_file.specs.Crashes.{IsWrittenAt}
use Rattle.cluster_file.specs.Causes.{FailsFor, HasNoPlace}
use Rattle.cluster_file.specs.Devices.{IsSoleSince, LosesAtFailure}
use Rattle.cluster_file.specs.Files.{IsSynced, seen_of}
use Rattle.cluster_file.specs.declared.file.ClusterFile.{ClusterFile}
use Rattle.cluster_file.proofs.Causes.{fails_beside}
use Rattle.cluster_file.proofs.Dropping.{drop_crash, drop_goes, drop_proceeds, next_kept, ok_or_err}
use Rattle.cluster_file.proofs.Going.{crash_same, goes_same}
use Rattle.cluster_file.proofs.Kept.{err_then, ok_both}
use Rattle.cluster_file.proofs.Laying.{lost_not}
use Rattle.cluster_file.proofs.file.ClusterFile.put.Goals as goal

pub returns-then-is_some-clause-goes_on : goal.returns-then-is_some-clause-goes_on
returns-then-is_some-clause-goes_on g c =
    goes_same g.C.Cluster c.args.self.now c.requires.well

pub returns-then-is_some-clause-crash : goal.returns-then-is_some-clause-crash
returns-then-is_some-clause-crash g c =
    crash_same g.C.Cluster c.args.self.now _ _

pub returns-then-is_some-clause-loses : goal.returns-then-is_some-clause-loses
returns-then-is_some-clause-loses g c =
    λ failure. sym c.is_some.ensures ∙ c.if-is_some.true

pub returns-clause-written : goal.returns-clause-written
returns-clause-written g c =
    let D = g.C.Cluster in
    let L = g.met.C.Cluster in
    let old = c.args.self.now in
    let working : old.lost ≡ None = search rules in
    let mid = c.put_now-told.new.self in
    let new = c.drop_unput.new.self in
    let same = c.drop_unput.ensures.same in
    ok_both c.put_now-told.result (IsWrittenAt (seen_of D old) c.args.at c.args.bytes.now (seen_of D mid)) (new ≡ mid)
    (IsWrittenAt (seen_of D old) c.args.at c.args.bytes.now (seen_of D new)) c.put_now-told.ensures.written c.drop_unput.ensures.put
    (λ written is. subst (λ (x : ClusterFile _). IsWrittenAt (seen_of D old) c.args.at c.args.bytes.now (seen_of D x)) (sym is) written)

pub returns-clause-sole : goal.returns-clause-sole
returns-clause-sole g c =
    let D = g.C.Cluster in
    let L = g.met.C.Cluster in
    let old = c.args.self.now in
    let working : old.lost ≡ None = search rules in
    let mid = c.put_now-told.new.self in
    let new = c.drop_unput.new.self in
    let same = c.drop_unput.ensures.same in
    subst (λ (x : ClusterFile _). OnOk c.put_now-told.result (IsSoleSince D old x)) (sym same) c.put_now-told.ensures.sole

pub returns-clause-crash : goal.returns-clause-crash
returns-clause-crash g c =
    let D = g.C.Cluster in
    let L = g.met.C.Cluster in
    let old = c.args.self.now in
    let working : old.lost ≡ None = search rules in
    let mid = c.put_now-told.new.self in
    let new = c.drop_unput.new.self in
    let same = c.drop_unput.ensures.same in
    drop_crash D mid new same L.by_calls old c.requires.well working c.args.at c.args.bytes.now c.requires.within c.put_now-told.ensures.crash

pub returns-clause-goes_on : goal.returns-clause-goes_on
returns-clause-goes_on g c =
    let D = g.C.Cluster in
    let L = g.met.C.Cluster in
    let old = c.args.self.now in
    let working : old.lost ≡ None = search rules in
    let mid = c.put_now-told.new.self in
    let new = c.drop_unput.new.self in
    let same = c.drop_unput.ensures.same in
    drop_goes D mid new same old c.requires.well working c.put_now-told.ensures.proceeds c.put_now-told.ensures.whole
    (λ none. ok_or_err c.put_now-told.result (IsSynced new)
    (ok_both c.put_now-told.result (IsSynced mid) (new ≡ mid) (IsSynced new) c.put_now-told.ensures.synced c.drop_unput.ensures.put
    (λ synced is. subst (λ (x : ClusterFile _). IsSynced x) (sym is) synced))
    (err_then c.put_now-told.result (mid.lost ≡ None → IsSynced new) (IsSynced new) c.drop_unput.ensures.not
    (λ so. so (sym (ap (λ (x : ClusterFile _). x.lost) same) ∙ none))))

pub returns-clause-loses : goal.returns-clause-loses
returns-clause-loses g c =
    let D = g.C.Cluster in
    let L = g.met.C.Cluster in
    let old = c.args.self.now in
    let working : old.lost ≡ None = search rules in
    let mid = c.put_now-told.new.self in
    let new = c.drop_unput.new.self in
    let same = c.drop_unput.ensures.same in
    subst (λ (x : ClusterFile _). LosesAtFailure c.put_now-told.result x) (sym same) c.put_now-told.ensures.loses

pub returns-clause-next : goal.returns-clause-next
returns-clause-next g c =
    let D = g.C.Cluster in
    let L = g.met.C.Cluster in
    let old = c.args.self.now in
    let working : old.lost ≡ None = search rules in
    let mid = c.put_now-told.new.self in
    let new = c.drop_unput.new.self in
    let same = c.drop_unput.ensures.same in
    let on = drop_proceeds D mid new same old c.put_now-told.ensures.proceeds in
    next_kept D old new on.others on.reading.next (c.requires.well.beside working)

pub returns-then-is_some-clause-cause : goal.returns-then-is_some-clause-cause
returns-then-is_some-clause-cause g c = λ working. absurd (lost_not c.args.self.now.lost (sym c.is_some.ensures ∙ c.if-is_some.true) working)

pub returns-clause-cause : goal.returns-clause-cause
returns-clause-cause g c =
    let D = g.C.Cluster in
    let old = c.args.self.now in
    λ working. subst (λ (x : ClusterFile _). FailsFor D (HasNoPlace old c.args.at c.args.bytes.now) c.put_now-told.result old x) (sym c.drop_unput.ensures.same)
    (fails_beside D (HasNoPlace old c.args.at c.args.bytes.now) old c.put_now-told.new.self c.drop_unput.new.self.unsynced c.drop_unput.new.self.room c.put_now-told.result
    c.put_now-told.ensures.cause)
