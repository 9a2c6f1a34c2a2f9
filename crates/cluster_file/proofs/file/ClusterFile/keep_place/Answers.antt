use Rattle.std.proofs.Common.{◌≡◌, ◌∙◌, true, sym, ap, subst, rules}
use Rattle.std.specs.Prelude.{None, is_some}
use Rattle.etcd_cluster.specs.Stands.{Stand}
use Rattle.etcd_cluster.specs.declared.settling.SettleFault.TheVariants.{Refused}
use Rattle.cluster_file.specs.Devices.{GoesOn, KeepsSeen}
use Rattle.cluster_file.specs.Files.{next_of}
use Rattle.cluster_file.specs.Runs.{MergesMany}
use Rattle.cluster_file.specs.declared.file.ClusterFile.{ClusterFile}
use Rattle.cluster_file.proofs.Dropping.{goes_then, seen_then}
use Rattle.cluster_file.proofs.Going.{gives_seen, gives_up, goes_same, keeps_same, kept_last, longer_calls}
use Rattle.cluster_file.proofs.Written.{ok_any}
use Rattle.cluster_file.proofs.file.ClusterFile.keep_place.Goals as goal

pub returns-then-is_some-clause-seen : goal.returns-then-is_some-clause-seen
returns-then-is_some-clause-seen g c = keeps_same g.C.Cluster c.args.self.now

pub returns-then-is_some-clause-goes_on : goal.returns-then-is_some-clause-goes_on
returns-then-is_some-clause-goes_on g c = goes_same g.C.Cluster c.args.self.now c.requires

pub returns-then-is_some-clause-loses : goal.returns-then-is_some-clause-loses
returns-then-is_some-clause-loses g c = λ failure. sym c.is_some.ensures ∙ c.if-is_some.true

pub returns-then-not-self-clause-seen : goal.returns-then-not-self-clause-seen
returns-then-not-self-clause-seen g c =
    let D = g.C.Cluster in
    let old = c.args.self.now in
    let working : old.lost ≡ None = search rules in
    subst (λ (x : ClusterFile _). KeepsSeen D old x) (sym c.lose.ensures.lost) (gives_seen D old c.requires working Refused)

pub returns-then-not-self-clause-goes_on : goal.returns-then-not-self-clause-goes_on
returns-then-not-self-clause-goes_on g c =
    let D = g.C.Cluster in
    let old = c.args.self.now in
    let working : old.lost ≡ None = search rules in
    subst (λ (x : ClusterFile _). GoesOn D old x) (sym c.lose.ensures.lost) (gives_up D old c.requires working Refused)

pub returns-then-not-self-clause-loses : goal.returns-then-not-self-clause-loses
returns-then-not-self-clause-loses g c = λ failure. ap (λ (x : ClusterFile _). is_some x.lost) c.lose.ensures.lost

pub returns-then-not-self-clause-next : goal.returns-then-not-self-clause-next
returns-then-not-self-clause-next g c = ap (λ (x : ClusterFile _). next_of g.C.Cluster x) c.lose.ensures.lost

pub keep_alone-requires-clause-well : goal.keep_alone-requires-clause-well
keep_alone-requires-clause-well g c = c.merge.ensures.goes_on.well

pub keep_alone-requires-clause-begun : goal.keep_alone-requires-clause-begun
keep_alone-requires-clause-begun g c =
    let begun : c.args.self.now.has_begun ≡ true = search rules in
    c.in_ok-merge.ensures.begun begun

pub returns-clause-seen : goal.returns-clause-seen
returns-clause-seen g c = seen_then g.C.Cluster c.args.self.now c.merge.new.self c.keep_alone.new.self c.merge.ensures.seen c.keep_alone.ensures.seen

pub returns-clause-goes_on : goal.returns-clause-goes_on
returns-clause-goes_on g c =
    goes_then g.C.Cluster g.met.C.Cluster.counts_now c.args.self.now c.merge.new.self c.keep_alone.new.self c.merge.ensures.seen c.merge.ensures.goes_on c.keep_alone.ensures.goes_on

pub returns-clause-kept : goal.returns-clause-kept
returns-clause-kept g c =
    let D = g.C.Cluster in
    let old = c.args.self.now in
    let mid = c.merge.new.self in
    kept_last (D.calls old.cluster) (D.calls mid.cluster) (D.calls c.keep_alone.new.self.cluster) c.keep_alone.result
    (longer_calls D g.met.C.Cluster.counts_calls old mid c.merge.ensures.goes_on) c.keep_alone.ensures.kept

pub returns-clause-next : goal.returns-clause-next
returns-clause-next g c = c.keep_alone.ensures.next ∙ c.merge.ensures.next

pub returns-clause-merged : goal.returns-clause-merged
returns-clause-merged g c =
    let old = c.args.self.now in
    let new = c.keep_alone.new.self in
    ok_any c.keep_alone.result (MergesMany g.C.Cluster old new)
    (λ many some at p. ap (λ (s : Stand). s.pieces at p) c.keep_alone.ensures.stand ∙ c.in_ok-merge.ensures.merged many some at p)
