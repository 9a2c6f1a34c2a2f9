use Rattle.std.proofs.Common.{◌≡◌, ◌∙◌, true, refl, sym, ap, subst, rules}
use Rattle.std.specs.Prelude.{None, is_some}
use Rattle.etcd_cluster.specs.declared.settling.SettleFault.TheVariants.{Refused}
use Rattle.cluster_file.specs.Devices.{GoesOn, KeepsSeen}
use Rattle.cluster_file.specs.Files.{next_of}
use Rattle.cluster_file.specs.declared.file.ClusterFile.{ClusterFile}
use Rattle.cluster_file.proofs.Going.{begun_only, gives_seen, gives_up, goes_same, keeps_same}
use Rattle.cluster_file.proofs.file.ClusterFile.still_works.Goals as goal

pub returns-then-is_some-clause-seen : goal.returns-then-is_some-clause-seen
returns-then-is_some-clause-seen g c = keeps_same g.C.Cluster c.args.self.now

pub returns-then-is_some-clause-goes_on : goal.returns-then-is_some-clause-goes_on
returns-then-is_some-clause-goes_on g c = goes_same g.C.Cluster c.args.self.now c.requires

pub returns-then-is_some-clause-loses : goal.returns-then-is_some-clause-loses
returns-then-is_some-clause-loses g c = λ failure. sym c.is_some.ensures ∙ c.if-is_some.true

pub returns-then-not-self-clause-same : goal.returns-then-not-self-clause-same
returns-then-not-self-clause-same g c = subst (λ (x : ClusterFile _). x ≡ record c.args.self.now { lost = x.lost }) (sym c.lose.ensures.lost) refl

pub returns-then-not-self-clause-seen : goal.returns-then-not-self-clause-seen
returns-then-not-self-clause-seen g c =
    let D = g.C.Cluster in
    let old = c.args.self.now in
    let working : old.lost ≡ None = search rules in
    subst (λ (x : ClusterFile _). KeepsSeen D old x) (sym c.lose.ensures.lost) (gives_seen D old c.requires working Refused)

pub returns-then-not-self-clause-goes_on : goal.returns-then-not-self-clause-goes_on
returns-then-not-self-clause-goes_on g c =
    let D = g.C.Cluster in
    let old = c.args.self.now in
    let working : old.lost ≡ None = search rules in
    subst (λ (x : ClusterFile _). GoesOn D old x) (sym c.lose.ensures.lost) (gives_up D old c.requires working Refused)

pub returns-then-not-self-clause-loses : goal.returns-then-not-self-clause-loses
returns-then-not-self-clause-loses g c = λ failure. ap (λ (x : ClusterFile _). is_some x.lost) c.lose.ensures.lost

pub returns-then-not-self-clause-next : goal.returns-then-not-self-clause-next
returns-then-not-self-clause-next g c = ap (λ (x : ClusterFile _). next_of g.C.Cluster x) c.lose.ensures.lost

pub returns-clause-durable : goal.returns-clause-durable
returns-clause-durable g c =
    let D = g.C.Cluster in
    let old = c.args.self.now in
    let working : old.lost ≡ None = search rules in
    let begun : old.has_begun ≡ true = search rules in
    begun_only D g.met.C.Cluster.by_calls old c.requires working begun

pub returns-clause-seen : goal.returns-clause-seen
returns-clause-seen g c = keeps_same g.C.Cluster c.args.self.now

pub returns-clause-goes_on : goal.returns-clause-goes_on
returns-clause-goes_on g c = goes_same g.C.Cluster c.args.self.now c.requires
