use Rattle.std.proofs.Common.{◌≡◌, ◌∙◌, true, refl, sym, ap, subst, rules}
use Rattle.std.specs.Prelude.{None, Some, is_some}
use Rattle.etcd_cluster.specs.declared.settling.SettleFault.TheVariants.{Refused}
use Rattle.cluster_file.specs.Devices.{GoesOn, KeepsSeen}
use Rattle.cluster_file.specs.Files.{next_of}
use Rattle.cluster_file.specs.declared.file.ClusterFile.{ClusterFile}
use Rattle.cluster_file.proofs.Going.{asked_onward, asked_settled, asked_true, begun_so, begun_some, gives_seen, gives_up, goes_same, heard_lost, heard_seen, heard_well, keeps_same, next_by, sole_then}
use Rattle.cluster_file.proofs.Laying.{lost_not}
use Rattle.cluster_file.proofs.file.ClusterFile.ask_head.Goals as goal

pub returns-then-is_some-clause-seen : goal.returns-then-is_some-clause-seen
returns-then-is_some-clause-seen g c = keeps_same g.C.Cluster c.args.self.now

pub returns-then-is_some-clause-goes_on : goal.returns-then-is_some-clause-goes_on
returns-then-is_some-clause-goes_on g c = goes_same g.C.Cluster c.args.self.now c.requires

pub returns-then-is_some-clause-loses : goal.returns-then-is_some-clause-loses
returns-then-is_some-clause-loses g c = λ failure. sym c.is_some.ensures ∙ c.if-is_some.true

pub returns-then-not-self-clause-seen : goal.returns-then-not-self-clause-seen
returns-then-not-self-clause-seen g c =
    let D = g.C.Cluster in
    let old = c.args.self.now in
    let working : old.lost ≡ None = search rules in
    subst (λ (x : ClusterFile _). KeepsSeen D old x) (sym c.lose.ensures.lost) (gives_seen D old c.requires working Refused)

pub returns-then-not-self-clause-goes_on : goal.returns-then-not-self-clause-goes_on
returns-then-not-self-clause-goes_on g c =
    let D = g.C.Cluster in
    let old = c.args.self.now in
    let working : old.lost ≡ None = search rules in
    subst (λ (x : ClusterFile _). GoesOn D old x) (sym c.lose.ensures.lost) (gives_up D old c.requires working Refused)

pub returns-then-not-self-clause-loses : goal.returns-then-not-self-clause-loses
returns-then-not-self-clause-loses g c = λ failure. ap (λ (x : ClusterFile _). is_some x.lost) c.lose.ensures.lost

pub returns-then-not-self-clause-next : goal.returns-then-not-self-clause-next
returns-then-not-self-clause-next g c = ap (λ (x : ClusterFile _). next_of g.C.Cluster x) c.lose.ensures.lost

pub confirm-requires : goal.confirm-requires
confirm-requires g c =
    let D = g.C.Cluster in
    let old = c.args.self.now in
    let working : old.lost ≡ None = search rules in
    let begun : old.has_begun ≡ true = search rules in
    (begun_so D old (c.requires.sound working) begun).0

pub returns-in-Ok-clause-sole : goal.returns-in-Ok-clause-sole
returns-in-Ok-clause-sole g c = sole_then g.C.Cluster c.args.self.now.cluster c.confirm.new.cluster c.in-Ok.ensures.sole

pub returns-in-Ok-clause-asked : goal.returns-in-Ok-clause-asked
returns-in-Ok-clause-asked g c =
    let asked = c.in-Ok.ensures.asked in
    (asked.told, asked.by.is, asked.asked)

pub returns-in-Ok-clause-seen : goal.returns-in-Ok-clause-seen
returns-in-Ok-clause-seen g c =
    let D = g.C.Cluster in
    let old = c.args.self.now in
    let working : old.lost ≡ None = search rules in
    let begun : old.has_begun ≡ true = search rules in
    let asked = c.confirm.ensures.asked in
    heard_seen D g.met.C.Cluster.counts_now g.met.C.Cluster.counts_calls g.met.C.Cluster.by_calls old c.requires working begun c.confirm.new.cluster old.lost
    (asked_true 30 asked.told (D.calls old.cluster) (D.calls c.confirm.new.cluster) asked.asked)
    (λ P was now. asked_onward P 30 asked.told (D.calls old.cluster) (D.calls c.confirm.new.cluster) asked.asked was now)
    (asked_settled 30 asked.told (D.calls old.cluster) (D.calls c.confirm.new.cluster) asked.asked)
    (c.confirm.ensures.stand (begun_some D old (c.requires.sound working) begun)) c.confirm.ensures.stays c.confirm.ensures.meanwhile

pub returns-in-Ok-clause-goes_on : goal.returns-in-Ok-clause-goes_on
returns-in-Ok-clause-goes_on g c =
    let D = g.C.Cluster in
    let old = c.args.self.now in
    let working : old.lost ≡ None = search rules in
    let begun : old.has_begun ≡ true = search rules in
    let asked = c.confirm.ensures.asked in
    let stand = c.confirm.ensures.stand (begun_some D old (c.requires.sound working) begun) in
    heard_well D g.met.C.Cluster.counts_now g.met.C.Cluster.counts_calls g.met.C.Cluster.by_calls old c.requires working begun c.confirm.new.cluster old.lost
    (asked_true 30 asked.told (D.calls old.cluster) (D.calls c.confirm.new.cluster) asked.asked)
    (λ P was now. asked_onward P 30 asked.told (D.calls old.cluster) (D.calls c.confirm.new.cluster) asked.asked was now)
    (asked_settled 30 asked.told (D.calls old.cluster) (D.calls c.confirm.new.cluster) asked.asked) stand
    c.confirm.ensures.stays c.confirm.ensures.meanwhile c.confirm.ensures.server c.confirm.ensures.leads
    (c.in-Ok.ensures.knows (begun_so D old (c.requires.sound working) begun).1 (c.requires.sound working).version)

pub returns-in-Ok-clause-next : goal.returns-in-Ok-clause-next
returns-in-Ok-clause-next g c =
    let D = g.C.Cluster in
    let old = c.args.self.now in
    let working : old.lost ≡ None = search rules in
    let begun : old.has_begun ≡ true = search rules in
    next_by D (c.confirm.ensures.stand (begun_some D old (c.requires.sound working) begun)) old.next

pub returns-in-Err-clause-seen : goal.returns-in-Err-clause-seen
returns-in-Err-clause-seen g c =
    let D = g.C.Cluster in
    let old = c.args.self.now in
    let working : old.lost ≡ None = search rules in
    let begun : old.has_begun ≡ true = search rules in
    let asked = c.confirm.ensures.asked in
    heard_seen D g.met.C.Cluster.counts_now g.met.C.Cluster.counts_calls g.met.C.Cluster.by_calls old c.requires working begun c.confirm.new.cluster (Some c.in-Err.reason)
    (asked_true 30 asked.told (D.calls old.cluster) (D.calls c.confirm.new.cluster) asked.asked)
    (λ P was now. asked_onward P 30 asked.told (D.calls old.cluster) (D.calls c.confirm.new.cluster) asked.asked was now)
    (asked_settled 30 asked.told (D.calls old.cluster) (D.calls c.confirm.new.cluster) asked.asked)
    (c.confirm.ensures.stand (begun_some D old (c.requires.sound working) begun)) c.confirm.ensures.stays c.confirm.ensures.meanwhile

pub returns-in-Err-clause-goes_on : goal.returns-in-Err-clause-goes_on
returns-in-Err-clause-goes_on g c =
    let D = g.C.Cluster in
    let old = c.args.self.now in
    let working : old.lost ≡ None = search rules in
    let begun : old.has_begun ≡ true = search rules in
    let asked = c.confirm.ensures.asked in
    let stand = c.confirm.ensures.stand (begun_some D old (c.requires.sound working) begun) in
    heard_lost D g.met.C.Cluster.counts_now g.met.C.Cluster.counts_calls g.met.C.Cluster.by_calls old c.requires working begun c.confirm.new.cluster (Some c.in-Err.reason)
    (asked_true 30 asked.told (D.calls old.cluster) (D.calls c.confirm.new.cluster) asked.asked)
    (λ P was now. asked_onward P 30 asked.told (D.calls old.cluster) (D.calls c.confirm.new.cluster) asked.asked was now)
    (asked_settled 30 asked.told (D.calls old.cluster) (D.calls c.confirm.new.cluster) asked.asked) stand
    c.confirm.ensures.stays c.confirm.ensures.meanwhile refl

pub returns-in-Err-clause-next : goal.returns-in-Err-clause-next
returns-in-Err-clause-next g c =
    let D = g.C.Cluster in
    let old = c.args.self.now in
    let working : old.lost ≡ None = search rules in
    let begun : old.has_begun ≡ true = search rules in
    next_by D (c.confirm.ensures.stand (begun_some D old (c.requires.sound working) begun)) old.next

pub returns-then-is_some-clause-refused : goal.returns-then-is_some-clause-refused
returns-then-is_some-clause-refused g c = λ working. absurd (lost_not c.args.self.now.lost (sym c.is_some.ensures ∙ c.if-is_some.true) working)

pub returns-in-Err-clause-refused : goal.returns-in-Err-clause-refused
returns-in-Err-clause-refused g c = λ working begun.
    record { reason = c.in-Err.reason; lost = refl; is = c.failed_of.ensures; asked = c.in-Err.ensures.asked }
