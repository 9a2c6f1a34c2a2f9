use Rattle.std.proofs.Common.{◌≡◌, ◌∙◌, ℕ, List, inl, subst, arith, rules}
use Rattle.std.specs.Prelude.{None, OnOk}
use Rattle.batch_file.specs.Crashes.{Only}
use Rattle.cluster_file.specs.Devices.{IsSoleSince, leaves}
use Rattle.cluster_file.proofs.Kept.{ok_then}
use Rattle.cluster_file.proofs.Laying.{laid_to}
use Rattle.cluster_file.proofs.Proceeding.{crash_on, proceeds_on}
use Rattle.cluster_file.proofs.file.ClusterFile.sync_all.Goals as goal

pub put_rest-requires-clause-laid : goal.put_rest-requires-clause-laid
put_rest-requires-clause-laid g c =
    let working : c.args.self.now.lost ≡ None = search rules in
    laid_to g.C.Cluster c.args.self.now c.lay_all.new.self c.in_ok-at.at (c.requires.known working).1 c.in_ok-at.ensures.laid

pub put_rest-requires-clause-run : goal.put_rest-requires-clause-run
put_rest-requires-clause-run g c =
    let working : c.args.self.now.lost ≡ None = search rules in
    c.lay_all.ensures.proceeds.run (c.requires.run working)

pub returns-clause-seen : goal.returns-clause-seen
returns-clause-seen g c = c.put_rest.ensures.seen ∙ c.lay_all.ensures.seen

pub returns-in_err-at-clause-proceeds : goal.returns-in_err-at-clause-proceeds
returns-in_err-at-clause-proceeds g c = λ working. c.lay_all.ensures.proceeds

pub returns-clause-proceeds : goal.returns-clause-proceeds
returns-clause-proceeds g c = λ working.
    proceeds_on g.C.Cluster g.met.C.Cluster.counts_now c.args.self.now c.lay_all.new.self c.put_rest.new.self c.lay_all.ensures.proceeds c.lay_all.ensures.left
    c.put_rest.ensures.proceeds

pub returns-in_err-at-clause-crash : goal.returns-in_err-at-clause-crash
returns-in_err-at-clause-crash g c = λ working left is. inl (c.lay_all.ensures.left left is)

pub returns-clause-sole : goal.returns-clause-sole
returns-clause-sole g c =
    let D = g.C.Cluster in
    let later = c.lay_all.ensures.proceeds.time.later in
    ok_then c.put_rest.result (IsSoleSince D c.lay_all.new.self c.put_rest.new.self) (IsSoleSince D c.args.self.now c.put_rest.new.self) c.put_rest.ensures.sole
    (λ sole t le. sole t (omega (arith, le, later)))

pub returns-clause-durable : goal.returns-clause-durable
returns-clause-durable g c =
    let D = g.C.Cluster in
    subst (λ (seen : List ℕ). OnOk c.put_rest.result (Only seen (leaves D c.put_rest.new.self))) c.lay_all.ensures.seen c.put_rest.ensures.durable

pub returns-clause-crash : goal.returns-clause-crash
returns-clause-crash g c = λ working.
    crash_on g.C.Cluster c.args.self.now c.lay_all.new.self c.put_rest.new.self c.lay_all.ensures.left c.lay_all.ensures.seen c.lay_all.ensures.proceeds.truth
    c.put_rest.ensures.crash
