use Rattle.std.proofs.Common.{◌≡◌, ◌+◌, ◌∙◌, true, sym, rules}
use Rattle.std.specs.Prelude.{None, is_some}
use Rattle.batch_file.specs.Crashes.{IsFailure}
use Rattle.etcd_cluster.specs.declared.change.Head.{Head}
use Rattle.cluster_file.proofs.Going.{crash_same, goes_same}
use Rattle.cluster_file.proofs.Kept.{fault_any}
use Rattle.cluster_file.proofs.Roomy.{grown_crash, grown_goes, grown_seen, lost_crash, lost_goes}
use Rattle.cluster_file.proofs.file.ClusterFile.put_room.Goals as goal

pub returns-then-is_some-clause-goes_on : goal.returns-then-is_some-clause-goes_on
returns-then-is_some-clause-goes_on g c =
    goes_same g.C.Cluster c.args.self.now c.requires

pub returns-then-is_some-clause-loses : goal.returns-then-is_some-clause-loses
returns-then-is_some-clause-loses g c =
    λ failure. sym c.is_some.ensures ∙ c.if-is_some.true

pub returns-then-is_some-clause-crash : goal.returns-then-is_some-clause-crash
returns-then-is_some-clause-crash g c =
    crash_same g.C.Cluster c.args.self.now _ _

pub returns-in_default-clause-goes_on : goal.returns-in_default-clause-goes_on
returns-in_default-clause-goes_on g c =
    goes_same g.C.Cluster c.args.self.now c.requires

pub returns-in_default-clause-crash : goal.returns-in_default-clause-crash
returns-in_default-clause-crash g c =
    crash_same g.C.Cluster c.args.self.now _ _

pub returns-in_err-told-clause-goes_on : goal.returns-in_err-told-clause-goes_on
returns-in_err-told-clause-goes_on g c =
    let D = g.C.Cluster in
    let L = g.met.C.Cluster in
    let old = c.args.self.now in
    let working : old.lost ≡ None = search rules in
    let head : Head = record c.next_head.result { room = c.in-Some.room } in
    let grows : c.in-Some.room ≡ old.room + c.args.size = search rules in
    lost_goes D L.counts_now L.counts_calls L.true_calls L.by_calls old c.requires working head c.args.size c.next_head.ensures.end c.next_head.ensures.generation grows
    c.change-told.new.self c.change-told.ensures.same (c.change-told.ensures.tried working) (c.change-told.ensures.meanwhile working) c.in_err-told.ensures.given_up

pub returns-in_err-told-clause-crash : goal.returns-in_err-told-clause-crash
returns-in_err-told-clause-crash g c =
    let D = g.C.Cluster in
    let L = g.met.C.Cluster in
    let old = c.args.self.now in
    let working : old.lost ≡ None = search rules in
    let head : Head = record c.next_head.result { room = c.in-Some.room } in
    let grows : c.in-Some.room ≡ old.room + c.args.size = search rules in
    lost_crash D L.counts_now L.counts_calls L.true_calls L.by_calls old c.requires working head c.args.size c.next_head.ensures.end c.next_head.ensures.generation grows
    c.change-told.new.self c.change-told.ensures.same (c.change-told.ensures.tried working) (c.change-told.ensures.meanwhile working) c.in_err-told.ensures.given_up

pub returns-in_err-told-clause-loses : goal.returns-in_err-told-clause-loses
returns-in_err-told-clause-loses g c =
    fault_any c.from_residual.result (λ fault. IsFailure fault → is_some c.change-told.new.self.lost ≡ true) (λ fault failure. c.in_err-told.ensures.given_up.lost)

pub returns-clause-longer : goal.returns-clause-longer
returns-clause-longer g c =
    let D = g.C.Cluster in
    let L = g.met.C.Cluster in
    let old = c.args.self.now in
    let working : old.lost ≡ None = search rules in
    let head : Head = record c.next_head.result { room = c.in-Some.room } in
    let grows : c.in-Some.room ≡ old.room + c.args.size = search rules in
    grown_seen D L.counts_now L.counts_calls L.true_calls L.by_calls old c.requires working head c.args.size c.next_head.ensures.end c.next_head.ensures.generation grows
    c.change-told.new.self c.change-told.ensures.same (c.change-told.ensures.tried working) (c.change-told.ensures.meanwhile working) c.in_ok-told.ensures.made c.in_ok-told.ensures.kept

pub returns-clause-goes_on : goal.returns-clause-goes_on
returns-clause-goes_on g c =
    let D = g.C.Cluster in
    let L = g.met.C.Cluster in
    let old = c.args.self.now in
    let working : old.lost ≡ None = search rules in
    let head : Head = record c.next_head.result { room = c.in-Some.room } in
    let grows : c.in-Some.room ≡ old.room + c.args.size = search rules in
    grown_goes D L.counts_now L.counts_calls L.true_calls L.by_calls old c.requires working head c.args.size c.next_head.ensures.end c.next_head.ensures.generation grows
    c.change-told.new.self c.change-told.ensures.same (c.change-told.ensures.tried working) (c.change-told.ensures.meanwhile working) c.in_ok-told.ensures.made c.in_ok-told.ensures.kept

pub returns-clause-crash : goal.returns-clause-crash
returns-clause-crash g c =
    let D = g.C.Cluster in
    let L = g.met.C.Cluster in
    let old = c.args.self.now in
    let working : old.lost ≡ None = search rules in
    let head : Head = record c.next_head.result { room = c.in-Some.room } in
    let grows : c.in-Some.room ≡ old.room + c.args.size = search rules in
    grown_crash D L.counts_now L.counts_calls L.true_calls L.by_calls old c.requires working head c.args.size c.next_head.ensures.end c.next_head.ensures.generation grows
    c.change-told.new.self c.change-told.ensures.same (c.change-told.ensures.tried working) (c.change-told.ensures.meanwhile working) c.in_ok-told.ensures.made c.in_ok-told.ensures.kept
