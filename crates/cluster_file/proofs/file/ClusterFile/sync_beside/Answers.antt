use Rattle.std.proofs.Common.{◌≡◌, ◌-◌, ◌∙◌, sym, rules}
use Rattle.std.specs.Prelude.{None, Some}
use Rattle.cluster_file.specs.Files.{next_of, written_beside}
use Rattle.cluster_file.proofs.Going.{goes_same, keeps_same}
use Rattle.cluster_file.proofs.Kept.{ok_then}
use Rattle.cluster_file.proofs.Nexts.{taken_begun, taken_goes, taken_none, taken_on, taken_out, taken_same, taken_seen, taken_well, taken_working}
use Rattle.cluster_file.proofs.file.ClusterFile.sync_beside.Goals as goal

pub returns-then-is_some-clause-seen : goal.returns-then-is_some-clause-seen
returns-then-is_some-clause-seen g c =
    keeps_same g.C.Cluster c.args.self.now

pub returns-then-is_some-clause-goes_on : goal.returns-then-is_some-clause-goes_on
returns-then-is_some-clause-goes_on g c =
    goes_same g.C.Cluster c.args.self.now c.requires

pub returns-in_default-clause-seen : goal.returns-in_default-clause-seen
returns-in_default-clause-seen g c =
    let D = g.C.Cluster in
    let old = c.args.self.now in
    let mid = c.take_next.new.self in
    let working : old.lost ≡ None = search rules in
    let none = c.take_next.ensures.none in
    taken_out D old mid c.requires working none

pub returns-in_default-clause-goes_on : goal.returns-in_default-clause-goes_on
returns-in_default-clause-goes_on g c =
    let D = g.C.Cluster in
    let old = c.args.self.now in
    let mid = c.take_next.new.self in
    let working : old.lost ≡ None = search rules in
    let none = c.take_next.ensures.none in
    taken_on D old mid c.requires working none

pub lay_whole-requires-clause-well : goal.lay_whole-requires-clause-well
lay_whole-requires-clause-well g c =
    let D = g.C.Cluster in
    let old = c.args.self.now in
    let mid = c.take_next.new.self in
    let working : old.lost ≡ None = search rules in
    let none = c.take_next.ensures.none in
    taken_well D old mid c.requires working none

pub lay_whole-requires-clause-working : goal.lay_whole-requires-clause-working
lay_whole-requires-clause-working g c =
    let D = g.C.Cluster in
    let old = c.args.self.now in
    let mid = c.take_next.new.self in
    let working : old.lost ≡ None = search rules in
    let none = c.take_next.ensures.none in
    taken_working D old mid c.requires working none

pub lay_whole-requires-clause-none : goal.lay_whole-requires-clause-none
lay_whole-requires-clause-none g c =
    let D = g.C.Cluster in
    let old = c.args.self.now in
    let mid = c.take_next.new.self in
    let working : old.lost ≡ None = search rules in
    let none = c.take_next.ensures.none in
    taken_none D old mid c.requires working none

pub lay_whole-requires-clause-begun : goal.lay_whole-requires-clause-begun
lay_whole-requires-clause-begun g c =
    let D = g.C.Cluster in
    let old = c.args.self.now in
    let mid = c.take_next.new.self in
    let working : old.lost ≡ None = search rules in
    let none = c.take_next.ensures.none in
    let next = c.in-Some.next in
    let is = sym c.in-Some.ensures.taken in
    taken_begun D old mid c.requires working none next is

pub returns-clause-seen : goal.returns-clause-seen
returns-clause-seen g c =
    let D = g.C.Cluster in
    let old = c.args.self.now in
    let mid = c.take_next.new.self in
    let working : old.lost ≡ None = search rules in
    let none = c.take_next.ensures.none in
    taken_seen D old mid c.requires working none c.lay_whole.new.self c.lay_whole.ensures.seen

pub returns-clause-goes_on : goal.returns-clause-goes_on
returns-clause-goes_on g c =
    let D = g.C.Cluster in
    let old = c.args.self.now in
    let mid = c.take_next.new.self in
    let working : old.lost ≡ None = search rules in
    let none = c.take_next.ensures.none in
    taken_goes D old mid c.requires working none c.lay_whole.new.self c.lay_whole.ensures.goes_on

pub returns-clause-same : goal.returns-clause-same
returns-clause-same g c =
    let D = g.C.Cluster in
    let old = c.args.self.now in
    let mid = c.take_next.new.self in
    let working : old.lost ≡ None = search rules in
    let none = c.take_next.ensures.none in
    let next = c.in-Some.next in
    let is = sym c.in-Some.ensures.taken in
    ok_then c.lay_whole.result (next_of D c.lay_whole.new.self ≡ Some (written_beside D mid.cluster next)) (next_of D c.lay_whole.new.self ≡ next_of D old) c.lay_whole.ensures.same
    (λ same. same ∙ sym (taken_same D old mid c.requires working none next is))
