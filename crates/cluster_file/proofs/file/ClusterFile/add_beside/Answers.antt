use Rattle.std.proofs.Common.{◌≡◌, refl, sym, rules}
use Rattle.std.specs.Prelude.{None}
use Rattle.cluster_file.specs.declared.beside.NextFile.{NextFile}
use Rattle.cluster_file.proofs.Going.{goes_same, keeps_same}
use Rattle.cluster_file.proofs.Nexts.{begun_rest, taken_begun, taken_goes, taken_none, taken_on, taken_out, taken_seen, taken_well, taken_working}
use Rattle.cluster_file.proofs.file.ClusterFile.add_beside.Goals as goal

pub returns-then-is_some-clause-seen : goal.returns-then-is_some-clause-seen
returns-then-is_some-clause-seen g c =
    keeps_same g.C.Cluster c.args.self.now

pub returns-then-is_some-clause-goes_on : goal.returns-then-is_some-clause-goes_on
returns-then-is_some-clause-goes_on g c =
    goes_same g.C.Cluster c.args.self.now c.requires

pub returns-in_default-clause-seen : goal.returns-in_default-clause-seen
returns-in_default-clause-seen g c =
    let D = g.C.Cluster in
    let old = c.args.self.now in
    let mid = c.take_next.new.self in
    let working : old.lost ≡ None = search rules in
    let none = c.take_next.ensures.none in
    taken_out D old mid c.requires working none

pub returns-in_default-clause-goes_on : goal.returns-in_default-clause-goes_on
returns-in_default-clause-goes_on g c =
    let D = g.C.Cluster in
    let old = c.args.self.now in
    let mid = c.take_next.new.self in
    let working : old.lost ≡ None = search rules in
    let none = c.take_next.ensures.none in
    taken_on D old mid c.requires working none

pub returns-in_err-extend_from_slice-clause-seen : goal.returns-in_err-extend_from_slice-clause-seen
returns-in_err-extend_from_slice-clause-seen g c =
    let D = g.C.Cluster in
    let old = c.args.self.now in
    let mid = c.take_next.new.self in
    let working : old.lost ≡ None = search rules in
    let none = c.take_next.ensures.none in
    taken_out D old mid c.requires working none

pub returns-in_err-extend_from_slice-clause-goes_on : goal.returns-in_err-extend_from_slice-clause-goes_on
returns-in_err-extend_from_slice-clause-goes_on g c =
    let D = g.C.Cluster in
    let old = c.args.self.now in
    let mid = c.take_next.new.self in
    let working : old.lost ≡ None = search rules in
    let none = c.take_next.ensures.none in
    taken_on D old mid c.requires working none

pub lay_full-requires-clause-well : goal.lay_full-requires-clause-well
lay_full-requires-clause-well g c =
    let D = g.C.Cluster in
    let old = c.args.self.now in
    let mid = c.take_next.new.self in
    let working : old.lost ≡ None = search rules in
    let none = c.take_next.ensures.none in
    taken_well D old mid c.requires working none

pub lay_full-requires-clause-working : goal.lay_full-requires-clause-working
lay_full-requires-clause-working g c =
    let D = g.C.Cluster in
    let old = c.args.self.now in
    let mid = c.take_next.new.self in
    let working : old.lost ≡ None = search rules in
    let none = c.take_next.ensures.none in
    taken_working D old mid c.requires working none

pub lay_full-requires-clause-none : goal.lay_full-requires-clause-none
lay_full-requires-clause-none g c =
    let D = g.C.Cluster in
    let old = c.args.self.now in
    let mid = c.take_next.new.self in
    let working : old.lost ≡ None = search rules in
    let none = c.take_next.ensures.none in
    taken_none D old mid c.requires working none

pub lay_full-requires-clause-begun : goal.lay_full-requires-clause-begun
lay_full-requires-clause-begun g c =
    let D = g.C.Cluster in
    let old = c.args.self.now in
    let mid = c.take_next.new.self in
    let working : old.lost ≡ None = search rules in
    let none = c.take_next.ensures.none in
    let next = c.in-Some.next in
    let more : NextFile = record next { rest = c.extend_from_slice.new.self } in
    begun_rest D mid.cluster next more refl refl (taken_begun D old mid c.requires working none next (sym c.in-Some.ensures.taken))

pub returns-clause-seen : goal.returns-clause-seen
returns-clause-seen g c =
    let D = g.C.Cluster in
    let old = c.args.self.now in
    let mid = c.take_next.new.self in
    let working : old.lost ≡ None = search rules in
    let none = c.take_next.ensures.none in
    taken_seen D old mid c.requires working none c.lay_full.new.self c.lay_full.ensures.seen

pub returns-clause-goes_on : goal.returns-clause-goes_on
returns-clause-goes_on g c =
    let D = g.C.Cluster in
    let old = c.args.self.now in
    let mid = c.take_next.new.self in
    let working : old.lost ≡ None = search rules in
    let none = c.take_next.ensures.none in
    taken_goes D old mid c.requires working none c.lay_full.new.self c.lay_full.ensures.goes_on
