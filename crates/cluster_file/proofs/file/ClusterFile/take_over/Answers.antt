use Rattle.std.proofs.Common.{◌≡◌, true}
use Rattle.std.specs.Prelude.{is_some}
use Rattle.cluster_file.specs.Devices.{GoesOn, KeepsSeen}
use Rattle.cluster_file.specs.Places.{EndsThere}
use Rattle.cluster_file.proofs.Dropping.{goes_by, goes_lost, goes_then, seen_then, synced_by}
use Rattle.cluster_file.proofs.Kept.{err_any, ok_then}
use Rattle.cluster_file.proofs.file.ClusterFile.take_over.Goals as goal

pub touch-requires-clause-sound : goal.touch-requires-clause-sound
touch-requires-clause-sound g c =
    c.requires.well.sound c.requires.working

pub touch-requires-clause-whole : goal.touch-requires-clause-whole
touch-requires-clause-whole g c =
    c.requires.well.whole c.requires.working

pub returns-in_err-touch-clause-seen : goal.returns-in_err-touch-clause-seen
returns-in_err-touch-clause-seen g c =
    record { seen = c.touch.ensures.seen; crash = c.touch.ensures.left }

pub returns-in_err-touch-clause-goes_on : goal.returns-in_err-touch-clause-goes_on
returns-in_err-touch-clause-goes_on g c =
    let D = g.C.Cluster in
    let old = c.args.self.now in
    let well = c.requires.well in
    let working = c.requires.working in
    let mid = c.touch.new.self in
    goes_lost D old mid well working c.touch.ensures.proceeds c.in_err-touch.ensures.lost

pub returns-in_err-touch-clause-lost : goal.returns-in_err-touch-clause-lost
returns-in_err-touch-clause-lost g c =
    err_any c.from_residual.result (is_some c.touch.new.self.lost ≡ true) c.in_err-touch.ensures.lost

pub begin_beside-requires : goal.begin_beside-requires
begin_beside-requires g c =
    let D = g.C.Cluster in
    let old = c.args.self.now in
    let well = c.requires.well in
    let working = c.requires.working in
    let mid = c.touch.new.self in
    let touched : GoesOn D old mid =
    goes_by D old mid well working c.touch.ensures.proceeds (λ none. (c.in_ok-touch.ensures.sound, c.in_ok-touch.ensures.whole))
    (λ none. synced_by D old mid c.touch.ensures.kept c.in_ok-touch.ensures.counts (well.synced working)) in
    touched.well

pub returns-clause-seen : goal.returns-clause-seen
returns-clause-seen g c =
    let D = g.C.Cluster in
    let old = c.args.self.now in
    let mid = c.touch.new.self in
    let new = c.begin_beside.new.self in
    let seen : KeepsSeen D old mid = record { seen = c.touch.ensures.seen; crash = c.touch.ensures.left } in
    seen_then D old mid new seen c.begin_beside.ensures.seen

pub returns-clause-goes_on : goal.returns-clause-goes_on
returns-clause-goes_on g c =
    let D = g.C.Cluster in
    let L = g.met.C.Cluster in
    let old = c.args.self.now in
    let well = c.requires.well in
    let working = c.requires.working in
    let mid = c.touch.new.self in
    let touched : GoesOn D old mid =
    goes_by D old mid well working c.touch.ensures.proceeds (λ none. (c.in_ok-touch.ensures.sound, c.in_ok-touch.ensures.whole))
    (λ none. synced_by D old mid c.touch.ensures.kept c.in_ok-touch.ensures.counts (well.synced working)) in
    let new = c.begin_beside.new.self in
    let seen : KeepsSeen D old mid = record { seen = c.touch.ensures.seen; crash = c.touch.ensures.left } in
    goes_then D L.counts_now old mid new seen touched c.begin_beside.ensures.goes_on

pub returns-clause-ends : goal.returns-clause-ends
returns-clause-ends g c =
    let D = g.C.Cluster in
    let mid = c.touch.new.self in
    let new = c.begin_beside.new.self in
    ok_then c.begin_beside.result (mid.has_begun ≡ true → EndsThere D mid → EndsThere D new) (EndsThere D new) c.begin_beside.ensures.ends
    (λ so. so c.in_ok-touch.ensures.begun c.in_ok-touch.ensures.ends)
