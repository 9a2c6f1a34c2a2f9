use Rattle.std.proofs.Common.{◌≡◌, true, refl, sym, subst, arith}
use Rattle.std.specs.Prelude.{IsTrue, is_some}
use Rattle.etcd_cluster.specs.Stands.{ChangeFact, Stand}
use Rattle.etcd_cluster.specs.declared.change.Head.{Head}
use Rattle.cluster_file.specs.Devices.{LeavesNoMore, Proceeds}
use Rattle.cluster_file.specs.Places.{EndsThere, OthersStay}
use Rattle.cluster_file.specs.Files.{CountsSame, FindsSame, IsGivenUp, IsMade, IsSound, IsWhole, change_of, seen_of, touch_writes}
use Rattle.cluster_file.proofs.Kept.{either, err_then, given_found, given_seen, keeps_written, made_found, made_has, made_seen, ok_then}
use Rattle.cluster_file.proofs.Laid.{touch_bytes}
use Rattle.cluster_file.proofs.After.{others_cleared}
use Rattle.cluster_file.proofs.Laying.{counts_known}
use Rattle.cluster_file.proofs.Ending.{touched_ends}
use Rattle.cluster_file.proofs.Proceeding.{given_no_more, given_proceeds, made_no_more, made_proceeds}
use Rattle.cluster_file.proofs.file.ClusterFile.touch.Goals as goal

pub returns-clause-kept : goal.returns-clause-kept
returns-clause-kept g c =
    let D = g.C.Cluster in
    let old = c.args.self.now in
    let new = c.change.new.self in
    let head = c.next_head-head.result in
    let change : ChangeFact = change_of old head (touch_writes head) in
    let counts : CountsSame old.standing.head head = (c.next_head-head.ensures.end, c.next_head-head.ensures.room, c.next_head-head.ensures.generation) in
    let kept = keeps_written old new c.change.ensures.same in
    kept

pub returns-clause-found : goal.returns-clause-found
returns-clause-found g c =
    let D = g.C.Cluster in
    let old = c.args.self.now in
    let new = c.change.new.self in
    let head = c.next_head-head.result in
    let change : ChangeFact = change_of old head (touch_writes head) in
    let counts : CountsSame old.standing.head head = (c.next_head-head.ensures.end, c.next_head-head.ensures.room, c.next_head-head.ensures.generation) in
    let kept = keeps_written old new c.change.ensures.same in
    either c.change.result (IsMade D old new change) (IsGivenUp D old new change) (FindsSame D old new) c.change.ensures.made c.change.ensures.given_up
    (made_found D old new change c.requires.sound kept refl c.requires.whole.0 c.requires.whole.1 counts
    (touch_bytes (D.stand old.cluster) 0 old.standing.version head c.requires.whole.0 (counts_known D old head c.requires.sound counts) c.requires.whole.1))
    (given_found D old new change c.requires.sound kept refl c.requires.whole.0 c.requires.whole.1 counts
    (touch_bytes (D.stand old.cluster) 0 old.standing.version head c.requires.whole.0 (counts_known D old head c.requires.sound counts) c.requires.whole.1))

pub returns-clause-seen : goal.returns-clause-seen
returns-clause-seen g c =
    let D = g.C.Cluster in
    let old = c.args.self.now in
    let new = c.change.new.self in
    let head = c.next_head-head.result in
    let change : ChangeFact = change_of old head (touch_writes head) in
    let counts : CountsSame old.standing.head head = (c.next_head-head.ensures.end, c.next_head-head.ensures.room, c.next_head-head.ensures.generation) in
    let kept = keeps_written old new c.change.ensures.same in
    either c.change.result (IsMade D old new change) (IsGivenUp D old new change) (seen_of D new ≡ seen_of D old) c.change.ensures.made c.change.ensures.given_up
    (made_seen D old new change c.requires.sound kept refl c.requires.whole.0 c.requires.whole.1 counts
    (touch_bytes (D.stand old.cluster) 0 old.standing.version head c.requires.whole.0 (counts_known D old head c.requires.sound counts) c.requires.whole.1))
    (given_seen D old new change c.requires.sound kept refl c.requires.whole.0 c.requires.whole.1 counts
    (touch_bytes (D.stand old.cluster) 0 old.standing.version head c.requires.whole.0 (counts_known D old head c.requires.sound counts) c.requires.whole.1))

pub returns-clause-whole : goal.returns-clause-whole
returns-clause-whole g c =
    let D = g.C.Cluster in
    let old = c.args.self.now in
    let new = c.change.new.self in
    let head = c.next_head-head.result in
    let change : ChangeFact = change_of old head (touch_writes head) in
    let counts : CountsSame old.standing.head head = (c.next_head-head.ensures.end, c.next_head-head.ensures.room, c.next_head-head.ensures.generation) in
    let kept = keeps_written old new c.change.ensures.same in
    ok_then c.change.result (IsMade D old new change) (IsWhole D new) c.change.ensures.made
    (λ made. (
      c.requires.whole.0,
      made_has D old new change c.requires.sound kept refl c.requires.whole.0 c.requires.whole.1 counts
          (touch_bytes (D.stand old.cluster) 0 old.standing.version head c.requires.whole.0 (counts_known D old head c.requires.sound counts) c.requires.whole.1) made,
    ))

pub returns-clause-counts : goal.returns-clause-counts
returns-clause-counts g c =
    let D = g.C.Cluster in
    let old = c.args.self.now in
    let new = c.change.new.self in
    let head = c.next_head-head.result in
    let change : ChangeFact = change_of old head (touch_writes head) in
    let counts : CountsSame old.standing.head head = (c.next_head-head.ensures.end, c.next_head-head.ensures.room, c.next_head-head.ensures.generation) in
    let kept = keeps_written old new c.change.ensures.same in
    ok_then c.change.result (IsMade D old new change) (CountsSame old.standing.head new.standing.head) c.change.ensures.made
    (λ made. subst (λ (h : Head). CountsSame old.standing.head h) (sym made.head) counts)

pub returns-clause-begun : goal.returns-clause-begun
returns-clause-begun g c =
    let D = g.C.Cluster in
    let old = c.args.self.now in
    let new = c.change.new.self in
    let head = c.next_head-head.result in
    let change : ChangeFact = change_of old head (touch_writes head) in
    let counts : CountsSame old.standing.head head = (c.next_head-head.ensures.end, c.next_head-head.ensures.room, c.next_head-head.ensures.generation) in
    let kept = keeps_written old new c.change.ensures.same in
    ok_then c.change.result (IsMade D old new change) (IsTrue new.has_begun) c.change.ensures.made (λ made. made.begun)

pub returns-clause-sound : goal.returns-clause-sound
returns-clause-sound g c =
    let D = g.C.Cluster in
    let old = c.args.self.now in
    let new = c.change.new.self in
    let head = c.next_head-head.result in
    let change : ChangeFact = change_of old head (touch_writes head) in
    let counts : CountsSame old.standing.head head = (c.next_head-head.ensures.end, c.next_head-head.ensures.room, c.next_head-head.ensures.generation) in
    let kept = keeps_written old new c.change.ensures.same in
    ok_then c.change.result (IsMade D old new change) (IsSound D new) c.change.ensures.made (λ made. made.sound)

pub returns-clause-lost : goal.returns-clause-lost
returns-clause-lost g c =
    let D = g.C.Cluster in
    let old = c.args.self.now in
    let new = c.change.new.self in
    let head = c.next_head-head.result in
    let change : ChangeFact = change_of old head (touch_writes head) in
    let counts : CountsSame old.standing.head head = (c.next_head-head.ensures.end, c.next_head-head.ensures.room, c.next_head-head.ensures.generation) in
    let kept = keeps_written old new c.change.ensures.same in
    err_then c.change.result (IsGivenUp D old new change) (is_some new.lost ≡ true) c.change.ensures.given_up (λ given. given.lost)

pub returns-clause-proceeds : goal.returns-clause-proceeds
returns-clause-proceeds g c =
    let D = g.C.Cluster in
    let L = g.met.C.Cluster in
    let old = c.args.self.now in
    let new = c.change.new.self in
    let head = c.next_head-head.result in
    let change : ChangeFact = change_of old head (touch_writes head) in
    let sound = c.requires.sound in
    let counts : CountsSame old.standing.head head = (c.next_head-head.ensures.end, c.next_head-head.ensures.room, c.next_head-head.ensures.generation) in
    let kept = keeps_written old new c.change.ensures.same in
    let known = counts_known D old head sound counts in
    let has = touch_bytes (D.stand old.cluster) 0 old.standing.version head c.requires.whole.0 known c.requires.whole.1 in
    let tried = c.change.ensures.tried c.requires.working in
    let meanwhile = c.change.ensures.meanwhile c.requires.working in
    either c.change.result (IsMade D old new change) (IsGivenUp D old new change) (Proceeds D old new) c.change.ensures.made c.change.ensures.given_up
    (λ made. made_proceeds D L.counts_now L.counts_calls L.true_calls L.by_calls old new sound change refl c.requires.whole.0 c.requires.whole.1 counts has
    c.change.ensures.same kept tried meanwhile made
    (subst (λ (s : Stand). OthersStay (D.stand old.cluster) s) (sym made.stand)
    (others_cleared (D.stand old.cluster) new.standing.version change head.end 0xffffffffffffffff known.2 refl (let end = known.0 in omega (arith, end)))))
    (λ given. given_proceeds D L.counts_now L.counts_calls L.true_calls L.by_calls old new sound change refl c.requires.whole.0 c.requires.whole.1 counts has
    c.change.ensures.same kept tried meanwhile given)

pub returns-clause-left : goal.returns-clause-left
returns-clause-left g c =
    let D = g.C.Cluster in
    let L = g.met.C.Cluster in
    let old = c.args.self.now in
    let new = c.change.new.self in
    let head = c.next_head-head.result in
    let change : ChangeFact = change_of old head (touch_writes head) in
    let sound = c.requires.sound in
    let counts : CountsSame old.standing.head head = (c.next_head-head.ensures.end, c.next_head-head.ensures.room, c.next_head-head.ensures.generation) in
    let kept = keeps_written old new c.change.ensures.same in
    let known = counts_known D old head sound counts in
    let has = touch_bytes (D.stand old.cluster) 0 old.standing.version head c.requires.whole.0 known c.requires.whole.1 in
    let tried = c.change.ensures.tried c.requires.working in
    let meanwhile = c.change.ensures.meanwhile c.requires.working in
    either c.change.result (IsMade D old new change) (IsGivenUp D old new change) (LeavesNoMore D old new) c.change.ensures.made c.change.ensures.given_up
    (λ made. made_no_more D L.counts_now L.counts_calls L.true_calls L.by_calls old new sound change refl c.requires.whole.0 c.requires.whole.1 counts has
    c.change.ensures.same kept tried meanwhile made)
    (λ given. given_no_more D L.counts_now L.counts_calls L.true_calls L.by_calls old new sound change refl c.requires.whole.0 c.requires.whole.1 counts has
    c.change.ensures.same kept tried meanwhile given)

pub returns-clause-ends : goal.returns-clause-ends
returns-clause-ends g c =
    let D = g.C.Cluster in
    let old = c.args.self.now in
    let new = c.change.new.self in
    let head = c.next_head-head.result in
    let change : ChangeFact = change_of old head (touch_writes head) in
    let counts : CountsSame old.standing.head head = (c.next_head-head.ensures.end, c.next_head-head.ensures.room, c.next_head-head.ensures.generation) in
    ok_then c.change.result (IsMade D old new change) (EndsThere D new) c.change.ensures.made (touched_ends D old new head counts)
