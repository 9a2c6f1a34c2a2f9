use Rattle.std.proofs.Common.{◌≡◌, ◌∙◌, ◌∷◌, [], true, ap}
use Rattle.std.specs.Prelude.{is_some}
use Rattle.etcd_cluster.specs.Stands.{ChangeFact, write_fact}
use Rattle.cluster_file.specs.Devices.{GoesOn, KeepsSeen}
use Rattle.cluster_file.specs.Files.{CountsSame, IsGivenUp, IsMade, change_of}
use Rattle.cluster_file.specs.Nexts.{IsWrittenBeside}
use Rattle.cluster_file.specs.Places.{EndsThere}
use Rattle.cluster_file.specs.declared.file.ClusterFile.{ClusterFile}
use Rattle.cluster_file.proofs.Besides.{given_beside, given_goes, made_beside, made_goes, made_written}
use Rattle.cluster_file.proofs.Ending.{beside_ends}
use Rattle.cluster_file.proofs.Kept.{either, err_then, ok_then}
use Rattle.cluster_file.proofs.file.ClusterFile.change_beside.Goals as goal

pub returns-clause-written : goal.returns-clause-written
returns-clause-written g c =
    let D = g.C.Cluster in
    let L = g.met.C.Cluster in
    let old = c.args.self.now in
    let new = c.change.new.self in
    let head = c.next_head-head.result in
    let write = write_fact c.args.write in
    let counts : CountsSame old.standing.head head = (c.next_head-head.ensures.end, c.next_head-head.ensures.room, c.next_head-head.ensures.generation) in
    let change : ChangeFact = change_of old head (write ∷ []) in
    let tried = c.change.ensures.tried c.requires.working in
    let meanwhile = c.change.ensures.meanwhile c.requires.working in
    ok_then c.change.result (IsMade D old new change) (IsWrittenBeside D old new write) c.change.ensures.made
    (made_written D L.counts_now L.counts_calls L.true_calls L.by_calls old new c.requires.well c.requires.working c.requires.none head write counts c.requires.beside
    c.change.ensures.same tried meanwhile)

pub returns-clause-none : goal.returns-clause-none
returns-clause-none g c =
    ap (λ (x : ClusterFile _). x.next) c.change.ensures.same ∙ c.requires.none

pub returns-clause-seen : goal.returns-clause-seen
returns-clause-seen g c =
    let D = g.C.Cluster in
    let L = g.met.C.Cluster in
    let old = c.args.self.now in
    let new = c.change.new.self in
    let head = c.next_head-head.result in
    let write = write_fact c.args.write in
    let counts : CountsSame old.standing.head head = (c.next_head-head.ensures.end, c.next_head-head.ensures.room, c.next_head-head.ensures.generation) in
    let change : ChangeFact = change_of old head (write ∷ []) in
    let tried = c.change.ensures.tried c.requires.working in
    let meanwhile = c.change.ensures.meanwhile c.requires.working in
    either c.change.result (IsMade D old new change) (IsGivenUp D old new change) (KeepsSeen D old new) c.change.ensures.made c.change.ensures.given_up
    (made_beside D L.counts_now L.counts_calls L.true_calls L.by_calls old new c.requires.well c.requires.working c.requires.none head write counts c.requires.beside
    c.change.ensures.same tried meanwhile)
    (given_beside D L.counts_now L.counts_calls L.true_calls L.by_calls old new c.requires.well c.requires.working c.requires.none head write counts c.requires.beside
    c.change.ensures.same tried meanwhile)

pub returns-clause-goes_on : goal.returns-clause-goes_on
returns-clause-goes_on g c =
    let D = g.C.Cluster in
    let L = g.met.C.Cluster in
    let old = c.args.self.now in
    let new = c.change.new.self in
    let head = c.next_head-head.result in
    let write = write_fact c.args.write in
    let counts : CountsSame old.standing.head head = (c.next_head-head.ensures.end, c.next_head-head.ensures.room, c.next_head-head.ensures.generation) in
    let change : ChangeFact = change_of old head (write ∷ []) in
    let tried = c.change.ensures.tried c.requires.working in
    let meanwhile = c.change.ensures.meanwhile c.requires.working in
    either c.change.result (IsMade D old new change) (IsGivenUp D old new change) (GoesOn D old new) c.change.ensures.made c.change.ensures.given_up
    (made_goes D L.counts_now L.counts_calls L.true_calls L.by_calls old new c.requires.well c.requires.working c.requires.none head write counts c.requires.beside
    c.change.ensures.same tried meanwhile)
    (given_goes D L.counts_now L.counts_calls L.true_calls L.by_calls old new c.requires.well c.requires.working c.requires.none head write counts c.requires.beside
    c.change.ensures.same tried meanwhile)

pub returns-clause-lost : goal.returns-clause-lost
returns-clause-lost g c =
    err_then c.change.result (IsGivenUp g.C.Cluster c.args.self.now c.change.new.self _) (is_some c.change.new.self.lost ≡ true) c.change.ensures.given_up (λ given. given.lost)

pub returns-clause-ends : goal.returns-clause-ends
returns-clause-ends g c =
    let D = g.C.Cluster in
    let old = c.args.self.now in
    let new = c.change.new.self in
    let head = c.next_head-head.result in
    let write = write_fact c.args.write in
    let counts : CountsSame old.standing.head head = (c.next_head-head.ensures.end, c.next_head-head.ensures.room, c.next_head-head.ensures.generation) in
    let change : ChangeFact = change_of old head (write ∷ []) in
    ok_then c.change.result (IsMade D old new change) (old.has_begun ≡ true → EndsThere D old → EndsThere D new) c.change.ensures.made
    (λ made begun ends. beside_ends D old new head write counts c.requires.beside made begun ends)
