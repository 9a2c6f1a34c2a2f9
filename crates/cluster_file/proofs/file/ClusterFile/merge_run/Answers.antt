use Rattle.std.proofs.Common.{◌≡◌, ◌∙◌, length, ap, arith, rules}
use Rattle.etcd_cluster.specs.Stands.{Stand}
use Rattle.cluster_file.specs.Files.{CountsSame}
use Rattle.cluster_file.specs.Runs.{IsMerged}
use Rattle.cluster_file.specs.declared.file.ClusterFile.{ClusterFile}
use Rattle.cluster_file.proofs.Causes.{fails_then}
use Rattle.cluster_file.proofs.Kept.{ok_then}
use Rattle.cluster_file.proofs.Merged.{is_merged, merge_goes, merge_next, merge_seen, mid_well, mid_working}
use Rattle.cluster_file.proofs.file.ClusterFile.merge_run.Goals as goal

pub forget-requires : goal.forget-requires
forget-requires g c = c.requires.well.read

pub change-requires-clause-sound : goal.change-requires-clause-sound
change-requires-clause-sound g c =
    let D = g.C.Cluster in
    let L = g.met.C.Cluster in
    (mid_well D L.counts_now L.counts_calls L.true_calls L.by_calls c.args.self.now c.forget.new.self c.forget.new.self c.take-bytes.new.self c.take-bytes.result
    c.requires.well c.requires.working c.requires.some c.forget.ensures.same c.forget.ensures.read c.forget.ensures.few c.take-bytes.ensures.none c.take-bytes.ensures.bytes).sound

pub returns-clause-goes_on : goal.returns-clause-goes_on
returns-clause-goes_on g c =
    let D = g.C.Cluster in
    let L = g.met.C.Cluster in
    let laid : c.deref.result.now ≡ c.take-bytes.result.items = search rules in
    let working = mid_working D L.counts_now L.counts_calls L.true_calls L.by_calls c.args.self.now c.forget.new.self c.change.new.self c.take-bytes.new.self
    c.take-bytes.result c.requires.well c.requires.working c.requires.some c.forget.ensures.same c.forget.ensures.read c.forget.ensures.few c.take-bytes.ensures.none
    c.take-bytes.ensures.bytes in
    merge_goes D L.counts_now L.counts_calls L.true_calls L.by_calls c.args.self.now c.forget.new.self c.change.new.self c.take-bytes.new.self c.take-bytes.result
    c.requires.well c.requires.working c.requires.some c.forget.ensures.same c.forget.ensures.read c.forget.ensures.few c.take-bytes.ensures.none c.take-bytes.ensures.bytes
    c.next_head-head.result (c.next_head-head.ensures.end, c.next_head-head.ensures.room, c.next_head-head.ensures.generation) c.change.ensures.same c.deref.result.now laid
    (c.change.ensures.tried working) (c.change.ensures.meanwhile working) c.change.result c.change.ensures.made c.change.ensures.kept c.change.ensures.given_up

pub returns-clause-seen : goal.returns-clause-seen
returns-clause-seen g c =
    let D = g.C.Cluster in
    let L = g.met.C.Cluster in
    let laid : c.deref.result.now ≡ c.take-bytes.result.items = search rules in
    let working = mid_working D L.counts_now L.counts_calls L.true_calls L.by_calls c.args.self.now c.forget.new.self c.change.new.self c.take-bytes.new.self
    c.take-bytes.result c.requires.well c.requires.working c.requires.some c.forget.ensures.same c.forget.ensures.read c.forget.ensures.few c.take-bytes.ensures.none
    c.take-bytes.ensures.bytes in
    merge_seen D L.counts_now L.counts_calls L.true_calls L.by_calls c.args.self.now c.forget.new.self c.change.new.self c.take-bytes.new.self c.take-bytes.result
    c.requires.well c.requires.working c.requires.some c.forget.ensures.same c.forget.ensures.read c.forget.ensures.few c.take-bytes.ensures.none c.take-bytes.ensures.bytes
    c.next_head-head.result (c.next_head-head.ensures.end, c.next_head-head.ensures.room, c.next_head-head.ensures.generation) c.change.ensures.same c.deref.result.now laid
    (c.change.ensures.tried working) (c.change.ensures.meanwhile working) c.change.result c.change.ensures.made c.change.ensures.kept c.change.ensures.given_up

pub returns-clause-next : goal.returns-clause-next
returns-clause-next g c =
    let D = g.C.Cluster in
    let L = g.met.C.Cluster in
    let laid : c.deref.result.now ≡ c.take-bytes.result.items = search rules in
    let working = mid_working D L.counts_now L.counts_calls L.true_calls L.by_calls c.args.self.now c.forget.new.self c.change.new.self c.take-bytes.new.self
    c.take-bytes.result c.requires.well c.requires.working c.requires.some c.forget.ensures.same c.forget.ensures.read c.forget.ensures.few c.take-bytes.ensures.none
    c.take-bytes.ensures.bytes in
    merge_next D L.counts_now L.counts_calls L.true_calls L.by_calls c.args.self.now c.forget.new.self c.change.new.self c.take-bytes.new.self c.take-bytes.result
    c.requires.well c.requires.working c.requires.some c.forget.ensures.same c.forget.ensures.read c.forget.ensures.few c.take-bytes.ensures.none c.take-bytes.ensures.bytes
    c.next_head-head.result (c.next_head-head.ensures.end, c.next_head-head.ensures.room, c.next_head-head.ensures.generation) c.change.ensures.same c.deref.result.now laid
    (c.change.ensures.tried working) (c.change.ensures.meanwhile working) c.change.result c.change.ensures.made c.change.ensures.kept c.change.ensures.given_up

pub returns-clause-merged : goal.returns-clause-merged
returns-clause-merged g c =
    let D = g.C.Cluster in
    let old = c.args.self.now in
    let mid = c.forget.new.self in
    let head = c.next_head-head.result in
    let counts : CountsSame old.standing.head head = (
      c.next_head-head.ensures.end ∙ ap (λ (f : ClusterFile _). f.standing.head.end) c.forget.ensures.same,
      c.next_head-head.ensures.room ∙ ap (λ (f : ClusterFile _). f.standing.head.room) c.forget.ensures.same,
      c.next_head-head.ensures.generation ∙ ap (λ (f : ClusterFile _). f.standing.head.generation) c.forget.ensures.same,
    ) in
    let laid : c.deref.result.now ≡ c.take-bytes.result.items = search rules in
    let bytes = laid ∙ c.take-bytes.ensures.bytes ∙ ap (λ (f : ClusterFile _). f.run.bytes.items) c.forget.ensures.same in
    ok_then c.change.result _ (IsMerged D old c.change.new.self) c.change.ensures.made
    (λ made. is_merged D old c.change.new.self (D.stand mid.cluster) head c.deref.result.now (ap (λ (f : ClusterFile _). D.stand f.cluster) c.forget.ensures.same) counts bytes
    (λ at p. ap (λ (s : Stand). s.pieces at p) made.stand))

pub returns-clause-cause : goal.returns-clause-cause
returns-clause-cause g c =
    let D = g.C.Cluster in
    let L = g.met.C.Cluster in
    let old = c.args.self.now in
    let mid : ClusterFile _ = record c.forget.new.self { run = c.take-bytes.new.self } in
    let working = mid_working D L.counts_now L.counts_calls L.true_calls L.by_calls c.args.self.now c.forget.new.self c.change.new.self c.take-bytes.new.self
    c.take-bytes.result c.requires.well c.requires.working c.requires.some c.forget.ensures.same c.forget.ensures.read c.forget.ensures.few c.take-bytes.ensures.none
    c.take-bytes.ensures.bytes in
    let same = ap (λ (f : ClusterFile _). length (D.calls f.cluster)) c.forget.ensures.same in
    fails_then D ⊥ ⊥ old mid c.change.new.self c.change.result (omega (arith, same)) (λ never. never) (c.change.ensures.cause working)
