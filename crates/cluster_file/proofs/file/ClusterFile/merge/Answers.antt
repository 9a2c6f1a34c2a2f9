use Rattle.std.proofs.Common.{refl}
use Rattle.cluster_file.specs.Runs.{IsMerged, MergesMany}
use Rattle.cluster_file.specs.declared.file.ClusterFile.{ClusterFile}
use Rattle.cluster_file.proofs.Going.{goes_same, keeps_same, loses_any}
use Rattle.cluster_file.proofs.Kept.{ok_then}
use Rattle.cluster_file.proofs.Merged.{forgot_goes, forgot_next, forgot_seen, read_run}
use Rattle.cluster_file.proofs.file.ClusterFile.merge.Goals as goal

pub returns-then-not-is_full-clause-seen : goal.returns-then-not-is_full-clause-seen
returns-then-not-is_full-clause-seen g c = keeps_same g.C.Cluster c.args.self.now

pub returns-then-not-is_full-clause-goes_on : goal.returns-then-not-is_full-clause-goes_on
returns-then-not-is_full-clause-goes_on g c = goes_same g.C.Cluster c.args.self.now c.requires.well

pub merge_run-requires-clause-well : goal.merge_run-requires-clause-well
merge_run-requires-clause-well g c = c.requires.well

pub returns-then-is_many-clause-seen : goal.returns-then-is_many-clause-seen
returns-then-is_many-clause-seen g c = c.merge_run.ensures.seen

pub returns-then-is_many-clause-goes_on : goal.returns-then-is_many-clause-goes_on
returns-then-is_many-clause-goes_on g c = c.merge_run.ensures.goes_on

pub returns-then-is_many-clause-loses : goal.returns-then-is_many-clause-loses
returns-then-is_many-clause-loses g c = loses_any c.merge_run.new.self c.merge_run.result c.merge_run.ensures.lost

pub returns-clause-seen : goal.returns-clause-seen
returns-clause-seen g c =
    let D = g.C.Cluster in
    let old = c.args.self.now in
    let mid : ClusterFile _ = record old { run = c.end.new.self } in
    forgot_seen D old mid refl c.requires.well c.requires.working (read_run D old c.end.new.self c.requires.well.read) c.end.ensures

pub returns-clause-goes_on : goal.returns-clause-goes_on
returns-clause-goes_on g c =
    let D = g.C.Cluster in
    let old = c.args.self.now in
    let mid : ClusterFile _ = record old { run = c.end.new.self } in
    forgot_goes D old mid refl c.requires.well c.requires.working (read_run D old c.end.new.self c.requires.well.read) c.end.ensures

pub returns-clause-next : goal.returns-clause-next
returns-clause-next g c =
    let D = g.C.Cluster in
    let old = c.args.self.now in
    let mid : ClusterFile _ = record old { run = c.end.new.self } in
    forgot_next D old mid refl c.requires.well c.requires.working (read_run D old c.end.new.self c.requires.well.read) c.end.ensures

pub returns-then-is_many-clause-merged : goal.returns-then-is_many-clause-merged
returns-then-is_many-clause-merged g c =
    ok_then c.merge_run.result (IsMerged g.C.Cluster c.args.self.now c.merge_run.new.self) (MergesMany g.C.Cluster c.args.self.now c.merge_run.new.self) c.merge_run.ensures.merged
    (λ merged many some. merged)
