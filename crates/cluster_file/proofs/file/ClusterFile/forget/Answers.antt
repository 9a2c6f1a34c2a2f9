use Rattle.std.proofs.Common.{refl, ap}
use Rattle.cluster_file.specs.declared.file.ClusterFile.{ClusterFile}
use Rattle.cluster_file.proofs.Merged.{popped_one, read_forgot, read_unheld}
use Rattle.cluster_file.proofs.file.ClusterFile.forget.Goals as goal

pub starts-init : goal.starts-init
starts-init g c = record { read = read_unheld g.C.Cluster c.args.self.now c.requires; same = refl }

pub starts-preserved : goal.starts-preserved
starts-preserved g c =
    let was = c.starts.invariant in
    record {
      read = read_forgot g.C.Cluster c.starts.self c.pop.new.self c.in-Some.start (ap (λ (f : ClusterFile _). f.piece) was.same)
          (popped_one c.starts.self.starts.items c.pop.new.self.items c.pop.result c.in-Some.start c.in-Some.is c.pop.ensures.items) was.read;
      same = ap (λ (f : ClusterFile _). record f { starts = c.pop.new.self; known = c.in-Some.start }) was.same;
    }
