use Rattle.std.proofs.Common.{◌∙◌, refl, ap}
use Rattle.cluster_file.specs.declared.file.ClusterFile.{ClusterFile}
use Rattle.cluster_file.proofs.Learning.{learns_none, learns_on}
use Rattle.cluster_file.proofs.file.ClusterFile.learn_to.Goals as goal

pub pieces-init : goal.pieces-init
pieces-init g c = record { learns = learns_none g.C.Cluster c.args.self.now c.requires.sound c.requires.read; end = refl }

pub pieces-preserved : goal.pieces-preserved
pieces-preserved g c = record {
  learns = learns_on g.C.Cluster g.met.C.Cluster.counts_now c.args.self.now c.pieces.self c.learn.new.self c.pieces.invariant.learns c.learn.ensures.learns;
  end = c.pieces.invariant.end;
}

pub learn-requires-clause-working : goal.learn-requires-clause-working
learn-requires-clause-working g c = ap (λ (f : ClusterFile _). f.lost) c.pieces.invariant.learns.same ∙ c.requires.working

pub learn-requires-clause-sound : goal.learn-requires-clause-sound
learn-requires-clause-sound g c = c.pieces.invariant.learns.sound

pub learn-requires-clause-read : goal.learn-requires-clause-read
learn-requires-clause-read g c = c.pieces.invariant.learns.read

pub returns-in_err-learn-clause-learns : goal.returns-in_err-learn-clause-learns
returns-in_err-learn-clause-learns g c =
    learns_on g.C.Cluster g.met.C.Cluster.counts_now c.args.self.now c.pieces.self c.learn.new.self c.pieces.invariant.learns c.learn.ensures.learns
