use Rattle.std.proofs.Common.{◌≡◌, ◌∙◌, ◌+◌, inl, ℕ, length, refl, sym, ap, subst, arith, rules}
use Rattle.std.specs.Prelude.{Err}
use Rattle.std.specs.Global.{Vec}
use Rattle.cluster_file.specs.Causes.{FailsFor}
use Rattle.cluster_file.proofs.Causes.{fails_at, longer_by, only_at}
use Rattle.cluster_file.proofs.Laying.{laid_on, none_laid}
use Rattle.cluster_file.proofs.Proceeding.{proceeds_on, proceeds_same}
use Rattle.cluster_file.proofs.file.ClusterFile.lay_all.Goals as goal

pub pieces-init : goal.pieces-init
pieces-init g c = record {
  laid = none_laid g.C.Cluster c.args.self.now c.requires.working c.requires.sound;
  proceeds = proceeds_same g.C.Cluster c.args.self.now;
  left = λ left is. is;
  within = omega arith;
  end = refl;
}

pub pieces-preserved : goal.pieces-preserved
pieces-preserved g c =
    let was = c.pieces.invariant in
    record {
      laid = laid_on g.C.Cluster c.args.self.now c.pieces.self c.lay.new.self c.pieces.at (c.pieces.at + 131072) was.laid c.lay.ensures.kept c.lay.ensures.seen c.lay.ensures.found
          c.in_ok-lay.ensures.laid;
      proceeds = proceeds_on g.C.Cluster g.met.C.Cluster.counts_now c.args.self.now c.pieces.self c.lay.new.self was.proceeds was.left c.lay.ensures.proceeds;
      left = λ left is. was.left left (c.lay.ensures.left left is);
      within = omega arith;
      end = was.end;
    }

pub lay-requires-clause-working : goal.lay-requires-clause-working
lay-requires-clause-working g c = c.pieces.invariant.laid.working

pub lay-requires-clause-sound : goal.lay-requires-clause-sound
lay-requires-clause-sound g c = c.pieces.invariant.laid.sound

pub lay-requires-clause-whole : goal.lay-requires-clause-whole
lay-requires-clause-whole g c = (c.requires.whole.0, c.pieces.invariant.laid.has c.requires.whole.0 c.requires.whole.1)

pub lay-requires-clause-within : goal.lay-requires-clause-within
lay-requires-clause-within g c =
    let same = ap (λ (v : Vec ℕ). length v.items) c.pieces.invariant.laid.kept.unsynced in
    let all = c.requires.within in
    omega (arith, same, all)

pub lay-requires-clause-place : goal.lay-requires-clause-place
lay-requires-clause-place g c =
    let end = c.pieces.invariant.end in
    let same = c.pieces.invariant.laid.counts.0 in
    omega (arith, end, same)

pub returns-in_err-lay-clause-kept : goal.returns-in_err-lay-clause-kept
returns-in_err-lay-clause-kept g c =
    let laid = c.pieces.invariant.laid in
    let kept = c.lay.ensures.kept in
    record {
      unsynced = kept.unsynced ∙ laid.kept.unsynced;
      room = kept.room ∙ laid.kept.room;
      read = kept.read ∙ laid.kept.read;
      server = kept.server ∙ laid.kept.server;
      run = kept.run ∙ laid.kept.run;
    }

pub returns-in_err-lay-clause-seen : goal.returns-in_err-lay-clause-seen
returns-in_err-lay-clause-seen g c = c.lay.ensures.seen ∙ c.pieces.invariant.laid.seen

pub returns-in_err-lay-clause-found : goal.returns-in_err-lay-clause-found
returns-in_err-lay-clause-found g c = λ left is. c.pieces.invariant.laid.found left (c.lay.ensures.found left is)

pub returns-clause-kept : goal.returns-clause-kept
returns-clause-kept g c = c.pieces.invariant.laid.kept

pub returns-clause-found : goal.returns-clause-found
returns-clause-found g c = c.pieces.invariant.laid.found

pub returns-clause-whole : goal.returns-clause-whole
returns-clause-whole g c =
    let laid = c.pieces.invariant.laid in
    λ working. (laid.sound, (c.requires.whole.0, laid.has c.requires.whole.0 c.requires.whole.1))

pub returns-in_err-lay-clause-proceeds : goal.returns-in_err-lay-clause-proceeds
returns-in_err-lay-clause-proceeds g c =
    let was = c.pieces.invariant in
    proceeds_on g.C.Cluster g.met.C.Cluster.counts_now c.args.self.now c.pieces.self c.lay.new.self was.proceeds was.left c.lay.ensures.proceeds

pub returns-clause-proceeds : goal.returns-clause-proceeds
returns-clause-proceeds g c = c.pieces.invariant.proceeds

pub returns-clause-left : goal.returns-clause-left
returns-clause-left g c = c.pieces.invariant.left

pub returns-in_err-lay-clause-left : goal.returns-in_err-lay-clause-left
returns-in_err-lay-clause-left g c = λ left is. c.pieces.invariant.left left (c.lay.ensures.left left is)

pub returns-in_err-lay-clause-cause : goal.returns-in_err-lay-clause-cause
returns-in_err-lay-clause-cause g c =
    let D = g.C.Cluster in
    let old = c.args.self.now in
    let mid = c.pieces.self in
    let new = c.lay.new.self in
    let is : c.from_residual.result ≡ Err c.in_err-lay.field-0.0 = search rules in
    subst (λ r. FailsFor D ⊥ r old new) (sym is)
    (λ failure. inl (fails_at D old mid new c.in_err-lay.field-0.0 (longer_by D g.met.C.Cluster.counts_calls old mid c.pieces.invariant.proceeds)
    (only_at D mid new c.in_err-lay.field-0.0 (c.in_err-lay.ensures.cause failure))))
