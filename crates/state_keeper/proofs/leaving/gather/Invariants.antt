use Rattle.std.proofs.Common.{◌≤◌, ◌-◌, length, take}
use Rattle.state_keeper.proofs.Names.{dated_facts}
use Rattle.state_keeper.specs.Passing.{AreWritten, KeepsFile}
use Rattle.state_keeper.specs.PassingParts.{LeadsTo, StaysLeft}
use Rattle.state_keeper.proofs.leaving.gather.Given as goal

abbrev pub invariant-loop-at : goal.invariant-loop-at
invariant-loop-at g l = record {
  within : l.at ≤ length l.changes;
  keeps : KeepsFile g.D.Device l.initial.file l.file;
  leads : LeadsTo (AreWritten g.D.Device l.initial.file l.initial.draft) (AreWritten g.D.Device l.file l.draft)
      (StaysLeft l.initial.batch.facts (dated_facts (take l.at l.changes)) l.batch.facts);
}

abbrev pub decreases-loop-at : goal.decreases-loop-at
decreases-loop-at g l = length l.changes - l.at
