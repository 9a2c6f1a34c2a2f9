use Rattle.std.proofs.Common.{◌≤◌, ◌-◌, length, take}
use Rattle.state_file.proofs.Names.{dated_facts}
use Rattle.state_file.specs.ShortParts.{AddsChanges}
use Rattle.state_file.proofs.short.add_list.Given as goal

abbrev pub decreases-loop-at : goal.decreases-loop-at
decreases-loop-at l = length l.changes - l.at

abbrev pub invariant-loop-at : goal.invariant-loop-at
invariant-loop-at l = (l.at ≤ length l.changes) × AddsChanges (dated_facts (take l.at l.changes)) l.initial.frames l.frames
