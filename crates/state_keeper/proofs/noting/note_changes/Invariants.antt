use Rattle.std.proofs.Common.{◌++◌, List, take}
use Rattle.shortening.specs.Known.{NotesUnexpired}
use Rattle.state_keeper.proofs.Names.{Event, dated_facts}
use Rattle.state_keeper.proofs.noting.note_changes.Given as goal

abbrev pub invariant-loop-dated : goal.invariant-loop-dated
invariant-loop-dated l = (events : List Event) → NotesUnexpired l.initial.unexpired events l.moment → NotesUnexpired l.unexpired (events ++ dated_facts (take l.dated-index l.changes)) l.moment
