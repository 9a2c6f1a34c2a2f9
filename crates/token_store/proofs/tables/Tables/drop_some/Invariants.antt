use Rattle.std.proofs.Common.{◌≡◌, ◌+◌, length}
use Rattle.token_store.proofs.Names.{kept_of, stand_entries, IsTied, TellsSame}
use Rattle.shelf.specs.Standing.{stand_to_look}
use Rattle.token_store.proofs.tables.Tables.drop_some.Given as goal

abbrev pub invariant-loop-left : goal.invariant-loop-left
invariant-loop-left l = record {
  tied : IsTied l.self;
  last : l.self.last ≡ l.fn.self.last;
  same : TellsSame (kept_of l.fn.self) (kept_of l.self) l.moment;
  fewer : length (stand_entries l.self.records) + 64 ≡ length (stand_entries l.fn.self.records) + l.left;
}

abbrev pub decreases-loop-left : goal.decreases-loop-left
decreases-loop-left l = stand_to_look l.self.records l.moment
