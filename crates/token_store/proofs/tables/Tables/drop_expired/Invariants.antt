use Rattle.std.proofs.Common.{◌≡◌, length, true}
use Rattle.token_store.proofs.Names.{kept_of, stand_entries, IsTied, SeenSame, TellsSame}
use Rattle.shelf.specs.Standing.{stand_to_look}
use Rattle.token_store.proofs.tables.Tables.drop_expired.Given as goal

abbrev pub invariant-loop : goal.invariant-loop
invariant-loop l = record {
  tied : IsTied l.self;
  last : l.self.last ≡ l.fn.self.last;
  coming : l.self.coming ≡ l.fn.self.coming;
  same : TellsSame (kept_of l.fn.self) (kept_of l.self) l.moment;
  stay : l.keeps ≡ true → SeenSame l.fn.self.families.entries l.self.families.entries;
}

abbrev pub decreases-loop : goal.decreases-loop
decreases-loop l = stand_to_look l.self.records l.moment
