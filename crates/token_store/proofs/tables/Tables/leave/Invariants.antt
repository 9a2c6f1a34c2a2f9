use Rattle.std.proofs.Common.{◌-◌, ◌≤◌}
use Rattle.token_store.proofs.Names.{IsTied, held_of}
use Rattle.token_store.proofs.Leaving.{HasWithdrawn}
use Rattle.token_store.proofs.tables.Tables.leave.Given as goal

abbrev pub invariant-loop-done : goal.invariant-loop-done
invariant-loop-done l = record {
  inside : l.done ≤ l.clients;
  tied : IsTied l.self;
  has : HasWithdrawn (held_of l.fn.self) (held_of l.self) l.moment l.owner l.done;
}

abbrev pub decreases-loop-done : goal.decreases-loop-done
decreases-loop-done l = l.clients - l.done
