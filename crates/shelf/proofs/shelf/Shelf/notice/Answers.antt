use Rattle.shelf.proofs.shelf.Shelf.notice.Goals as goal

pub turn-requires-clause-settled : goal.turn-requires-clause-settled
turn-requires-clause-settled g c = record { stands = c.skip.ensures.shelved; none = rw c.skip.ensures.wheel c.loop-self.invariant.settled.none }

pub returns-clause-shelved : goal.returns-clause-shelved
returns-clause-shelved g c = c.loop-self.invariant.settled.stands
