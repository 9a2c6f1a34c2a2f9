-- Other connections.
use Rattle.std.proofs.Common.{◌≡◌, ◌≢◌, ◌⊎◌, inl, inr, ℕ, true, refl, ap, ◌==◌, eq-eqb}
use Rattle.event_loop.proofs.Names.{World, PieceComes, PiecePasses, Opens, StreamEnds, TakesOutput, TakesNothing, ForgetsConnection, connection_at, AnsweredPiece, added_other, found_number}
use Rattle.event_loop.proofs.Names.{put_other, without_other, Outset, Hosting}

pub is_itself : (c : ℕ) → (c == c) ≡ true
is_itself c = eq-eqb c c refl

-- what an event at one connection is to another

pub opens_other : (old new : World) (c d : ℕ) → Opens old new c → d ≢ c → connection_at new.connections d ≡ connection_at old.connections d
opens_other old new c d opens other = rw opens.connections (added_other old.connections c d other)

pub comes_other : {H : Type 0} (hosting : Hosting H) (outset : Outset H) (old new : World) (came : AnsweredPiece) (d : ℕ) →
    PieceComes hosting outset old came new ⊎ PiecePasses old came new → d ≢ came.piece.connection → connection_at new.connections d ≡ connection_at old.connections d
comes_other hosting outset old new came d (inl comes) other =
    rw comes.connections (put_other old.connections came.piece.connection d _ (found_number old.connections came.piece.connection comes.before comes.here) other)
comes_other hosting outset old new came d (inr passes) other = ap (λ (w : World). connection_at w.connections d) passes.same

pub ends_other : (old new : World) (c d : ℕ) → StreamEnds old new c → d ≢ c → connection_at new.connections d ≡ connection_at old.connections d
ends_other old new c d ends other = rw ends.connections (put_other old.connections c d _ (found_number old.connections c ends.before ends.here) other)

pub takes_other : (old new : World) (c d n : ℕ) → TakesOutput old new c n ⊎ TakesNothing old new c n → d ≢ c → connection_at new.connections d ≡ connection_at old.connections d
takes_other old new c d n (inl takes) other = rw takes.connections (put_other old.connections c d _ (found_number old.connections c takes.before takes.here) other)
takes_other old new c d n (inr absent) other = ap (λ (w : World). connection_at w.connections d) absent.same

pub forgets_other : (old new : World) (c d : ℕ) → ForgetsConnection old new c → d ≢ c → connection_at new.connections d ≡ connection_at old.connections d
forgets_other old new c d forgets other = rw forgets.connections (without_other old.connections c d other)
