-- Beside Giving: only the contracts of this crate's own parts and their proofs cite this, no public clause.
use Rattle.event_loop.specs.Names.{ChaCha, Hosting, SuppliedEdge, Journey, Reached}
use Rattle.event_loop.specs.Progress.{Progress}

-- an edge with its draws, on the journey that led to it
abbrev pub progress_of : {H : Type 0} → SuppliedEdge H ChaCha → Journey H → Progress H
progress_of supplied journey = record { edge = supplied.edge; generator = supplied.source; audience = supplied.audience; journey = journey }

-- a piece was given so that this holds
pub record GivesOn {H : Type 0} (holds : Progress H → Type 0) (new : SuppliedEdge H ChaCha) : Type 0 where
  pub journey : Journey H
  pub given : holds (progress_of new journey)

-- wherever the edge was reached, so it is given
abbrev pub LeadsToGiving : {H : Type 0} → Hosting H → (Progress H → Progress H → Type 0) → SuppliedEdge H ChaCha → SuppliedEdge H ChaCha → Type 0
LeadsToGiving hosting relation old new = (journey : Journey _) → Reached hosting old.edge journey → GivesOn (relation (progress_of old journey)) new
