-- Beside Faults: only the contracts of this crate's own parts and their proofs cite this, no public clause.
use Rattle.std.specs.Prelude.{Result, Ok, Err}

-- the value of another type, or the same fault
abbrev pub seen_by : {A B E : Type 0} → (A → B) → Result A E → Result B E
seen_by view (Ok x) = Ok (view x)
seen_by view (Err e) = Err e
