-- The end of a stream that no message was made of yet: only the contracts of this crate's own parts and their proofs cite this,
-- no public clause.
use Rattle.std.specs.Prelude.{ℕ, List, [], ◌++◌, Bool, length}
use Rattle.heads.specs.Waiting.{still_waits}
use Rattle.heads.specs.declared.waits.Waits.{Waits}
use Rattle.heads.specs.declared.waits.Waits.TheVariants.{ForBytes}

-- its bytes, and what they wait for before they are read again
pub record SeenRest : Type 0 where
  pub bytes : List ℕ
  pub waits : Waits

abbrev pub seen_rest : List ℕ → Waits → SeenRest
seen_rest bytes waits = record { bytes = bytes; waits = waits }

-- one without bytes, which waits for none
abbrev pub no_rest : SeenRest
no_rest = seen_rest [] (ForBytes 0)

-- whether the rest still waits once the piece has come
abbrev pub still_waits_with : SeenRest → List ℕ → Bool
still_waits_with rest piece = still_waits rest.waits (length rest.bytes) piece

-- the piece has come behind the rest, unread
abbrev pub with_piece : SeenRest → List ℕ → SeenRest
with_piece rest piece = seen_rest (rest.bytes ++ piece) rest.waits
