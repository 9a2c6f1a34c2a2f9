-- What stands of a list in a cluster, and what a change makes of it.
use Rattle.std.specs.Prelude.{ℕ, List, [], ◌∷◌, ◌&&◌, ◌==◌, nat_le, nat_lt, if◌then◌else◌, map, Option, None, Some}
use Rattle.etcd_cluster.specs.declared.change.Change.{Change}
use Rattle.etcd_cluster.specs.declared.change.Head.{Head}
use Rattle.etcd_cluster.specs.declared.change.Piece.{Piece}
use Rattle.etcd_cluster.specs.declared.change.Write.{Write}
use Rattle.etcd_cluster.specs.declared.change.Write.TheVariants.{Clear, Forget, Lay}

-- the pieces of bytes, by their generation and the place of their first byte
abbrev pub Pieces : Type 0
Pieces = ℕ → ℕ → Option (List ℕ)

-- The head and its version, and the pieces. Where there is no head, that is one that counts nothing, of version 0.
pub record Stand : Type 0 where
  pub version : ℕ
  pub head : Head
  pub pieces : Pieces

-- one that counts nothing
abbrev pub no_head : Head
no_head = record { server = 0; turn = 0; generation = 0; end = 0; room = 0 }

-- no head, and no piece that is known
abbrev pub no_stand : Stand
no_stand = record { version = 0; head = no_head; pieces = λ generation at. None }

-- a piece, without where it lies in memory
pub record PieceFact : Type 0 where
  pub at : ℕ
  pub bytes : List ℕ

abbrev pub piece_fact : Piece → PieceFact
piece_fact piece = record { at = piece.at; bytes = piece.bytes.items }

-- what is done to pieces
pub data WriteFact : Type 0 where
  Lays : (generation at : ℕ) → (bytes : List ℕ) → WriteFact
  Clears : (generation from to : ℕ) → WriteFact
  Forgets : (generation : ℕ) → WriteFact

abbrev pub write_fact : Write → WriteFact
write_fact (Lay generation at bytes) = Lays generation at bytes.now
write_fact (Clear generation from to) = Clears generation from to
write_fact (Forget generation) = Forgets generation

-- a change: the version that it names, the head that it puts, and what it does to pieces
pub record ChangeFact : Type 0 where
  pub after : ℕ
  pub head : Head
  pub writes : List WriteFact

abbrev pub change_fact : Change → ChangeFact
change_fact change = record { after = change.after; head = change.head; writes = map write_fact change.writes.now }

abbrev pub written : WriteFact → Pieces → Pieces
written (Lays generation at bytes) pieces = λ g p. if g == generation && p == at then Some bytes else pieces g p
written (Clears generation from to) pieces = λ g p. if g == generation && nat_le from p && nat_lt p to then None else pieces g p
written (Forgets generation) pieces = λ g p. if g == generation then pieces g p else None

-- one after the other
abbrev pub all_written : List WriteFact → Pieces → Pieces
all_written [] pieces = pieces
all_written (write ∷ later) pieces = all_written later (written write pieces)

-- what stands there once the change is done, at this version
abbrev pub done_at : ℕ → ChangeFact → Stand → Stand
done_at version change stand = record { version = version; head = change.head; pieces = all_written change.writes stand.pieces }
