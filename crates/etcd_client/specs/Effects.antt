-- What is made of keys by the operations of a transaction that is done, as etcd documents them: a put is of one key, a deletion of all keys
-- from the one on, up to the other. Keys are ordered by their bytes.
use Rattle.std.specs.Prelude.{◌≡◌, ◌⊎◌, ◌<◌, ◌^◌, ◌==◌, ◌&&◌, ◌||◌, ℕ, List, [], ◌∷◌, length, Bool, true, false, not, nat_lt, if◌then◌else◌, bytes_eq, Option, None, Some}
use Rattle.etcd_cluster.specs.Stands.{Clears, Forgets, Lays, PieceFact, Pieces, Stand, WriteFact}
use Rattle.etcd_json.specs.Replies.{EntryFact}
use Rattle.etcd_json.specs.Requests.{DeleteIn, GetAt, OperationFact, PastIn, PutAt, PutLeasedAt, RangeIn, TransactionFact}
use Rattle.etcd_cluster.specs.declared.change.Standing.{Standing}
use Rattle.etcd_keys.specs.Keys.{before_key, head_bytes, head_key, piece_key}
use Rattle.etcd_client.specs.Told.{pieces_in, standing_of}

-- what stands under each key
abbrev pub Held : Type 0
Held = List ℕ → Option (List ℕ)

-- by the first byte at which they differ; what begins another stands before it
abbrev pub is_below : List ℕ → List ℕ → Bool
is_below [] [] = false
is_below [] (y ∷ ys) = true
is_below (x ∷ xs) [] = false
is_below (x ∷ xs) (y ∷ ys) = nat_lt x y || (x == y && is_below xs ys)

abbrev pub with_put : List ℕ → List ℕ → Held → Held
with_put name value held = λ key. if bytes_eq key name then Some value else held key

abbrev pub without : List ℕ → List ℕ → Held → Held
without from to held = λ key. if not (is_below key from) && is_below key to then None else held key

abbrev pub effect : OperationFact → Held → Held
effect (PutAt name value) held = with_put name value held
effect (PutLeasedAt name value lease) held = with_put name value held
effect (DeleteIn from to) held = without from to held
effect (GetAt name) held = held
effect (RangeIn from to most) held = held
effect (PastIn from to most revision) held = held

-- one after the other
abbrev pub effects : List OperationFact → Held → Held
effects [] held = held
effects (operation ∷ later) held = effects later (effect operation held)

-- Under their keys stand the pieces. None is at the last of all places: each has a byte.
abbrev pub HoldsPieces : List ℕ → Held → Pieces → Type 0
HoldsPieces prefix held pieces =
    (generation at : ℕ) → generation < 2 ^ 64 → at < 0xffffffffffffffff → held (piece_key prefix generation at) ≡ pieces generation at

-- under the keys of a list stands this of it
pub record Holds (prefix : List ℕ) (cluster : ℕ) (held : Held) (stand : Stand) : Type 0 where
  pub head : held (head_key prefix) ≡ Some (head_bytes cluster stand.head)
  pub pieces : HoldsPieces prefix held stand.pieces

-- its numbers are of 64 bits
abbrev pub IsWriteOfWords : WriteFact → Type 0
IsWriteOfWords (Lays generation at bytes) = (generation < 2 ^ 64) × (at < 2 ^ 64)
IsWriteOfWords (Clears generation from to) = (generation < 2 ^ 64) × (from < 2 ^ 64) × (to < 2 ^ 64)
IsWriteOfWords (Forgets generation) = generation < 2 ^ 64

abbrev pub AreWritesOfWords : List WriteFact → Type 0
AreWritesOfWords [] = Unit {0}
AreWritesOfWords (write ∷ later) = IsWriteOfWords write × AreWritesOfWords later

-- each entry is what stands under its key
abbrev pub AreHeld : Held → List EntryFact → Type 0
AreHeld held [] = Unit {0}
AreHeld held (entry ∷ later) = (held entry.key ≡ Some entry.value) × AreHeld held later

abbrev pub ArePlaces : List PieceFact → Type 0
ArePlaces [] = Unit {0}
ArePlaces (piece ∷ later) = (piece.at < 0xffffffffffffffff) × ArePlaces later

-- It has an operation: a quorum is asked, as no range leaves it to what one member knows. A transaction
-- of compares alone is answered by one member.
abbrev pub IsOfQuorum : TransactionFact → Type 0
IsOfQuorum transaction = (0 < length transaction.success) ⊎ (0 < length transaction.failure)

-- of these entries, which stand under their keys, these pieces of a generation are read
pub record AreReadAs (prefix : List ℕ) (generation : ℕ) (held : Held) (entries : List EntryFact) (pieces : List PieceFact) : Type 0 where
  pub are : AreHeld held entries
  pub places : ArePlaces pieces
  pub told : pieces_in (before_key prefix generation) entries ≡ Some pieces

-- of these entries, which stand under their keys, this head is read, in that cluster
pub record IsReadAs (prefix : List ℕ) (cluster : ℕ) (held : Held) (entries : List EntryFact) (standing : Standing) : Type 0 where
  pub are : AreHeld held entries
  pub told : standing_of prefix cluster entries ≡ Some (Some standing)
