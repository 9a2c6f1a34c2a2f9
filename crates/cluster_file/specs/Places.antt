-- Where the pieces of a file stand, as far as they are known, and what is read of them.
use Rattle.std.specs.Prelude.{◌≡◌, ◌⊎◌, ◌<◌, ◌≤◌, ◌+◌, ◌-◌, ◌++◌, ℕ, Bool, true, false, List, [], ◌∷◌, drop, length, replicate, take, Option, None, Some}
use Rattle.std.specs.Global.{Vec}
use Rattle.etcd_cluster.specs.Calls.{AreTrue}
use Rattle.etcd_cluster.specs.Knowing.{HasRead, Knows}
use Rattle.etcd_cluster.specs.Sides.{IsLeading, IsNew}
use Rattle.etcd_cluster.specs.Stands.{Stand}
use Rattle.etcd_cluster.specs.Worlds.{World}
use Rattle.etcd_cluster.specs.declared.change.Piece.{Piece}
use Rattle.etcd_cluster.specs.declared.cluster.Cluster.{Ghosts as Cluster}
use Rattle.cluster_file.specs.Files.{seen_of}
use Rattle.cluster_file.specs.declared.file.ClusterFile.{ClusterFile}

-- Pieces stand side by side from the one place up to the other: one begins at each of these.
pub data SideBySide (pieces : ℕ → Option (List ℕ)) : ℕ → List ℕ → ℕ → Type 0 where
  ends : (at : ℕ) → SideBySide pieces at [] at
  goes_on : (at to : ℕ) (piece later : List ℕ) → pieces at ≡ Some piece → 0 < length piece → SideBySide pieces (at + length piece) later to
      → SideBySide pieces at (at ∷ later) to

abbrev pub IsOneOf : ℕ → List ℕ → Type 0
IsOneOf place [] = ⊥
IsOneOf place (first ∷ later) = (place ≡ first) ⊎ IsOneOf place later

-- the pieces that count
abbrev pub counted : {C : Type 0} → Cluster C → ClusterFile C → ℕ → Option (List ℕ)
counted cluster file = (cluster.stand file.cluster).pieces (cluster.stand file.cluster).head.generation

-- those of the next file
abbrev pub besides : {C : Type 0} → Cluster C → ClusterFile C → ℕ → Option (List ℕ)
besides cluster file = (cluster.stand file.cluster).pieces ((cluster.stand file.cluster).head.generation + 1)

-- WHAT IS READ, where what was told of pieces is true

-- the piece at hand is one of those that are known
abbrev pub IsHeld : {C : Type 0} → Cluster C → ClusterFile C → Option Piece → Type 0
IsHeld cluster file None = Unit {0}
IsHeld cluster file (Some piece) = (counted cluster file piece.at ≡ Some piece.bytes.items) × IsOneOf piece.at file.starts.items

-- THE FIRST SO MANY BYTES OF A FILE are in pieces that are known.
pub record IsReadTo {C : Type 0} (cluster : Cluster C) (file : ClusterFile C) : Type 0 where
  pub pieces : SideBySide (counted cluster file) 0 file.starts.items file.known
  pub within : file.known ≤ (cluster.stand file.cluster).head.end
  pub held : IsHeld cluster file file.piece

abbrev pub IsRead : {C : Type 0} → Cluster C → ClusterFile C → Type 0
IsRead cluster file = AreTrue (cluster.calls file.cluster) → IsReadTo cluster file

-- so many of its bytes are known; or all are that stand in pieces
abbrev pub Reaches : {C : Type 0} → ClusterFile C → ℕ → Type 0
Reaches file n = (n ≤ file.known) ⊎ (file.standing.head.end ≤ file.known)

-- a piece that was told is the one that begins there
pub record IsTold {C : Type 0} (cluster : Cluster C) (file : ClusterFile C) (place : ℕ) (piece : Piece) : Type 0 where
  pub at : piece.at ≡ place
  pub some : 0 < length piece.bytes.items
  pub is : AreTrue (cluster.calls file.cluster) → counted cluster file place ≡ Some piece.bytes.items

-- no piece that was known is another one now, and what is true now was before
pub record KeepsPieces {C : Type 0} (cluster : Cluster C) (old new : ClusterFile C) : Type 0 where
  pub truth : AreTrue (cluster.calls new.cluster) → AreTrue (cluster.calls old.cluster)
  pub head : (cluster.stand new.cluster).head ≡ (cluster.stand old.cluster).head
  pub pieces : (p : ℕ) (piece : List ℕ) → counted cluster old p ≡ Some piece → counted cluster new p ≡ Some piece
  pub beside : (p : ℕ) (piece : List ℕ) → besides cluster old p ≡ Some piece → besides cluster new p ≡ Some piece

-- No piece that counts, and none of the next file, is another one.
pub record OthersStay (old new : Stand) : Type 0 where
  pub generation : new.head.generation ≡ old.head.generation
  pub counted : (p : ℕ) (piece : List ℕ) → p < old.head.end → old.pieces old.head.generation p ≡ Some piece → new.pieces new.head.generation p ≡ Some piece
  pub beside : (p : ℕ) (piece : List ℕ) → old.pieces (old.head.generation + 1) p ≡ Some piece → new.pieces (new.head.generation + 1) p ≡ Some piece

-- what was seen of a file up to where it was known is as it was
pub record KeepsFront {C : Type 0} (cluster : Cluster C) (old new : ClusterFile C) : Type 0 where
  pub truth : AreTrue (cluster.calls new.cluster) → AreTrue (cluster.calls old.cluster)
  pub front : AreTrue (cluster.calls new.cluster) → (n : ℕ) → Reaches old n → take n (seen_of cluster new) ≡ take n (seen_of cluster old)

-- a server may look for pieces of this version: one that has begun, or one that has not
abbrev pub MayLook : {C : Type 0} → Cluster C → C → ℕ → Bool → Type 0
MayLook cluster c version true = IsLeading cluster c version × Knows cluster c × ((cluster.stand c).version ≡ version)
MayLook cluster c version false = IsNew cluster c version × HasRead cluster c × ((cluster.stand c).version ≡ version)

-- the piece at hand has the byte at that place
abbrev pub HasByte : ℕ → Option Piece → Type 0
HasByte at None = ⊥
HasByte at (Some piece) = (piece.at ≤ at) × (at < piece.at + length piece.bytes.items)

-- in each world that may be, in which no other has begun, no piece of the file stands behind its end
abbrev pub EndsThere : {C : Type 0} → Cluster C → ClusterFile C → Type 0
EndsThere cluster file =
    (w : World) → cluster.may_be file.cluster w → w.begun ≡ None → (p : ℕ) → file.standing.head.end ≤ p → p < 0xffffffffffffffff
    → w.stand.pieces file.standing.head.generation p ≡ None

-- these bytes are what it has from there on
abbrev pub IsPartOf : Option Piece → ℕ → Vec ℕ → Type 0
IsPartOf None at bytes = ⊥
IsPartOf (Some piece) at bytes = (bytes.items ≡ take (length bytes.items) (drop (at - piece.at) piece.bytes.items)) × ((at - piece.at) + length bytes.items ≤ length piece.bytes.items)

-- what stands in no piece
abbrev pub unpieced : {C : Type 0} → ClusterFile C → List ℕ
unpieced file = file.unsynced.items ++ replicate file.room 0

-- all that stands in pieces is known, and nothing stands from that place on
abbrev pub IsOver : {C : Type 0} → ClusterFile C → ℕ → Type 0
IsOver file at = (file.standing.head.end ≤ file.known) × (file.standing.head.end + length (unpieced file) ≤ at)

-- these bytes are what is seen of it from there on, where what was told of pieces is true
abbrev pub IsSeenAt : {C : Type 0} → Cluster C → ClusterFile C → ℕ → Vec ℕ → Type 0
IsSeenAt cluster file at bytes =
    AreTrue (cluster.calls file.cluster) → bytes.items ≡ take (length bytes.items) (drop at (seen_of cluster file))

-- these bytes are so many of what was seen, from there on, where what was told of pieces is true
abbrev pub TellsPart : {C : Type 0} → Cluster C → C → (seen : List ℕ) → (at size : ℕ) → Vec ℕ → Type 0
TellsPart cluster c seen at size bytes = AreTrue (cluster.calls c) → bytes.items ≡ take size (drop at seen)

-- so many bytes from there on are known, where that is true
abbrev pub ReachesBehind : {C : Type 0} → Cluster C → ClusterFile C → ℕ → Vec ℕ → Type 0
ReachesBehind cluster file at bytes = AreTrue (cluster.calls file.cluster) → Reaches file (at + length bytes.items)

-- what stands in no piece, from there on
abbrev pub unpieced_from : {C : Type 0} → ClusterFile C → ℕ → List ℕ
unpieced_from file at = drop (at - file.standing.head.end) (unpieced file)
