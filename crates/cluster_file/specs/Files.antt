-- A file in a cluster as a device: what it has, and what whoever begins next finds of it.
use Rattle.std.specs.Prelude.{◌≡◌, ◌⊎◌, ◌<◌, ◌≤◌, ◌+◌, ◌-◌, ◌++◌, ℕ, List, [], ◌∷◌, drop, length, map, Bool, true, false, is_some, replicate, take, Option, None, Some, option_map, Result, Ok, Err}
use Rattle.etcd_cluster.specs.Again.{IsSettled}
use Rattle.etcd_cluster.specs.Bytes.{HasBytes, Make, bytes_of, file_of, laid}
use Rattle.etcd_cluster.specs.Calls.{Called, Sent, stand_by}
use Rattle.etcd_cluster.specs.Knowing.{HasRead, Knows}
use Rattle.etcd_cluster.specs.Leading.{IsBeginning, Pends}
use Rattle.etcd_cluster.specs.Sides.{Begins, Does, IsFresh, IsLeading, IsNew, MayBegin, MayDo, MayHaveBeen}
use Rattle.etcd_cluster.specs.Stands.{ChangeFact, Clears, Lays, WriteFact, done_at, write_fact}
use Rattle.etcd_cluster.specs.Worlds.{Begun, World, version_told}
use Rattle.etcd_cluster.specs.declared.change.Head.{Head}
use Rattle.etcd_cluster.specs.declared.change.Wanted.{Wanted}
use Rattle.etcd_cluster.specs.declared.change.Write.{Write}
use Rattle.etcd_cluster.specs.declared.cluster.Cluster.{Ghosts as Cluster}
use Rattle.etcd_cluster.specs.declared.settling.SettleFault.{SettleFault}
use Rattle.cluster_file.specs.declared.beside.NextFile.{NextFile}
use Rattle.cluster_file.specs.declared.file.ClusterFile.{ClusterFile}

-- the bytes that a read returns: those that are known to stand there, what was written and is in no piece, and zeros
abbrev pub seen_of : {C : Type 0} → Cluster C → ClusterFile C → List ℕ
seen_of cluster file = bytes_of (cluster.stand file.cluster) ++ (file.unsynced.items ++ replicate file.room 0)

-- WHAT A FILE KNOWS OF WHAT STANDS THERE, as long as it is not lost

-- a server that has begun leads, and knows pieces; one that has not has read some
abbrev pub AsServer : {C : Type 0} → Cluster C → ClusterFile C → Bool → Type 0
AsServer cluster file true =
    IsLeading cluster file.cluster file.standing.version × Knows cluster file.cluster × (file.standing.head.server ≡ file.server) × (file.read < file.standing.version)
AsServer cluster file false = IsNew cluster file.cluster file.standing.version × HasRead cluster file.cluster × (file.read ≡ file.standing.version)

-- what would stand there, if the last call was a change that is not told to be done, and it came yet
abbrev pub ComesBy : List Called → List ℕ → Type 0
ComesBy (Sent change result ∷ before) left = (version_told change result ≡ None) × (left ≡ file_of (done_at 0 change (stand_by before)))
ComesBy calls left = ⊥

-- no change may come yet
abbrev pub IsSettledBy : List Called → Type 0
IsSettledBy calls = (left : List ℕ) → ComesBy calls left → ⊥

pub record IsSound {C : Type 0} (cluster : Cluster C) (file : ClusterFile C) : Type 0 where
  pub server : cluster.server file.cluster ≡ file.server
  pub version : (cluster.stand file.cluster).version ≡ file.standing.version
  pub head : (cluster.stand file.cluster).head ≡ file.standing.head
  pub settled : IsSettledBy (cluster.calls file.cluster)
  pub so : AsServer cluster file file.has_begun

-- the pieces that are known make all of its bytes
abbrev pub IsWhole : {C : Type 0} → Cluster C → ClusterFile C → Type 0
IsWhole cluster file = (bytes : List ℕ) × HasBytes (cluster.stand file.cluster) bytes

-- the change that puts this head and does these writes
abbrev pub change_of : {C : Type 0} → ClusterFile C → Head → List WriteFact → ChangeFact
change_of file head writes = record { after = file.standing.version; head = head; writes = writes }

-- these writes, and these
abbrev pub change_with : {C : Type 0} → ClusterFile C → Head → List Write → ChangeFact
change_with file head writes = change_of file head (map write_fact writes)

-- A server may make the change: one that has begun, which leads; or one that has not, and has read.
abbrev pub MayMake : {C : Type 0} → Cluster C → C → ChangeFact → Bool → Type 0
MayMake cluster c change true = IsLeading cluster c change.after × IsFresh cluster c change.head × Knows cluster c
MayMake cluster c change false = IsNew cluster c change.after × HasRead cluster c × ((cluster.stand c).version ≡ change.after)

-- It was done between the old one and the new one: by a server that had begun, or as the first one of a server.
abbrev pub IsMadeBy : {C : Type 0} → Cluster C → C → C → ℕ → ChangeFact → Bool → Type 0
IsMadeBy cluster old new version change true = Does cluster old new version change
IsMadeBy cluster old new version change false = Begins cluster old new version change

-- or it may have been
abbrev pub MayBeMadeBy : {C : Type 0} → Cluster C → C → C → ChangeFact → Bool → Type 0
MayBeMadeBy cluster old new change true = MayDo cluster old new change
MayBeMadeBy cluster old new change false = MayBegin cluster old new change

-- what comes of what might have been, while it is made
abbrev pub Makes : ℕ → ℕ → ChangeFact → Bool → World → World → Type 0
Makes server since change true old w = Pends server since change old w
Makes server since change false old w = IsBeginning server since change old w

-- so it may have been meanwhile
abbrev pub MayHaveMade : {C : Type 0} → Cluster C → C → C → ChangeFact → Bool → Type 0
MayHaveMade cluster old new change begun = MayHaveBeen cluster old new (Makes (cluster.server old) (cluster.moment old) change begun)

-- by this change of the file
abbrev pub MayHaveMadeIt : {C : Type 0} → Cluster C → ClusterFile C → ClusterFile C → ChangeFact → Type 0
MayHaveMadeIt cluster old new change = MayHaveMade cluster old.cluster new.cluster change old.has_begun

-- it stands there, and the server leads
pub record IsMade {C : Type 0} (cluster : Cluster C) (old new : ClusterFile C) (change : ChangeFact) : Type 0 where
  pub by : IsMadeBy cluster old.cluster new.cluster new.standing.version change old.has_begun
  pub stand : cluster.stand new.cluster ≡ done_at new.standing.version change (cluster.stand old.cluster)
  pub head : new.standing.head ≡ change.head
  pub later : change.after < new.standing.version
  pub begun : new.has_begun ≡ true
  pub sound : IsSound cluster new

-- It is not known whether it is done, or nothing was sent; and nothing more is written.
pub record IsGivenUp {C : Type 0} (cluster : Cluster C) (old new : ClusterFile C) (change : ChangeFact) : Type 0 where
  pub stand : cluster.stand new.cluster ≡ cluster.stand old.cluster
  pub lost : is_some new.lost ≡ true
  pub may : (new.cluster ≡ old.cluster) ⊎ MayBeMadeBy cluster old.cluster new.cluster change old.has_begun

-- so often it is sent again, at most
abbrev pub more : ℕ
more = 30

-- what the file says of a change once it is known what became of it
abbrev pub SaysSo : {C : Type 0} → Result ℕ SettleFault → ClusterFile C → Type 0
SaysSo (Ok version) file = (file.standing.version ≡ version) × (file.lost ≡ None)
SaysSo (Err fault) file = file.lost ≡ Some fault

-- It was sent until that was known, or too often; and nothing else was.
pub record IsTried {C : Type 0} (cluster : Cluster C) (old new : ClusterFile C) (change : ChangeFact) : Type 0 where
  pub told : Result ℕ SettleFault
  pub asked : IsSettled more change told (cluster.calls old.cluster) (cluster.calls new.cluster)
  pub says : SaysSo told new

-- nothing was sent
pub record NothingSent {C : Type 0} (old new : ClusterFile C) : Type 0 where
  pub cluster : new.cluster ≡ old.cluster
  pub lost : new.lost ≡ old.lost
  pub standing : new.standing ≡ old.standing
  pub begun : new.has_begun ≡ old.has_begun

-- or it is given up
abbrev pub IsNotMade : {C : Type 0} → Cluster C → ClusterFile C → ClusterFile C → ChangeFact → Type 0
IsNotMade cluster old new change = NothingSent old new ⊎ IsGivenUp cluster old new change

-- it was tried, or nothing was sent
abbrev pub IsSent : {C : Type 0} → Cluster C → ClusterFile C → ClusterFile C → ChangeFact → Type 0
IsSent cluster old new change =
    ((new ≡ old) ⊎ (IsTried cluster old new change × MayHaveMade cluster old.cluster new.cluster change old.has_begun))

-- the head counts the same bytes
abbrev pub CountsSame : Head → Head → Type 0
CountsSame old new = (new.end ≡ old.end) × (new.room ≡ old.room) × (new.generation ≡ old.generation)

-- the file is as it was but for what a change changes
abbrev pub IsSameBut : {C : Type 0} → ClusterFile C → ClusterFile C → Type 0
IsSameBut old new =
    new ≡ record old { cluster = new.cluster; standing = new.standing; has_begun = new.has_begun; lost = new.lost }

-- nothing was written that is in no piece
pub record IsSynced {C : Type 0} (file : ClusterFile C) : Type 0 where
  pub none : file.unsynced.items ≡ []
  pub room : file.room ≡ file.standing.head.room

-- pieces of the version and generation that the file has
abbrev pub wanted_of : {C : Type 0} → ClusterFile C → ℕ → ℕ → Wanted
wanted_of file from most =
    record { version = file.standing.version; generation = file.standing.head.generation; from = from; most = most }

-- a piece of what was written, and where it is to stand
abbrev pub piece_of : {C : Type 0} → ClusterFile C → ℕ → ℕ → List ℕ
piece_of file from to = take (to - from) (drop from file.unsynced.items)

-- the last piece of what was written: none, where it is empty
abbrev pub last_writes : Head → ℕ → List ℕ → List WriteFact
last_writes head place [] = []
last_writes head place (byte ∷ piece) = Lays head.generation place (byte ∷ piece) ∷ []

-- the change that puts it
abbrev pub last_change : {C : Type 0} → ClusterFile C → Head → (place from to : ℕ) → ChangeFact
last_change file head place from to = change_of file head (last_writes head place (piece_of file from to))

-- at its first change a server takes away what stands behind the end
abbrev pub touch_writes : Head → List WriteFact
touch_writes head = Clears head.generation head.end 0xffffffffffffffff ∷ []

-- WHAT WHOEVER BEGINS NEXT FINDS: in a world in which no other has begun since this server put the head; or in which what it has read
-- stands there still
abbrev pub IsOwn : {C : Type 0} → ClusterFile C → World → Type 0
IsOwn file w = (w.begun ≡ None) ⊎ (w.stand.version ≡ file.read)

abbrev pub MayBeFound : {C : Type 0} → Cluster C → ClusterFile C → List ℕ → Type 0
MayBeFound cluster file left = (w : World) × cluster.may_be file.cluster w × IsOwn file w × (left ≡ file_of w.stand)

-- and before a sync perhaps what was written
abbrev pub may_leave_of : {C : Type 0} → Cluster C → ClusterFile C → List ℕ → Type 0
may_leave_of cluster file left = (left ≡ seen_of cluster file) ⊎ MayBeFound cluster file left

-- Another server began at a moment from that one on, and found it; or might have.
abbrev pub IsFoundIn : {C : Type 0} → ClusterFile C → ℕ → List ℕ → World → Type 0
IsFoundIn file t left w =
    (IsOwn file w × (left ≡ file_of w.stand)) ⊎ ((begun : Begun) × (w.begun ≡ Some begun) × (t ≤ begun.moment) × (left ≡ file_of begun.found))

abbrev pub HasFound : {C : Type 0} → Cluster C → ClusterFile C → ℕ → List ℕ → Type 0
HasFound cluster file t left = (w : World) × cluster.been_since file.cluster t w × IsFoundIn file t left w

abbrev pub left_since_of : {C : Type 0} → Cluster C → ClusterFile C → ℕ → List ℕ → Type 0
left_since_of cluster file t left = may_leave_of cluster file left ⊎ HasFound cluster file t left

-- what was written, and what was read before the server began, are as they were
pub record KeepsWritten {C : Type 0} (old new : ClusterFile C) : Type 0 where
  pub unsynced : new.unsynced ≡ old.unsynced
  pub room : new.room ≡ old.room
  pub read : new.read ≡ old.read
  pub server : new.server ≡ old.server
  pub run : new.run ≡ old.run

-- whoever begins next finds nothing that it would not have found before
abbrev pub FindsSame : {C : Type 0} → Cluster C → ClusterFile C → ClusterFile C → Type 0
FindsSame cluster old new = (left : List ℕ) → MayBeFound cluster new left → MayBeFound cluster old left

-- So many bytes of what was written stand in pieces behind the end, and the file is what it was.
pub record IsLaid {C : Type 0} (cluster : Cluster C) (old new : ClusterFile C) (at : ℕ) : Type 0 where
  pub kept : KeepsWritten old new
  pub working : new.lost ≡ None
  pub sound : IsSound cluster new
  pub counts : CountsSame old.standing.head new.standing.head
  pub has : (bytes : List ℕ) → HasBytes (cluster.stand old.cluster) bytes → HasBytes (cluster.stand new.cluster) bytes
  pub made : (bytes : List ℕ) → HasBytes (cluster.stand old.cluster) bytes
      → Make ((cluster.stand new.cluster).pieces (cluster.stand new.cluster).head.generation) 0 (bytes ++ take at old.unsynced.items)
  pub seen : seen_of cluster new ≡ seen_of cluster old
  pub found : FindsSame cluster old new

-- the pieces make the file's bytes, and so many of those that were written
pub record IsLaidTo {C : Type 0} (cluster : Cluster C) (file : ClusterFile C) (at : ℕ) : Type 0 where
  pub bytes : List ℕ
  pub has : HasBytes (cluster.stand file.cluster) bytes
  pub made : Make ((cluster.stand file.cluster).pieces (cluster.stand file.cluster).head.generation) 0 (bytes ++ take at file.unsynced.items)

-- one piece more of it does
pub record LaysMore {C : Type 0} (cluster : Cluster C) (old new : ClusterFile C) (from to : ℕ) : Type 0 where
  pub working : new.lost ≡ None
  pub sound : IsSound cluster new
  pub counts : CountsSame old.standing.head new.standing.head
  pub has : (bytes : List ℕ) → HasBytes (cluster.stand old.cluster) bytes → HasBytes (cluster.stand new.cluster) bytes
  pub made : (bytes : List ℕ) → HasBytes (cluster.stand old.cluster) bytes
      → Make ((cluster.stand old.cluster).pieces (cluster.stand old.cluster).head.generation) 0 (bytes ++ take from old.unsynced.items)
      → Make ((cluster.stand new.cluster).pieces (cluster.stand new.cluster).head.generation) 0 (bytes ++ take to old.unsynced.items)

-- by that moment no other had begun: in each world that may be, another one has begun at that moment or later, if one has
abbrev pub IsSoleBy : {C : Type 0} → Cluster C → C → ℕ → Type 0
IsSoleBy cluster c t = (w : World) → cluster.may_be c w → (begun : Begun) → w.begun ≡ Some begun → t ≤ begun.moment

-- what stands in its pieces
abbrev pub laid_beside : {C : Type 0} → Cluster C → C → NextFile → List ℕ
laid_beside cluster c next = take next.laid (laid next.laid ((cluster.stand c).pieces ((cluster.stand c).head.generation + 1)) 0)

-- all that was written to it
abbrev pub written_beside : {C : Type 0} → Cluster C → C → NextFile → List ℕ
written_beside cluster c next = laid_beside cluster c next ++ next.rest.items

-- the next file, where one was begun
abbrev pub next_of : {C : Type 0} → Cluster C → ClusterFile C → Option (List ℕ)
next_of cluster file = option_map (λ next. written_beside cluster file.cluster next) file.next

-- with so many bytes more
abbrev pub next_with : {C : Type 0} → Cluster C → ClusterFile C → List ℕ → Option (List ℕ)
next_with cluster file bytes = option_map (λ written. written ++ bytes) (next_of cluster file)

-- all that was written to it stands in pieces, but for zeros at its end
abbrev pub LeavesZeros : NextFile → Type 0
LeavesZeros next = next.rest.items ≡ replicate (length next.rest.items) 0
