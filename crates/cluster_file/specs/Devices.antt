-- A file in a cluster as a device: a crash is the beginning of another server.
use Rattle.std.specs.Prelude.{◌≡◌, ◌⊎◌, ◌≤◌, ◌+◌, ℕ, List, [], ◌∷◌, Option, None, Some, is_some, length, true, Result, IfErr}
use Rattle.batch_file.specs.Crashes.{ComesOfStep, Elapses, IsFailure, IsWrittenAt}
use Rattle.batch_file.specs.declared.device.DeviceFault.{DeviceFault}
use Rattle.batch_file.specs.declared.device.DeviceFault.TheVariants.{Failed}
use Rattle.system_faults.specs.declared.SystemFault.TheVariants as system
use Rattle.etcd_cluster.specs.declared.settling.SettleFault.{SettleFault}
use Rattle.etcd_cluster.specs.declared.settling.SettleFault.TheVariants as settle
use Rattle.etcd_cluster.specs.Bytes.{Make, file_of}
use Rattle.etcd_cluster.specs.Calls.{AreTrue, Called, Compacted, Kept, stand_by}
use Rattle.etcd_cluster.specs.declared.cluster.Cluster.{Ghosts as Cluster}
use Rattle.cluster_file.specs.Files.{ComesBy, HasFound, IsSoleBy, IsSound, IsSynced, IsWhole, MayBeFound, seen_of}
use Rattle.cluster_file.specs.Places.{IsRead, OthersStay, SideBySide}
use Rattle.cluster_file.specs.Runs.{IsRunOf}
use Rattle.cluster_file.specs.declared.beside.NextFile.{NextFile}
use Rattle.cluster_file.specs.declared.file.ClusterFile.{ClusterFile}

-- what was written to the next file stands in pieces of the generation behind this one, but for its rest
pub record IsBegun {C : Type 0} (cluster : Cluster C) (c : C) (next : NextFile) : Type 0 where
  pub bytes : List ℕ
  pub made : Make ((cluster.stand c).pieces ((cluster.stand c).head.generation + 1)) 0 bytes
  pub size : length bytes ≡ next.laid
  pub starts : SideBySide ((cluster.stand c).pieces ((cluster.stand c).head.generation + 1)) 0 next.starts.items next.laid

abbrev pub IsBeside : {C : Type 0} → Cluster C → ClusterFile C → Option NextFile → Type 0
IsBeside cluster file None = Unit {0}
IsBeside cluster file (Some next) = IsBegun cluster file.cluster next

-- As long as it is not lost all that was written stands in pieces, which are known as far as they were read.
pub record IsWell {C : Type 0} (cluster : Cluster C) (file : ClusterFile C) : Type 0 where
  pub sound : file.lost ≡ None → IsSound cluster file
  pub whole : file.lost ≡ None → IsWhole cluster file
  pub synced : file.lost ≡ None → IsSynced file
  pub beside : file.lost ≡ None → IsBeside cluster file file.next
  pub run : file.lost ≡ None → IsRunOf (cluster.stand file.cluster) file.run
  pub read : IsRead cluster file

-- what stands there, or would if the last change came yet; where what was told of pieces is true
abbrev pub StandsThere : List Called → List ℕ → Type 0
StandsThere calls left = ((left ≡ file_of (stand_by calls)) ⊎ ComesBy calls left) × AreTrue calls

-- WHAT A CRASH LEAVES: what stands there, or may come yet, or may be found
abbrev pub leaves : {C : Type 0} → Cluster C → ClusterFile C → List ℕ → Type 0
leaves cluster file left = StandsThere (cluster.calls file.cluster) left ⊎ MayBeFound cluster file left

-- what stood there or might come, by what the calls told, at some moment from that one on
abbrev pub HasStood : List Called → ℕ → List ℕ → Type 0
HasStood [] t left = StandsThere [] left
HasStood (call ∷ before) t left = StandsThere (call ∷ before) left ⊎ ((t ≤ length before) × HasStood before t left)

-- WHAT A CRASH MIGHT HAVE LEFT SINCE: what stood there since, or might come, or was found, or might have been
abbrev pub has_left : {C : Type 0} → Cluster C → ClusterFile C → ℕ → List ℕ → Type 0
has_left cluster file t left = HasStood (cluster.calls file.cluster) t left ⊎ HasFound cluster file t left

-- WHAT EACH CALL KEEPS: what is true of it; and at any moment of it a crash leaves what one before would have left, or one now
pub record GoesOn {C : Type 0} (cluster : Cluster C) (old new : ClusterFile C) : Type 0 where
  pub well : IsWell cluster new
  pub truth : AreTrue (cluster.calls new.cluster) → AreTrue (cluster.calls old.cluster)
  pub time : Elapses (cluster.moment old.cluster) (cluster.moment new.cluster) (has_left cluster old) (has_left cluster new) (leaves cluster new)
  pub lost : is_some old.lost ≡ true → new ≡ old

-- what was read of a file is as it was, and so is its next one
pub record KeepsReading {C : Type 0} (old new : ClusterFile C) : Type 0 where
  pub starts : new.starts ≡ old.starts
  pub known : new.known ≡ old.known
  pub piece : new.piece ≡ old.piece
  pub next : new.next ≡ old.next
  pub read : new.read ≡ old.read

-- WHAT A PART OF A CALL KEEPS of a file that is not lost before it
pub record Proceeds {C : Type 0} (cluster : Cluster C) (old new : ClusterFile C) : Type 0 where
  pub truth : AreTrue (cluster.calls new.cluster) → AreTrue (cluster.calls old.cluster)
  pub time : Elapses (cluster.moment old.cluster) (cluster.moment new.cluster) (has_left cluster old) (has_left cluster new) (leaves cluster new)
  pub others : OthersStay (cluster.stand old.cluster) (cluster.stand new.cluster)
  pub longer : (cluster.stand old.cluster).head.end ≤ (cluster.stand new.cluster).head.end
  pub reading : KeepsReading old new
  pub run : IsRunOf (cluster.stand old.cluster) old.run → IsRunOf (cluster.stand new.cluster) new.run

-- The lease was kept in a call, behind all else that was done in it.
pub record KeepsLease (old new : List Called) : Type 0 where
  pub before : List Called
  pub last : new ≡ Kept ∷ before
  pub later : length old ≤ length before

-- a crash leaves nothing that it did not
abbrev pub LeavesNoMore : {C : Type 0} → Cluster C → ClusterFile C → ClusterFile C → Type 0
LeavesNoMore cluster old new = (left : List ℕ) → leaves cluster new left → leaves cluster old left

-- or it is this
abbrev pub LeavesOrThis : {C : Type 0} → Cluster C → ClusterFile C → ClusterFile C → List ℕ → Type 0
LeavesOrThis cluster old new bytes = (left : List ℕ) → leaves cluster new left → leaves cluster old left ⊎ ((left ≡ bytes) × AreTrue (cluster.calls old.cluster))

-- what a read would return
abbrev pub LeavesOrSeen : {C : Type 0} → Cluster C → ClusterFile C → ClusterFile C → Type 0
LeavesOrSeen cluster old new = LeavesOrThis cluster old new (seen_of cluster old)

-- or what was written
abbrev pub LeavesOrPut : {C : Type 0} → Cluster C → ClusterFile C → ClusterFile C → ℕ → List ℕ → Type 0
LeavesOrPut cluster old new at bytes =
    (left : List ℕ) → leaves cluster new left → leaves cluster old left ⊎ (IsWrittenAt (seen_of cluster old) at bytes left × AreTrue (cluster.calls old.cluster))

-- or what such a step makes of what it would have left before
abbrev pub LeavesByStep : {C : Type 0} → Cluster C → (List ℕ → List ℕ → Type 0) → ClusterFile C → ClusterFile C → Type 0
LeavesByStep cluster Step old new = ComesOfStep Step (leaves cluster old) (leaves cluster new)

-- every other server that has begun has since then
abbrev pub IsSoleSince : {C : Type 0} → Cluster C → ClusterFile C → ClusterFile C → Type 0
IsSoleSince cluster old new = (t : ℕ) → t ≤ cluster.moment old.cluster → IsSoleBy cluster new.cluster t

-- a call that was refused for other than memory has lost the file
abbrev pub LosesAtFailure : {T C : Type 0} → Result T DeviceFault → ClusterFile C → Type 0
LosesAtFailure result new = IfErr result (λ fault. IsFailure fault → is_some new.lost ≡ true)

-- as which fault it is told that a file is lost
abbrev pub failed_by : SettleFault → DeviceFault
failed_by settle.Overtaken = Failed system.Overtaken
failed_by settle.Unclear = Failed system.Unclear
failed_by settle.Refused = Failed system.Other

-- a call that failed tells why the file is lost
abbrev pub TellsWhy : {T C : Type 0} → Result T DeviceFault → ClusterFile C → Type 0
TellsWhy result new = IfErr result (λ fault. IsFailure fault → (reason : SettleFault) × (new.lost ≡ Some reason) × (fault ≡ failed_by reason))

-- what is seen is as it was, and a crash leaves nothing that it did not
pub record KeepsSeen {C : Type 0} (cluster : Cluster C) (old new : ClusterFile C) : Type 0 where
  pub seen : seen_of cluster new ≡ seen_of cluster old
  pub crash : (left : List ℕ) → leaves cluster new left → leaves cluster old left

-- the last call was to let go of what stood there before this version
abbrev pub HasCompacted : {C : Type 0} → Cluster C → ClusterFile C → Type 0
HasCompacted cluster file = (before : List Called) × (cluster.calls file.cluster ≡ Compacted file.standing.version ∷ before)

-- it was to let go of what stood there before the version that the file had
abbrev pub Compacts : {C : Type 0} → Cluster C → ClusterFile C → ClusterFile C → Type 0
Compacts cluster old new = cluster.calls new.cluster ≡ Compacted old.standing.version ∷ cluster.calls old.cluster
