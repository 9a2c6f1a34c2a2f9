-- Why a call on a file failed: what the cluster told of the change that was sent last.
use Rattle.std.specs.Prelude.{◌≡◌, ◌⊎◌, ◌<◌, ◌≤◌, ◌+◌, ◌^◌, List, ◌∷◌, ℕ, length, Option, Some, Result, Err, IfErr}
use Rattle.batch_file.specs.Crashes.{IsFailure}
use Rattle.batch_file.specs.declared.device.DeviceFault.{DeviceFault}
use Rattle.etcd_cluster.specs.Again.{AsksAgain, IsConfirmed, settled_by}
use Rattle.etcd_cluster.specs.Calls.{AskedHead, Called, Sent}
use Rattle.etcd_cluster.specs.Worlds.{IsHeadOf}
use Rattle.etcd_cluster.specs.declared.change.CallFault.{CallFault}
use Rattle.etcd_cluster.specs.declared.change.Standing.{Standing}
use Rattle.etcd_cluster.specs.declared.cluster.Cluster.{Ghosts as Cluster}
use Rattle.etcd_cluster.specs.declared.settling.SettleFault.{SettleFault}
use Rattle.etcd_cluster.specs.declared.settling.SettleFault.TheVariants.{Overtaken}
use Rattle.cluster_file.specs.Devices.{KeepsLease, failed_by}
use Rattle.cluster_file.specs.Files.{more}
use Rattle.cluster_file.specs.declared.file.ClusterFile.{ClusterFile}

-- the last call sent a change, and that is what was told of it
abbrev pub ToldOfChange : List Called → SettleFault → Type 0
ToldOfChange (Sent change told ∷ before) reason = settled_by change told ≡ Err reason
ToldOfChange calls reason = ⊥

-- A change was sent, and the file is lost for what was told of it.
pub record FailsAtChange {C : Type 0} (cluster : Cluster C) (old new : ClusterFile C) (fault : DeviceFault) : Type 0 where
  pub reason : SettleFault
  pub lost : new.lost ≡ Some reason
  pub is : fault ≡ failed_by reason
  pub sent : length (cluster.calls old.cluster) < length (cluster.calls new.cluster)
  pub told : ToldOfChange (cluster.calls new.cluster) reason

-- where a call failed, that is why, or this
abbrev pub FailsFor : {T C : Type 0} → Cluster C → Type 0 → Result T DeviceFault → ClusterFile C → ClusterFile C → Type 0
FailsFor cluster Other result old new = IfErr result (λ fault. IsFailure fault → FailsAtChange cluster old new fault ⊎ Other)

-- what was written makes the file longer than a number can count
abbrev pub IsTooLong : {C : Type 0} → ClusterFile C → Type 0
IsTooLong file = 2 ^ 64 ≤ (file.standing.head.end + length file.unsynced.items) + file.room

-- bytes have no place in it: it has pieces there, or is too long with them
abbrev pub HasNoPlace : {C : Type 0} → ClusterFile C → ℕ → List ℕ → Type 0
HasNoPlace file at bytes = (at < file.standing.head.end) ⊎ (2 ^ 64 ≤ (at + length bytes) + file.room)

-- The head was asked for, and the file is lost for what was told of it.
pub record IsUnconfirmed {C : Type 0} (cluster : Cluster C) (old new : ClusterFile C) (fault : DeviceFault) : Type 0 where
  pub reason : SettleFault
  pub lost : new.lost ≡ Some reason
  pub is : fault ≡ failed_by reason
  pub asked : IsConfirmed {A = Unit {0}} more old.standing.version (Err reason) (cluster.calls old.cluster) (cluster.calls new.cluster)

-- the lease was to be kept, and is no more
abbrev pub IsLeaseLost : {C : Type 0} → Cluster C → ClusterFile C → ClusterFile C → Type 0
IsLeaseLost cluster old new = (new.lost ≡ Some Overtaken) × KeepsLease (cluster.calls old.cluster) (cluster.calls new.cluster)

-- or that, where a call failed
abbrev pub FailsForLease : {T C : Type 0} → Cluster C → Result T DeviceFault → ClusterFile C → ClusterFile C → Type 0
FailsForLease cluster result old new = FailsFor cluster (IsLeaseLost cluster old new) result old new

-- the head was asked for, and is of the version that the file has
abbrev pub HasConfirmed : {C : Type 0} → Cluster C → ClusterFile C → ClusterFile C → Type 0
HasConfirmed cluster old new =
    (told : Result (Option Standing) CallFault) × IsHeadOf old.standing.version told
    × AsksAgain more AskedHead told (cluster.calls old.cluster) (cluster.calls new.cluster)
