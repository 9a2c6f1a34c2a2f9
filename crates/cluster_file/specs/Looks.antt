-- What looks for pieces leave of a file.
use Rattle.std.specs.Prelude.{◌≡◌, ◌≤◌, ℕ, Bool, true, false, List}
use Rattle.batch_file.specs.Crashes.{Elapses}
use Rattle.etcd_cluster.specs.Leading.{IsResting, StaysSo}
use Rattle.etcd_cluster.specs.Sides.{MayHaveBeen}
use Rattle.etcd_cluster.specs.Worlds.{World}
use Rattle.etcd_cluster.specs.declared.cluster.Cluster.{Ghosts as Cluster}
use Rattle.cluster_file.specs.Devices.{has_left, leaves}
use Rattle.cluster_file.specs.Files.{IsSound, IsWhole}
use Rattle.cluster_file.specs.Places.{IsRead, KeepsPieces}
use Rattle.cluster_file.specs.declared.file.ClusterFile.{ClusterFile}

-- what comes of what might have been, while a server looks that has begun; or one that has not
abbrev pub Looks : ℕ → ℕ → ℕ → Bool → World → World → Type 0
Looks server since version true old w = StaysSo server since version old w
Looks server since version false old w = IsResting server since version old w

-- so it is in each world that may be now, by one that might have been before
abbrev pub HasLooked : {C : Type 0} → Cluster C → C → C → ℕ → Bool → Type 0
HasLooked cluster old new version begun =
    (w : World) → cluster.may_be new w → (first : World) × cluster.may_be old first × Looks (cluster.server old) (cluster.moment old) version begun first w

-- and so it may have been meanwhile
abbrev pub MayHaveLooked : {C : Type 0} → Cluster C → C → C → ℕ → Bool → Type 0
MayHaveLooked cluster old new version begun = MayHaveBeen cluster old new (Looks (cluster.server old) (cluster.moment old) version begun)

-- At any moment of it a crash leaves what one before would have left.
pub record LooksOn {C : Type 0} (cluster : Cluster C) (old new : ClusterFile C) : Type 0 where
  pub crash : (left : List ℕ) → leaves cluster new left → leaves cluster old left
  pub time : Elapses (cluster.moment old.cluster) (cluster.moment new.cluster) (has_left cluster old) (has_left cluster new) (leaves cluster new)

-- WHAT A CALL KEEPS OF A FILE that is not lost, and learns pieces of it: no piece that was known is another one, and nothing is put
-- there.
pub record Learns {C : Type 0} (cluster : Cluster C) (old new : ClusterFile C) : Type 0 where
  pub sound : IsSound cluster new
  pub read : IsRead cluster new
  pub kept : KeepsPieces cluster old new
  pub looks : IsWhole cluster old → LooksOn cluster old new
  pub grows : old.known ≤ new.known
  pub same : new ≡ record old { cluster = new.cluster; piece = new.piece; starts = new.starts; known = new.known }
