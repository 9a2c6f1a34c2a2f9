-- What a source has told of a file, and what it knows of it then.
use Rattle.std.specs.Prelude.{◌≡◌, ◌++◌, ◌==◌, ℕ, List, [], if◌then◌else◌, None, slice_index, take}
use Rattle.etcd_cluster.specs.declared.cluster.Cluster.{Ghosts as Cluster}
use Rattle.cluster_file.specs.Files.{seen_of}
use Rattle.cluster_file.specs.Opened.{IsOpened}
use Rattle.cluster_file.specs.Places.{IsOver, IsRead, Reaches}
use Rattle.cluster_file.specs.declared.file.ClusterFile.{ClusterFile}

-- more was told; or it begins anew
abbrev pub with_note : List ℕ → List ℕ → List ℕ → List ℕ
with_note numbers bytes told = if slice_index numbers 0 == 0 then told ++ bytes else []

-- a source: its file, and what it told of it, so many bytes
pub record Telling (C : Type 0) : Type 0 where
  pub file : ClusterFile C
  pub at : ℕ
  pub told : List ℕ

-- SO MANY BYTES OF A FILE WERE TOLD: those that a read would return, as long as it is not given up.
pub record IsTelling {C : Type 0} (cluster : Cluster C) (file : ClusterFile C) (at : ℕ) (told : List ℕ) : Type 0 where
  pub read : IsRead cluster file
  pub opened : file.lost ≡ None → IsOpened cluster file
  pub is : file.lost ≡ None → told ≡ take at (seen_of cluster file)
  pub reaches : file.lost ≡ None → Reaches file at

-- its end was reached
abbrev pub HasTold : {C : Type 0} → ClusterFile C → ℕ → Type 0
HasTold file at = (file.lost ≡ None) × IsOver file at

-- a device that was opened had these bytes, unless it is given up
abbrev pub WasOpened : {C : Type 0} → Cluster C → ClusterFile C → List ℕ → Type 0
WasOpened cluster file bytes = file.lost ≡ None → seen_of cluster file ≡ bytes
