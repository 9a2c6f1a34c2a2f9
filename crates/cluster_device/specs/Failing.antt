-- How often a call on a file in a cluster has failed.
use Rattle.std.specs.Prelude.{◌≡◌, ℕ, None}
use Rattle.etcd_cluster.specs.declared.cluster.Cluster.{Ghosts as Cluster}
use Rattle.cluster_file.specs.Devices.{IsWell}
use Rattle.cluster_file.specs.declared.file.ClusterFile.{ClusterFile}

-- the file, and how often a call on it has failed
pub record Failing (C : Type 0) : Type 0 where
  pub file : ClusterFile C
  pub failures : ℕ

-- As long as it is not lost none has.
abbrev pub IsWorking : {C : Type 0} → Cluster C → ClusterFile C → ℕ → Type 0
IsWorking cluster file failures = IsWell cluster file × (file.lost ≡ None → failures ≡ 0)
