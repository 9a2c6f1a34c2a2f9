-- Changes of the next file.
use Rattle.std.specs.Prelude.{◌≡◌, ◌≢◌, ℕ, None}
use Rattle.etcd_cluster.specs.Stands.{Clears, Forgets, Lays, WriteFact, written}
use Rattle.etcd_cluster.specs.declared.cluster.Cluster.{Ghosts as Cluster}
use Rattle.cluster_file.specs.declared.file.ClusterFile.{ClusterFile}

-- no piece of that generation is another one
abbrev pub LeavesCounted : ℕ → WriteFact → Type 0
LeavesCounted generation (Lays other at bytes) = generation ≢ other
LeavesCounted generation (Clears other from to) = generation ≢ other
LeavesCounted generation (Forgets other) = ⊥

-- it was written, and the same generation counts
pub record IsWrittenBeside {C : Type 0} (cluster : Cluster C) (old new : ClusterFile C) (write : WriteFact) : Type 0 where
  pub generation : (cluster.stand new.cluster).head.generation ≡ (cluster.stand old.cluster).head.generation
  pub pieces : (g p : ℕ) → (cluster.stand new.cluster).pieces g p ≡ written write (cluster.stand old.cluster).pieces g p

-- the file once the next one, of which so many bytes are laid, has taken its place
abbrev pub placed_file : {C : Type 0} → ClusterFile C → ClusterFile C → (laid room : ℕ) → ClusterFile C
placed_file old new laid room =
    record old { starts = new.starts; known = laid; room = room; piece = None; unsynced = new.unsynced; run = new.run }
