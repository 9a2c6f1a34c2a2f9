-- Pieces that stand side by side at the end of a list.
use Rattle.std.specs.Prelude.{◌≡◌, ◌⊎◌, ◌<◌, ◌≤◌, ◌+◌, ◌^◌, ◌++◌, ℕ, List, [], ◌∷◌, Option, Some, length}
use Rattle.etcd_cluster.specs.Bytes.{Make}
use Rattle.etcd_cluster.specs.Stands.{Clears, Lays, Stand, WriteFact, all_written}
use Rattle.etcd_cluster.specs.declared.cluster.Cluster.{Ghosts as Cluster}
use Rattle.etcd_cluster.specs.declared.change.Head.{Head}
use Rattle.cluster_file.specs.declared.file.ClusterFile.{ClusterFile}
use Rattle.cluster_file.specs.declared.merging.Run.{Run}

-- The pieces make so many bytes, and the next one begins there.
pub record MakeTo (pieces : ℕ → Option (List ℕ)) (to : ℕ) : Type 0 where
  pub bytes : List ℕ
  pub made : Make pieces 0 bytes
  pub size : length bytes ≡ to

-- The pieces from where a run begins make its bytes, up to that end; and a piece before them ends where they begin.
pub record IsRunTo (pieces : ℕ → Option (List ℕ)) (run : Run) (end : ℕ) : Type 0 where
  pub front : MakeTo pieces run.start
  pub rest : Make pieces run.start run.bytes.items
  pub ends : run.start + length run.bytes.items ≡ end

-- so they do up to the end that the head counts, where there are any
abbrev pub IsRunOf : Stand → Run → Type 0
IsRunOf stand run = 0 < length run.bytes.items → IsRunTo (stand.pieces stand.head.generation) run stand.head.end

-- The last piece, which begins there: it ends where the head says, and another one ends where it begins.
pub record IsLastAt (stand : Stand) (start : ℕ) (piece : List ℕ) : Type 0 where
  pub front : MakeTo (stand.pieces stand.head.generation) start
  pub is : stand.pieces stand.head.generation start ≡ Some piece
  pub ends : start + length piece ≡ stand.head.end

-- with one more piece, and so many bytes laid just before it: behind the others, or in the place of them
abbrev pub IsLonger : ℕ → ℕ → List ℕ → Run → Run → Type 0
IsLonger at before piece old new =
    ((before ≡ 0) × (at ≡ old.start + length old.bytes.items) × (new.start ≡ old.start) × (new.bytes.items ≡ old.bytes.items ++ piece))
    ⊎ ((new.start ≡ at) × (new.bytes.items ≡ piece))

-- so many bytes at that place stand right behind the others, and they are not too long with them
abbrev pub IsRightBehind : Run → (at more : ℕ) → Type 0
IsRightBehind run at more = (at ≡ run.start + length run.bytes.items) × (length run.bytes.items + more ≤ 2 ^ 18)

-- then it is one of them, and counts
abbrev pub JoinsRun : ℕ → ℕ → List ℕ → Run → Run → Type 0
JoinsRun at before piece old new =
    before ≡ 0 → IsRightBehind old at (length piece)
    → (new.bytes.items ≡ old.bytes.items ++ piece) × (0 < length piece → old.count + 1 < 2 ^ 32 → new.count ≡ old.count + 1)

-- a piece more was laid: it is one of them, or there are none
abbrev pub IsNoted : ℕ → ℕ → List ℕ → Run → Run → Type 0
IsNoted at before piece old new = (new.bytes.items ≡ []) ⊎ IsLonger at before piece old new

-- the pieces of a run go, and one is laid in the place of them
abbrev pub merge_writes : Head → ℕ → List ℕ → List WriteFact
merge_writes head start bytes = Clears head.generation (start + 1) head.end ∷ Lays head.generation start bytes ∷ []

-- so it was done
abbrev pub IsMerged : {C : Type 0} → Cluster C → ClusterFile C → ClusterFile C → Type 0
IsMerged cluster old new =
    (g p : ℕ) → (cluster.stand new.cluster).pieces g p
    ≡ all_written (merge_writes old.standing.head old.run.start old.run.bytes.items) (cluster.stand old.cluster).pieces g p

-- where a run is of so many pieces
abbrev pub MergesMany : {C : Type 0} → Cluster C → ClusterFile C → ClusterFile C → Type 0
MergesMany cluster old new = 64 ≤ old.run.count → 0 < length old.run.bytes.items → IsMerged cluster old new
