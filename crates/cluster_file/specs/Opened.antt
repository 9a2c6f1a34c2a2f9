-- A file that is read from its first byte on, and was not written since it was opened.
use Rattle.std.specs.Prelude.{◌≡◌, ◌≢◌, ◌≤◌, ℕ, [], take, None, Some}
use Rattle.etcd_cluster.specs.declared.change.Piece.{Piece}
use Rattle.etcd_cluster.specs.declared.cluster.Cluster.{Ghosts as Cluster}
use Rattle.cluster_file.specs.Files.{IsSound, IsSynced, seen_of}
use Rattle.cluster_file.specs.Places.{IsReadTo, Reaches, counted}
use Rattle.cluster_file.specs.declared.file.ClusterFile.{ClusterFile}

-- WHAT IS KNOWN OF IT IS WHAT WAS TOLD OF IT, ONCE: so much of it is in pieces that are known, and none behind them is.
pub record IsOpened {C : Type 0} (cluster : Cluster C) (file : ClusterFile C) : Type 0 where
  pub sound : IsSound cluster file
  pub read : IsReadTo cluster file
  pub none : (p : ℕ) → file.known ≤ p → counted cluster file p ≡ None
  pub synced : IsSynced file
  pub alone : file.next ≡ None
  pub run : file.run.bytes.items ≡ []

-- a piece that was told is the one that is known there, where none was; and nothing else is known anew
pub record IsToldAnew {C : Type 0} (cluster : Cluster C) (old new : ClusterFile C) (place : ℕ) (piece : Piece) : Type 0 where
  pub is : counted cluster old place ≡ None → counted cluster new place ≡ Some piece.bytes.items
  pub others : (p : ℕ) → p ≢ place → counted cluster new p ≡ counted cluster old p

-- what was seen of a file up to where it was known is as it was
abbrev pub KeepsTold : {C : Type 0} → Cluster C → ClusterFile C → ClusterFile C → Type 0
KeepsTold cluster old new = (n : ℕ) → Reaches old n → take n (seen_of cluster new) ≡ take n (seen_of cluster old)
