-- This moment, and what might have been left since.
use Rattle.std.specs.Prelude.{◌≡◌, ◌<◌, ◌≤◌, ℕ, List, [], ◌∷◌, length, Some}
use Rattle.std.proofs.Common.{inl, inr, arith}
use Rattle.etcd_cluster.specs.Calls.{AreTrue, Called}
use Rattle.etcd_cluster.specs.declared.cluster.Cluster.{Ghosts as Cluster}
use Rattle.etcd_cluster.specs.Worlds.{Begun, World}
use Rattle.cluster_file.specs.Devices.{HasStood, StandsThere, has_left, leaves}
use Rattle.cluster_file.specs.Files.{HasFound, MayBeFound}
use Rattle.cluster_file.specs.declared.file.ClusterFile.{ClusterFile}

-- LAWS OF A CLUSTER, as its trait has them

-- who has begun by a moment has begun before
abbrev pub BeganBefore : {C : Type 0} → Cluster C → Type 0
BeganBefore {C} cluster = (c : C) (w : World) (begun : Begun) → cluster.may_be c w → w.begun ≡ Some begun → begun.moment < cluster.moment c

-- since this moment there is no other
abbrev pub IsOnlyNow : {C : Type 0} → Cluster C → Type 0
IsOnlyNow {C} cluster = (c : C) (w : World) → cluster.been_since c (cluster.moment c) w → cluster.may_be c w

-- it is one of those since an earlier one
abbrev pub CountsNow : {C : Type 0} → Cluster C → Type 0
CountsNow {C} cluster = (c : C) (t : ℕ) (w : World) → t ≤ cluster.moment c → cluster.may_be c w → cluster.been_since c t w

abbrev pub CountsCalls : {C : Type 0} → Cluster C → Type 0
CountsCalls {C} cluster = (c : C) → cluster.moment c ≡ length (cluster.calls c)

abbrev pub AreTrueWhere : {C : Type 0} → Cluster C → Type 0
AreTrueWhere {C} cluster = (c : C) (w : World) → cluster.may_be c w → AreTrue (cluster.calls c)

-- THIS MOMENT

stood_now : (calls : List Called) (t : ℕ) (left : List ℕ) → StandsThere calls left → HasStood calls t left
stood_now [] t left is = is
stood_now (call ∷ before) t left is = inl is

stands_now : (calls : List Called) (t : ℕ) (left : List ℕ) → t ≡ length calls → HasStood calls t left → StandsThere calls left
stands_now [] t left now is = is
stands_now (call ∷ before) t left now (inl is) = is
stands_now (call ∷ before) t left now (inr earlier) = let le = earlier.0 in absurd (omega (arith, now, le))

pub counts_now_of : {C : Type 0} (cluster : Cluster C) → CountsNow cluster → (file : ClusterFile C) (t : ℕ) (left : List ℕ)
    → t ≤ cluster.moment file.cluster → leaves cluster file left → has_left cluster file t left
counts_now_of cluster counts file t left le (inl is) =
    inl (stood_now (cluster.calls file.cluster) t left is)
counts_now_of cluster counts file t left le (inr (w, may, own, is)) = inr (w, counts file.cluster t w le may, inl (own, is))

found_now : {C : Type 0} (cluster : Cluster C) → BeganBefore cluster → IsOnlyNow cluster → (file : ClusterFile C) (left : List ℕ)
    → HasFound cluster file (cluster.moment file.cluster) left → MayBeFound cluster file left
found_now cluster earlier only_now file left (w, been, inl here) = (w, only_now file.cluster w been, here.0, here.1)
found_now cluster earlier only_now file left (w, been, inr (begun, is, at, found)) =
    let before : begun.moment < cluster.moment file.cluster = earlier file.cluster w begun (only_now file.cluster w been) is in
    absurd (omega (arith, before, at))

pub only_now_of : {C : Type 0} (cluster : Cluster C) → CountsCalls cluster → BeganBefore cluster → IsOnlyNow cluster → (file : ClusterFile C)
    (left : List ℕ) → has_left cluster file (cluster.moment file.cluster) left → leaves cluster file left
only_now_of cluster counts earlier only_now file left (inl stood) =
    inl (stands_now (cluster.calls file.cluster) (cluster.moment file.cluster) left (counts file.cluster) stood)
only_now_of cluster counts earlier only_now file left (inr found) = inr (found_now cluster earlier only_now file left found)

-- something is left only where what was told of pieces is true
pub only_true_of : {C : Type 0} (cluster : Cluster C) → AreTrueWhere cluster → (file : ClusterFile C) (left : List ℕ) → leaves cluster file left
    → AreTrue (cluster.calls file.cluster)
only_true_of cluster true_where file left (inl stands) = stands.1
only_true_of cluster true_where file left (inr (w, may, own, is)) = true_where file.cluster w may
