-- A put is over: what could not be put is let go of.
use Rattle.std.proofs.Common.{◌≡◌, ◌⊎◌, inl, inr, ◌≤◌, ◌+◌, ◌++◌, ◌∙◌, ℕ, true, List, length, take, refl, sym, ap, subst, arith}
use Rattle.std.specs.Global.{Vec}
use Rattle.std.specs.Prelude.{None, Option, Some, Result, Ok, Err, OnErr, OnOk, is_some}
use Rattle.batch_file.specs.Crashes.{ComesOfStep, IsWrittenAt, Swapped}
use Rattle.batch_file.specs.Tears.{Torn}
use Rattle.etcd_cluster.specs.Bytes.{Make, laid}
use Rattle.etcd_cluster.specs.Calls.{AreTrue}
use Rattle.etcd_cluster.specs.declared.cluster.Cluster.{Ghosts as Cluster}
use Rattle.etcd_cluster.proofs.Made.{laid_made}
use Rattle.cluster_file.specs.Devices.{GoesOn, IsBeside, IsWell, KeepsSeen, LeavesNoMore, LeavesOrPut, LeavesOrThis, Proceeds, leaves}
use Rattle.cluster_file.specs.Files.{CountsSame, IsSound, IsSynced, IsWhole, KeepsWritten, next_of, seen_of}
use Rattle.cluster_file.specs.Moments.{CountsNow}
use Rattle.cluster_file.specs.Places.{OthersStay}
use Rattle.cluster_file.specs.declared.beside.NextFile.{NextFile}
use Rattle.cluster_file.specs.declared.file.ClusterFile.{ClusterFile}
use Rattle.cluster_file.proofs.After.{beside_after, read_after}
use Rattle.cluster_file.proofs.Going.{stands_old}
use Rattle.cluster_file.proofs.Laying.{lost_not}
use Rattle.cluster_file.proofs.Looking.{IsByCalls}
use Rattle.cluster_file.proofs.Reading.{made_still}
use Rattle.cluster_file.proofs.Since.{elapses_on}
use Rattle.cluster_file.proofs.Torn.{torn_none, torn_whole}
use Rattle.cluster_file.proofs.Written.{beside_leaves, proceeds_to, sound_beside}

pub ok_or_err : {A E : Type 0} (r : Result A E) (P : Type 0) → OnOk r P → OnErr r P → P
ok_or_err (Ok a) P ok err = ok
ok_or_err (Err e) P ok err = err

-- THE NEXT FILE is what it was, where its pieces are
pub beside_bytes : (pieces : ℕ → Option (List ℕ)) (n : ℕ) (bytes : List ℕ) → Make pieces 0 bytes → length bytes ≡ n → take n (laid n pieces 0) ≡ bytes
beside_bytes pieces n bytes made size =
    subst (λ (k : ℕ). take k (laid n pieces 0) ≡ bytes) size (laid_made pieces n 0 bytes (omega (arith, size)) made)

pub next_kept : {C : Type 0} (cluster : Cluster C) (old new : ClusterFile C) → OthersStay (cluster.stand old.cluster) (cluster.stand new.cluster) → new.next ≡ old.next
    → IsBeside cluster old old.next → next_of cluster new ≡ next_of cluster old
next_kept {C} cluster old new others same beside =
    ap (λ (o : Option NextFile). next_of cluster (record new { next = o })) same ∙ each old.next beside
  where
    nexts : ClusterFile C → ℕ → Option (List ℕ)
    nexts file = (cluster.stand file.cluster).pieces ((cluster.stand file.cluster).head.generation + 1)

    each : (o : Option NextFile) → IsBeside cluster old o → next_of cluster (record new { next = o }) ≡ next_of cluster (record old { next = o })
    each None is = refl
    each (Some next) is =
        let there = beside_bytes (nexts new) next.laid is.bytes (made_still (nexts old) (nexts new) 0 is.bytes others.beside is.made) is.size in
        let here = beside_bytes (nexts old) next.laid is.bytes is.made is.size in
        ap (λ (l : List ℕ). Some (l ++ next.rest.items)) (there ∙ sym here)

-- WHAT A CALL KEEPS that put all there, or lost the file
pub goes_by : {C : Type 0} (cluster : Cluster C) (old new : ClusterFile C) → IsWell cluster old → old.lost ≡ None → Proceeds cluster old new
    → (new.lost ≡ None → IsSound cluster new × IsWhole cluster new) → (new.lost ≡ None → IsSynced new) → GoesOn cluster old new
goes_by cluster old new well working on whole synced = record {
  well = record {
    sound = λ none. (whole none).0;
    whole = λ none. (whole none).1;
    synced = synced;
    beside = λ none. beside_after cluster old new on.others on.reading.next (well.beside working);
    run = λ none. on.run (well.run working);
    read = read_after cluster old new on.truth on.others on.longer on.reading.starts on.reading.known on.reading.piece well.read;
  };
  truth = on.truth;
  time = on.time;
  lost = λ lost. absurd (lost_not old.lost lost working);
}

pub goes_lost : {C : Type 0} (cluster : Cluster C) (old new : ClusterFile C) → IsWell cluster old → old.lost ≡ None → Proceeds cluster old new → is_some new.lost ≡ true
    → GoesOn cluster old new
goes_lost cluster old new well working on lost =
    goes_by cluster old new well working on (λ none. absurd (lost_not new.lost lost none)) (λ none. absurd (lost_not new.lost lost none))

-- what was written is in pieces still, where the head counts the same
pub synced_by : {C : Type 0} (cluster : Cluster C) (old new : ClusterFile C) → KeepsWritten old new → CountsSame old.standing.head new.standing.head → IsSynced old → IsSynced new
synced_by cluster old new kept counts synced = record {
  none = ap (λ (v : Vec ℕ). v.items) kept.unsynced ∙ synced.none;
  room = kept.room ∙ synced.room ∙ sym counts.1;
}

-- one call after another
pub goes_then : {C : Type 0} (cluster : Cluster C) → CountsNow cluster → (old mid new : ClusterFile C) → KeepsSeen cluster old mid → GoesOn cluster old mid → GoesOn cluster mid new
    → GoesOn cluster old new
goes_then {C} cluster counts old mid new kept first second = record {
  well = second.well;
  truth = λ are. first.truth (second.truth are);
  time = elapses_on cluster old mid new first.time (λ left is. inl (kept.crash left is)) counts second.time;
  lost = λ lost. second.lost (subst (λ (x : ClusterFile C). is_some x.lost ≡ true) (sym (first.lost lost)) lost) ∙ first.lost lost;
}

pub seen_then : {C : Type 0} (cluster : Cluster C) (old mid new : ClusterFile C) → KeepsSeen cluster old mid → KeepsSeen cluster mid new → KeepsSeen cluster old new
seen_then cluster old mid new first second = record { seen = second.seen ∙ first.seen; crash = λ left is. first.crash left (second.crash left is) }

-- a step from the one to the other
pub swapped_of : {C : Type 0} (cluster : Cluster C) → IsByCalls cluster → (old new : ClusterFile C) → IsWell cluster old → old.lost ≡ None → (bytes : List ℕ)
    → LeavesOrThis cluster old new bytes → ComesOfStep (Swapped bytes) (leaves cluster old) (leaves cluster new)
swapped_of cluster by_calls old new well working bytes then_left left is = each (then_left left is)
  where
    each : leaves cluster old left ⊎ ((left ≡ bytes) × AreTrue (cluster.calls old.cluster)) → (d : List ℕ) × leaves cluster old d × Swapped bytes d left
    each (inl was) = (left, was, inl refl)
    each (inr (is, are)) = (seen_of cluster old, stands_old cluster by_calls old well working are (seen_of cluster old) refl, inr is)

-- where nothing more is left
pub swapped_none : {C : Type 0} (cluster : Cluster C) (old new : ClusterFile C) (bytes : List ℕ) → LeavesNoMore cluster old new
    → ComesOfStep (Swapped bytes) (leaves cluster old) (leaves cluster new)
swapped_none cluster old new bytes fewer left is = (left, fewer left is, inl refl)

-- a part before it that leaves nothing more
pub this_on : {C : Type 0} (cluster : Cluster C) (old mid new : ClusterFile C) (bytes : List ℕ) → LeavesNoMore cluster old mid
    → (AreTrue (cluster.calls mid.cluster) → AreTrue (cluster.calls old.cluster)) → LeavesOrThis cluster mid new bytes → LeavesOrThis cluster old new bytes
this_on cluster old mid new bytes fewer truth then_left left is = each (then_left left is)
  where
    each : leaves cluster mid left ⊎ ((left ≡ bytes) × AreTrue (cluster.calls mid.cluster)) → leaves cluster old left ⊎ ((left ≡ bytes) × AreTrue (cluster.calls old.cluster))
    each (inl was) = inl (fewer left was)
    each (inr (sees, are)) = inr (sees, truth are)

-- WHAT WAS NOT PUT IS LET GO OF
module _ {C : Type 0} (cluster : Cluster C) (mid new : ClusterFile C) (same : new ≡ record mid { unsynced = new.unsynced; room = new.room }) where
  lost_is : new.lost ≡ mid.lost
  lost_is = ap (λ (f : ClusterFile C). f.lost) same

  drop_leaves : (left : List ℕ) → leaves cluster new left → leaves cluster mid left
  drop_leaves left is = beside_leaves cluster mid new.unsynced new.room left (subst (λ (x : ClusterFile C). leaves cluster x left) same is)

  pub drop_proceeds : (old : ClusterFile C) → Proceeds cluster old mid → Proceeds cluster old new
  drop_proceeds old on = subst (λ (x : ClusterFile C). Proceeds cluster old x) (sym same) (proceeds_to cluster mid new.unsynced new.room old on)

  pub drop_crash : (by_calls : IsByCalls cluster) (old : ClusterFile C) → IsWell cluster old → old.lost ≡ None → (at : ℕ) (bytes : List ℕ) → at ≤ length (seen_of cluster old)
      → LeavesOrPut cluster old mid at bytes → ComesOfStep (Torn at bytes) (leaves cluster old) (leaves cluster new)
  drop_crash by_calls old well working at bytes within then_left left is = each (then_left left (drop_leaves left is))
    where
      each : leaves cluster old left ⊎ (IsWrittenAt (seen_of cluster old) at bytes left × AreTrue (cluster.calls old.cluster))
          → (d : List ℕ) × leaves cluster old d × Torn at bytes d left
      each (inl was) = (left, was, torn_none at bytes left)
      each (inr (written, are)) =
          (seen_of cluster old, stands_old cluster by_calls old well working are (seen_of cluster old) refl, torn_whole at bytes (seen_of cluster old) left within written)

  pub drop_goes : (old : ClusterFile C) → IsWell cluster old → old.lost ≡ None → Proceeds cluster old mid → (mid.lost ≡ None → IsSound cluster mid × IsWhole cluster mid)
      → (new.lost ≡ None → IsSynced new) → GoesOn cluster old new
  drop_goes old well working before whole synced =
      goes_by cluster old new well working (drop_proceeds old before)
      (λ none. (
        subst (λ (x : ClusterFile C). IsSound cluster x) (sym same) (sound_beside cluster mid new.unsynced new.room (whole (sym lost_is ∙ none)).0),
        subst (λ (x : ClusterFile C). IsWhole cluster x) (sym same) (whole (sym lost_is ∙ none)).1,
      ))
      synced
