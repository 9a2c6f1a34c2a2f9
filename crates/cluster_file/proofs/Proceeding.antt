-- What part after part of a call keeps of a file.
use Rattle.std.proofs.Common.{◌≡◌, ◌⊎◌, inl, inr, ◌∙◌, ℕ, List, refl, sym, ap, subst, arith}
use Rattle.batch_file.specs.Crashes.{Elapses}
use Rattle.etcd_cluster.specs.Bytes.{HasBytes, file_of}
use Rattle.etcd_cluster.specs.Calls.{AreTrue}
use Rattle.etcd_cluster.specs.Stands.{ChangeFact, Stand, done_at}
use Rattle.etcd_cluster.specs.declared.change.Head.{Head}
use Rattle.etcd_cluster.specs.declared.cluster.Cluster.{Ghosts as Cluster}
use Rattle.etcd_cluster.proofs.True.{settle_true}
use Rattle.cluster_file.specs.Devices.{KeepsReading, LeavesNoMore, LeavesOrSeen, Proceeds, has_left, leaves}
use Rattle.cluster_file.specs.Files.{ComesBy, CountsSame, IsGivenUp, IsMade, IsSameBut, IsSound, IsTried, KeepsWritten, MayHaveMade, seen_of}
use Rattle.cluster_file.specs.Moments.{AreTrueWhere, CountsCalls, CountsNow}
use Rattle.cluster_file.specs.Places.{OthersStay}
use Rattle.cluster_file.specs.Runs.{IsRunOf}
use Rattle.cluster_file.specs.declared.file.ClusterFile.{ClusterFile}
use Rattle.cluster_file.proofs.After.{others_on, others_same}
use Rattle.cluster_file.specs.declared.merging.Run.{Run}
use Rattle.cluster_file.proofs.Kept.{file_same, given_found, made_found}
use Rattle.cluster_file.proofs.Looking.{IsByCalls}
use Rattle.cluster_file.proofs.Runs.{runs_stay}
use Rattle.cluster_file.proofs.Since.{change_elapses, elapses_on, settled_still, tried_comes}

pub reading_same : {C : Type 0} (file : ClusterFile C) → KeepsReading file file
reading_same file = record { starts = refl; known = refl; piece = refl; next = refl; read = refl }

pub reading_by : {C : Type 0} (old new : ClusterFile C) → IsSameBut old new → KeepsReading old new
reading_by {C} old new same = record {
  starts = ap (λ (f : ClusterFile C). f.starts) same;
  known = ap (λ (f : ClusterFile C). f.known) same;
  piece = ap (λ (f : ClusterFile C). f.piece) same;
  next = ap (λ (f : ClusterFile C). f.next) same;
  read = ap (λ (f : ClusterFile C). f.read) same;
}

pub proceeds_same : {C : Type 0} (cluster : Cluster C) (file : ClusterFile C) → Proceeds cluster file file
proceeds_same cluster file = record {
  truth = λ are. are;
  time = record { later = omega arith; nothing_else = λ t left le is. inl is; keeps = λ t left le is. is };
  others = others_same (cluster.stand file.cluster) (cluster.stand file.cluster) refl;
  longer = omega arith;
  reading = reading_same file;
  run = λ is. is;
}

pub proceeds_on : {C : Type 0} (cluster : Cluster C) → CountsNow cluster → (old mid new : ClusterFile C) → Proceeds cluster old mid → LeavesNoMore cluster old mid
    → Proceeds cluster mid new → Proceeds cluster old new
proceeds_on cluster counts old mid new first fewer second =
    let far = first.longer in
    let farther = second.longer in
    record {
      truth = λ are. first.truth (second.truth are);
      time = elapses_on cluster old mid new first.time (λ left is. inl (fewer left is)) counts second.time;
      others = others_on (cluster.stand old.cluster) (cluster.stand mid.cluster) (cluster.stand new.cluster) far first.others second.others;
      longer = omega (arith, far, farther);
      reading = record {
        starts = second.reading.starts ∙ first.reading.starts;
        known = second.reading.known ∙ first.reading.known;
        piece = second.reading.piece ∙ first.reading.piece;
        next = second.reading.next ∙ first.reading.next;
        read = second.reading.read ∙ first.reading.read;
      };
      run = λ is. second.run (first.run is);
    }

-- A CHANGE THAT KEEPS THE FILE'S BYTES
module _ {C : Type 0} (cluster : Cluster C) (counts : CountsNow cluster) (counts_calls : CountsCalls cluster) (true_where : AreTrueWhere cluster) (by_calls : IsByCalls cluster)
    (old new : ClusterFile C) (sound : IsSound cluster old) (change : ChangeFact) (names : change.after ≡ old.standing.version) (bytes : List ℕ)
    (had : HasBytes (cluster.stand old.cluster) bytes) (same_counts : CountsSame old.standing.head change.head) (has : HasBytes (done_at 0 change (cluster.stand old.cluster)) bytes)
    (same : IsSameBut old new) (kept : KeepsWritten old new) (tried : IsTried cluster old new change)
    (meanwhile : MayHaveMade cluster old.cluster new.cluster change old.has_begun) where
  pub truth : AreTrue (cluster.calls new.cluster) → AreTrue (cluster.calls old.cluster)
  truth are = settle_true 30 change tried.told (cluster.calls old.cluster) (cluster.calls new.cluster) tried.asked are

  true_now : AreTrue (cluster.calls old.cluster) → AreTrue (cluster.calls new.cluster)
  true_now are = settled_still 30 change tried.told (cluster.calls old.cluster) (cluster.calls new.cluster) tried.asked are

  same_file : file_of (done_at 0 change (cluster.stand old.cluster)) ≡ file_of (cluster.stand old.cluster)
  same_file = file_same cluster old new change sound kept names bytes had same_counts has

  run_kept : OthersStay (cluster.stand old.cluster) (cluster.stand new.cluster) → (cluster.stand new.cluster).head.end ≡ (cluster.stand old.cluster).head.end
      → IsRunOf (cluster.stand old.cluster) old.run → IsRunOf (cluster.stand new.cluster) new.run
  run_kept others end is =
      subst (λ (r : Run). IsRunOf (cluster.stand new.cluster) r) (sym kept.run) (runs_stay (cluster.stand old.cluster) (cluster.stand new.cluster) old.run others end is)

  time_by : (AreTrue (cluster.calls old.cluster) → leaves cluster new (file_of (done_at 0 change (cluster.stand old.cluster))))
      → Elapses (cluster.moment old.cluster) (cluster.moment new.cluster) (has_left cluster old) (has_left cluster new) (leaves cluster new)
  time_by comes =
      change_elapses cluster counts true_where old change sound names bytes bytes had has counts_calls (by_calls old.cluster) new (reading_by old new same).read 30 tried.told
      tried.asked meanwhile comes

  pub made_time : IsMade cluster old new change
      → Elapses (cluster.moment old.cluster) (cluster.moment new.cluster) (has_left cluster old) (has_left cluster new) (leaves cluster new)
  made_time made = time_by (λ are. inl (inl (sym (ap file_of made.stand) ∙ ap file_of (by_calls new.cluster)), true_now are))

  by_comes : (AreTrue (cluster.calls old.cluster) → leaves cluster new (file_of (done_at 0 change (cluster.stand old.cluster))))
      → OthersStay (cluster.stand old.cluster) (cluster.stand new.cluster) → (cluster.stand new.cluster).head.end ≡ (cluster.stand old.cluster).head.end → Proceeds cluster old new
  by_comes comes others end = record {
    truth = truth;
    time = time_by comes;
    others = others;
    longer = omega (arith, end);
    reading = reading_by old new same;
    run = run_kept others end;
  }

  pub made_proceeds : IsMade cluster old new change → OthersStay (cluster.stand old.cluster) (cluster.stand new.cluster) → Proceeds cluster old new
  made_proceeds made others =
      by_comes (λ are. inl (inl (sym (ap file_of made.stand) ∙ ap file_of (by_calls new.cluster)), true_now are)) others
      (ap (λ (s : Stand). s.head.end) made.stand ∙ same_counts.0 ∙ sym (ap (λ (h : Head). h.end) sound.head))

  pub given_proceeds : IsGivenUp cluster old new change → Proceeds cluster old new
  given_proceeds given =
      by_comes (λ are. inl (inl (same_file ∙ sym (ap file_of given.stand) ∙ ap file_of (by_calls new.cluster)), true_now are))
      (others_same (cluster.stand old.cluster) (cluster.stand new.cluster) given.stand) (ap (λ (s : Stand). s.head.end) given.stand)

  -- a crash leaves nothing that it did not

  stood_before : (left : List ℕ) → left ≡ file_of (cluster.stand old.cluster) → AreTrue (cluster.calls new.cluster) → leaves cluster old left
  stood_before left is are = inl (inl (is ∙ ap file_of (by_calls old.cluster)), truth are)

  come_before : (left : List ℕ) → ComesBy (cluster.calls new.cluster) left → AreTrue (cluster.calls new.cluster) → leaves cluster old left
  come_before left come are = stood_before left (tried_comes cluster old new change tried (by_calls old.cluster) left come ∙ same_file) are

  pub made_no_more : IsMade cluster old new change → LeavesNoMore cluster old new
  made_no_more made left (inl (inl is, are)) =
      stood_before left (is ∙ ap file_of (sym (by_calls new.cluster)) ∙ ap file_of made.stand ∙ same_file) are
  made_no_more made left (inl (inr come, are)) = come_before left come are
  made_no_more made left (inr found) = inr (made_found cluster old new change sound kept names bytes had same_counts has made left found)

  pub given_no_more : IsGivenUp cluster old new change → LeavesNoMore cluster old new
  given_no_more given left (inl (inl is, are)) = stood_before left (is ∙ ap file_of (sym (by_calls new.cluster) ∙ given.stand)) are
  given_no_more given left (inl (inr come, are)) = come_before left come are
  given_no_more given left (inr found) = inr (given_found cluster old new change sound kept names bytes had same_counts has given left found)

-- one after the other
pub crash_on : {C : Type 0} (cluster : Cluster C) (old mid new : ClusterFile C) → LeavesNoMore cluster old mid → seen_of cluster mid ≡ seen_of cluster old
    → (AreTrue (cluster.calls mid.cluster) → AreTrue (cluster.calls old.cluster)) → LeavesOrSeen cluster mid new → LeavesOrSeen cluster old new
crash_on cluster old mid new fewer seen truth then_left left is = on (then_left left is)
  where
    on : leaves cluster mid left ⊎ ((left ≡ seen_of cluster mid) × AreTrue (cluster.calls mid.cluster))
        → leaves cluster old left ⊎ ((left ≡ seen_of cluster old) × AreTrue (cluster.calls old.cluster))
    on (inl was) = inl (fewer left was)
    on (inr (sees, are)) = inr (sees ∙ seen, truth are)
