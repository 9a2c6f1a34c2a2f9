-- Parts of a file that are read.
use Rattle.std.proofs.Common.{◌≡◌, inl, inr, ◌<◌, ◌≤◌, ◌+◌, ◌-◌, ◌++◌, ◌∙◌, ℕ, List, [], drop, length, length-append, take, refl, sym, ap, subst, arith}
use Rattle.std.proofs.lemmas.List.{drop-drop}
use Rattle.std.proofs.Math.Seq.{take-add}
use Rattle.std.specs.Global.{Vec}
use Rattle.std.specs.Prelude.{Option, None, Some, Result, Ok, Err, IfOk, replicate}
use Rattle.batch_file.specs.declared.device.DeviceFault.{DeviceFault}
use Rattle.etcd_cluster.specs.Bytes.{bytes_of}
use Rattle.etcd_cluster.specs.Calls.{AreTrue}
use Rattle.etcd_cluster.specs.declared.change.Head.{Head}
use Rattle.etcd_cluster.specs.declared.change.Piece.{Piece}
use Rattle.etcd_cluster.specs.declared.cluster.Cluster.{Ghosts as Cluster}
use Rattle.etcd_cluster.proofs.Made.{bytes_made}
use Rattle.cluster_file.specs.Devices.{GoesOn, IsWell}
use Rattle.cluster_file.specs.Files.{IsSound, IsSynced, IsWhole, next_of, seen_of}
use Rattle.cluster_file.specs.Looks.{Learns}
use Rattle.cluster_file.specs.Places.{HasByte, IsHeld, IsOver, IsPartOf, IsRead, IsReadTo, KeepsFront, OthersStay, Reaches, counted, unpieced}
use Rattle.cluster_file.specs.Runs.{IsRunOf}
use Rattle.cluster_file.specs.declared.file.ClusterFile.{ClusterFile}
use Rattle.cluster_file.proofs.After.{beside_after}
use Rattle.cluster_file.proofs.Dropping.{next_kept}
use Rattle.cluster_file.proofs.Laying.{lost_not}
use Rattle.cluster_file.proofs.Learning.{has_still, whole_still}
use Rattle.cluster_file.proofs.Reading.{behind_part, held_part, keeps_front}
use Rattle.cluster_file.proofs.Runs.{runs_stay}

-- OF THE PIECE AT HAND
pub held_is : {C : Type 0} (cluster : Cluster C) (file : ClusterFile C) (o : Option Piece) (at : ℕ) (bytes : Vec ℕ) → IsReadTo cluster file → IsHeld cluster file o → HasByte at o
    → IsPartOf o at bytes → (bytes.items ≡ take (length bytes.items) (drop at (seen_of cluster file))) × (at + length bytes.items ≤ file.known)
held_is cluster file None at bytes read held byte part = absurd byte
held_is cluster file (Some piece) at bytes read held byte part =
    let it = held_part cluster file piece at (length bytes.items) read held byte.0 part.1 in (part.0 ∙ it.0, it.1)

module _ {C : Type 0} (cluster : Cluster C) (file : ClusterFile C) (at most : ℕ) (read : IsRead cluster file) where
  pub held_reads : (r : Result (Vec ℕ) DeviceFault) → HasByte at file.piece → IfOk r (IsPartOf file.piece at)
      → IfOk r (λ bytes. AreTrue (cluster.calls file.cluster) → bytes.items ≡ take (length bytes.items) (drop at (seen_of cluster file)))
  held_reads (Ok bytes) byte part = λ are. (held_is cluster file file.piece at bytes (read are) (read are).held byte part).0
  held_reads (Err fault) byte part = tt

  pub held_reaches : (r : Result (Vec ℕ) DeviceFault) → HasByte at file.piece → IfOk r (IsPartOf file.piece at)
      → IfOk r (λ bytes. AreTrue (cluster.calls file.cluster) → Reaches file (at + length bytes.items))
  held_reaches (Ok bytes) byte part = λ are. inl ((held_is cluster file file.piece at bytes (read are) (read are).held byte part).1)
  held_reaches (Err fault) byte part = tt

  pub held_ends : (r : Result (Vec ℕ) DeviceFault) → IfOk r (λ bytes. 0 < most → 0 < length bytes.items) → IfOk r (λ bytes. 0 < most → bytes.items ≡ [] → IsOver file at)
  held_ends (Ok bytes) some = λ more none. (let long = some more in let size = ap (λ (l : List ℕ). length l) none in absurd (omega (arith, long, size)))
  held_ends (Err fault) some = tt

  -- OF WHAT IS IN NO PIECE
  module _ (sound : IsSound cluster file) (reached : file.standing.head.end ≤ file.known) (behind : file.standing.head.end ≤ at) where
    end_is : (cluster.stand file.cluster).head.end ≡ file.standing.head.end
    end_is = ap (λ (h : Head). h.end) sound.head

    pub behind_reads : (r : Result (Vec ℕ) DeviceFault) → IfOk r (λ bytes. bytes.items ≡ take (length bytes.items) (drop (at - file.standing.head.end) (unpieced file)))
        → IfOk r (λ bytes. AreTrue (cluster.calls file.cluster) → bytes.items ≡ take (length bytes.items) (drop at (seen_of cluster file)))
    behind_reads (Ok bytes) part = λ are.
        let within = (read are).within in
        let end = end_is in
        part
        ∙ ap (λ (n : ℕ). take (length bytes.items) (drop (at - n) (unpieced file))) (sym end)
        ∙ behind_part cluster file at (length bytes.items) (read are) (omega (arith, within, reached, end)) (omega (arith, behind, end))
    behind_reads (Err fault) part = tt

    pub behind_reaches : (r : Result (Vec ℕ) DeviceFault) → IfOk r (λ bytes. AreTrue (cluster.calls file.cluster) → Reaches file (at + length bytes.items))
    behind_reaches (Ok bytes) = λ are. inr reached
    behind_reaches (Err fault) = tt

    pub behind_ends : (r : Result (Vec ℕ) DeviceFault) → IfOk r (λ bytes. 0 < most → bytes.items ≡ [] → length (unpieced file) ≤ at - file.standing.head.end)
        → IfOk r (λ bytes. 0 < most → bytes.items ≡ [] → IsOver file at)
    behind_ends (Ok bytes) over = λ more none. (let short = over more none in (reached, omega (arith, short, behind)))
    behind_ends (Err fault) over = tt

-- WHAT IS SEEN

pub learns_front : {C : Type 0} (cluster : Cluster C) (old new : ClusterFile C) → IsSound cluster old → IsRead cluster old → Learns cluster old new → KeepsFront cluster old new
learns_front {C} cluster old new sound read learns =
    keeps_front cluster old new (ap (λ (f : ClusterFile C). f.unsynced) learns.same) (ap (λ (f : ClusterFile C). f.room) learns.same) sound.head learns.kept read

pub front_none : {C : Type 0} (cluster : Cluster C) (file : ClusterFile C) → KeepsFront cluster file file
front_none cluster file = record { truth = λ are. are; front = λ are n reaches. refl }

-- of a file that is known
pub learns_seen : {C : Type 0} (cluster : Cluster C) (old new : ClusterFile C) → IsWhole cluster old → Learns cluster old new → seen_of cluster new ≡ seen_of cluster old
learns_seen {C} cluster old new whole learns =
    let here = bytes_made (cluster.stand new.cluster) whole.0 (has_still cluster old new whole.0 learns.kept whole.1) in
    let there = bytes_made (cluster.stand old.cluster) whole.0 whole.1 in
    ap (λ (b : List ℕ). b ++ (new.unsynced.items ++ replicate new.room 0)) (here ∙ sym there)
    ∙ ap (λ (f : ClusterFile C). bytes_of (cluster.stand old.cluster) ++ (f.unsynced.items ++ replicate f.room 0)) learns.same

others_learn : {C : Type 0} (cluster : Cluster C) (old new : ClusterFile C) → Learns cluster old new → OthersStay (cluster.stand old.cluster) (cluster.stand new.cluster)
others_learn cluster old new learns = record {
  generation = ap (λ (h : Head). h.generation) learns.kept.head;
  counted = λ p piece below is. learns.kept.pieces p piece is;
  beside = learns.kept.beside;
}

-- so it goes on
pub learns_goes : {C : Type 0} (cluster : Cluster C) (old new : ClusterFile C) → IsWell cluster old → old.lost ≡ None → Learns cluster old new → GoesOn cluster old new
learns_goes {C} cluster old new well working learns =
    let whole = well.whole working in
    let synced = well.synced working in
    let others = others_learn cluster old new learns in
    record {
      well = record {
        sound = λ none. learns.sound;
        whole = λ none. whole_still cluster old new learns.kept whole;
        synced = λ none. subst (λ (f : ClusterFile C). IsSynced f) (sym learns.same) (record { none = synced.none; room = synced.room });
        beside = λ none. beside_after cluster old new others (ap (λ (f : ClusterFile C). f.next) learns.same) (well.beside working);
        run = λ none. subst (λ r. IsRunOf (cluster.stand new.cluster) r) (sym (ap (λ (f : ClusterFile C). f.run) learns.same))
            (runs_stay (cluster.stand old.cluster) (cluster.stand new.cluster) old.run others (ap (λ (h : Head). h.end) learns.kept.head) (well.run working));
        read = learns.read;
      };
      truth = learns.kept.truth;
      time = (learns.looks whole).time;
      lost = λ lost. absurd (lost_not old.lost lost working);
    }

pub learns_next : {C : Type 0} (cluster : Cluster C) (old new : ClusterFile C) → IsWell cluster old → old.lost ≡ None → Learns cluster old new
    → next_of cluster new ≡ next_of cluster old
learns_next {C} cluster old new well working learns =
    next_kept cluster old new (others_learn cluster old new learns) (ap (λ (f : ClusterFile C). f.next) learns.same) (well.beside working)

-- PART AFTER PART
pub parts_on : (all : List ℕ) (at : ℕ) (out part : List ℕ) → out ≡ take (length out) (drop at all) → part ≡ take (length part) (drop (at + length out) all)
    → out ++ part ≡ take (length (out ++ part)) (drop at all)
parts_on all at out part first second =
    ap (λ (l : List ℕ). l ++ part) first
    ∙ ap (λ (l : List ℕ). take (length out) (drop at all) ++ l) second
    ∙ ap (λ (l : List ℕ). take (length out) (drop at all) ++ take (length part) l) (sym (drop-drop (length out) at all))
    ∙ sym (take-add (length out) (length part) (drop at all))
    ∙ ap (λ (n : ℕ). take n (drop at all)) (sym (length-append out part))
