-- Zeros are put behind a file.
use Rattle.std.proofs.Common.{◌≡◌, ◌⊎◌, inl, inr, ◌+◌, ◌++◌, ◌∙◌, ℕ, List, [], length, append_assoc, refl, sym, ap, subst, arith}
use Rattle.std.proofs.lemmas.List.{replicate-append-replicate}
use Rattle.std.specs.Prelude.{None, replicate}
use Rattle.batch_file.specs.Crashes.{ComesOfStep, Elapses}
use Rattle.batch_file.specs.Tears.{Torn}
use Rattle.etcd_cluster.specs.Bytes.{HasBytes, Make, bytes_of, file_of}
use Rattle.etcd_cluster.specs.Calls.{AreTrue}
use Rattle.etcd_cluster.specs.Stands.{ChangeFact, Stand, done_at}
use Rattle.etcd_cluster.specs.Worlds.{World}
use Rattle.etcd_cluster.specs.declared.change.Head.{Head}
use Rattle.etcd_cluster.specs.declared.cluster.Cluster.{Ghosts as Cluster}
use Rattle.etcd_cluster.proofs.Made.{bytes_made}
use Rattle.etcd_cluster.proofs.True.{settle_true}
use Rattle.cluster_file.specs.Devices.{GoesOn, IsWell, has_left, leaves}
use Rattle.cluster_file.specs.Files.{ComesBy, IsGivenUp, IsMade, IsSameBut, IsTried, MayBeFound, MayHaveMade, change_of, seen_of}
use Rattle.cluster_file.specs.Moments.{AreTrueWhere, CountsCalls, CountsNow}
use Rattle.cluster_file.specs.Places.{OthersStay}
use Rattle.cluster_file.specs.Runs.{IsRunOf}
use Rattle.cluster_file.specs.declared.file.ClusterFile.{ClusterFile}
use Rattle.cluster_file.specs.declared.merging.Run.{Run}
use Rattle.cluster_file.proofs.After.{beside_after, others_none, others_same, read_after}
use Rattle.cluster_file.proofs.Going.{seen_stands, stands_old, well_lost}
use Rattle.cluster_file.proofs.Laying.{lost_not}
use Rattle.cluster_file.proofs.Left.{left_given_up, left_made}
use Rattle.cluster_file.proofs.Looking.{IsByCalls}
use Rattle.cluster_file.proofs.Runs.{runs_stay}
use Rattle.cluster_file.proofs.Since.{change_elapses, given_comes, settled_still, tried_comes}
use Rattle.cluster_file.proofs.Torn.{torn_behind, torn_none}

-- a change of the zeros alone
module _ {C : Type 0} (cluster : Cluster C) (counts : CountsNow cluster) (counts_calls : CountsCalls cluster) (true_where : AreTrueWhere cluster) (by_calls : IsByCalls cluster)
    (old : ClusterFile C) (well : IsWell cluster old) (working : old.lost ≡ None) (head : Head) (size : ℕ) (same_end : head.end ≡ old.standing.head.end)
    (same_generation : head.generation ≡ old.standing.head.generation) (room : head.room ≡ old.room + size) where
  abbrev pub longer : ChangeFact
  longer = change_of old head []

  abbrev stood : Stand
  stood = cluster.stand old.cluster

  abbrev bytes : List ℕ
  bytes = (well.whole working).0

  had : HasBytes stood bytes
  had = (well.whole working).1

  head_is : stood.head ≡ old.standing.head
  head_is = (well.sound working).head

  has : (version : ℕ) → HasBytes (done_at version longer stood) bytes
  has version = (
    subst (λ (g : ℕ). Make (stood.pieces g) 0 bytes) (ap (λ (h : Head). h.generation) head_is ∙ sym same_generation) had.0,
    same_end ∙ sym (ap (λ (h : Head). h.end) head_is) ∙ had.1,
  )

  -- what a read returned, and so many zeros
  next_is : file_of (done_at 0 longer stood) ≡ seen_of cluster old ++ replicate size 0
  next_is =
      let here = bytes_made (done_at 0 longer stood) bytes (has 0) in
      let was = bytes_made stood bytes had in
      let none = (well.synced working).none in
      ap (λ (b : List ℕ). b ++ replicate head.room 0) (here ∙ sym was)
      ∙ ap (λ (n : ℕ). bytes_of stood ++ replicate n 0) room
      ∙ ap (λ (l : List ℕ). bytes_of stood ++ l) (sym (replicate-append-replicate old.room size 0))
      ∙ sym (append_assoc (bytes_of stood) (replicate old.room 0) (replicate size 0))
      ∙ ap (λ (l : List ℕ). (bytes_of stood ++ (l ++ replicate old.room 0)) ++ replicate size 0) (sym none)

  generation_is : head.generation ≡ stood.head.generation
  generation_is = same_generation ∙ sym (ap (λ (h : Head). h.generation) head_is)

  torn_old : AreTrue (cluster.calls old.cluster) → (left : List ℕ) → left ≡ seen_of cluster old
      → (d : List ℕ) × leaves cluster old d × Torn (length (seen_of cluster old)) (replicate size 0) d left
  torn_old are left is =
      (left, stands_old cluster by_calls old well working are left is, torn_none (length (seen_of cluster old)) (replicate size 0) left)

  torn_next : AreTrue (cluster.calls old.cluster) → (left : List ℕ) → left ≡ seen_of cluster old ++ replicate size 0
      → (d : List ℕ) × leaves cluster old d × Torn (length (seen_of cluster old)) (replicate size 0) d left
  torn_next are left is = (
    seen_of cluster old,
    stands_old cluster by_calls old well working are (seen_of cluster old) refl,
    torn_behind (seen_of cluster old) (replicate size 0) left is,
  )

  torn_found : (left : List ℕ) → MayBeFound cluster old left → (d : List ℕ) × leaves cluster old d × Torn (length (seen_of cluster old)) (replicate size 0) d left
  torn_found left found = (left, inr found, torn_none (length (seen_of cluster old)) (replicate size 0) left)

  torn_so : AreTrue (cluster.calls old.cluster) → (left : List ℕ)
      → MayBeFound cluster old left ⊎ ((left ≡ file_of (done_at 0 longer stood)) × MayBeFound cluster old (file_of stood))
      → (d : List ℕ) × leaves cluster old d × Torn (length (seen_of cluster old)) (replicate size 0) d left
  torn_so are left (inl found) = torn_found left found
  torn_so are left (inr (is, found)) = torn_next are left (is ∙ next_is)

  module _ (new : ClusterFile C) (same : IsSameBut old new) (tried : IsTried cluster old new longer) (meanwhile : MayHaveMade cluster old.cluster new.cluster longer old.has_begun) where
    truth : AreTrue (cluster.calls new.cluster) → AreTrue (cluster.calls old.cluster)
    truth are = settle_true 30 longer tried.told (cluster.calls old.cluster) (cluster.calls new.cluster) tried.asked are

    true_now : AreTrue (cluster.calls old.cluster) → AreTrue (cluster.calls new.cluster)
    true_now are = settled_still 30 longer tried.told (cluster.calls old.cluster) (cluster.calls new.cluster) tried.asked are

    come_is : (left : List ℕ) → ComesBy (cluster.calls new.cluster) left → left ≡ file_of (done_at 0 longer stood)
    come_is left come = tried_comes cluster old new longer tried (by_calls old.cluster) left come

    read_same : new.read ≡ old.read
    read_same = ap (λ (f : ClusterFile C). f.read) same

    none_now : new.unsynced.items ≡ []
    none_now = ap (λ (f : ClusterFile C). f.unsynced.items) same ∙ (well.synced working).none

    first_of : (left : List ℕ) → MayBeFound cluster old left ⊎ ((left ≡ file_of (done_at 0 longer stood)) × MayBeFound cluster old (file_of stood))
        → (w : World) × cluster.may_be old.cluster w
    first_of left (inl (w, may, own, is)) = (w, may)
    first_of left (inr (is, (w, may, own, that))) = (w, may)

    torn_left : (left : List ℕ) → MayBeFound cluster old left ⊎ ((left ≡ file_of (done_at 0 longer stood)) × MayBeFound cluster old (file_of stood))
        → (d : List ℕ) × leaves cluster old d × Torn (length (seen_of cluster old)) (replicate size 0) d left
    torn_left left so = torn_so (true_where old.cluster (first_of left so).0 (first_of left so).1) left so

    -- WHERE IT WAS MADE

    module _ (made : IsMade cluster old new longer) (kept : new.lost ≡ None) where
      abbrev grown : ClusterFile C
      grown = record new { room = head.room }

      stand_is : file_of (cluster.stand new.cluster) ≡ file_of (done_at 0 longer stood)
      stand_is = ap file_of made.stand

      room_is : new.standing.head.room ≡ head.room
      room_is = ap (λ (h : Head). h.room) made.head

      grown_file : seen_of cluster grown ≡ file_of (cluster.stand new.cluster)
      grown_file =
          let now = bytes_of (cluster.stand new.cluster) in
          ap (λ (l : List ℕ). now ++ (l ++ replicate head.room 0)) none_now
          ∙ ap (λ (n : ℕ). now ++ replicate n 0) (sym (ap (λ (s : Stand). s.head.room) made.stand))

      pub grown_seen : seen_of cluster grown ≡ seen_of cluster old ++ replicate size 0
      grown_seen = grown_file ∙ stand_is ∙ next_is

      grown_whole : HasBytes (cluster.stand new.cluster) bytes
      grown_whole = subst (λ (s : Stand). HasBytes s bytes) (sym made.stand) (has new.standing.version)

      others : OthersStay stood (cluster.stand new.cluster)
      others = subst (λ (s : Stand). OthersStay stood s) (sym made.stand) (others_none stood new.standing.version longer generation_is refl)

      grown_well : IsWell cluster grown
      grown_well = record {
        sound = λ none.
            record { server = made.sound.server; version = made.sound.version; head = made.sound.head; settled = made.sound.settled; so = made.sound.so };
        whole = λ none. (bytes, grown_whole);
        synced = λ none. record { none = none_now; room = sym room_is };
        beside = λ none. beside_after cluster old grown others (ap (λ (f : ClusterFile C). f.next) same) (well.beside working);
        run = λ none.
            subst (λ (r : Run). IsRunOf (cluster.stand new.cluster) r) (sym (ap (λ (f : ClusterFile C). f.run) same))
            (runs_stay stood (cluster.stand new.cluster) old.run others
            (ap (λ (s : Stand). s.head.end) made.stand ∙ same_end ∙ sym (ap (λ (h : Head). h.end) head_is)) (well.run working));
        read = read_after cluster old grown truth others
            (let before = ap (λ (h : Head). h.end) head_is in let now = ap (λ (s : Stand). s.head.end) made.stand in omega (arith, before, now, same_end))
            (ap (λ (f : ClusterFile C). f.starts) same) (ap (λ (f : ClusterFile C). f.known) same) (ap (λ (f : ClusterFile C). f.piece) same) well.read;
      }

      grown_time : Elapses (cluster.moment old.cluster) (cluster.moment new.cluster) (has_left cluster old) (has_left cluster grown) (leaves cluster grown)
      grown_time =
          change_elapses cluster counts true_where old longer (well.sound working) refl bytes bytes had (has 0) counts_calls (by_calls old.cluster) grown
          read_same 30 tried.told tried.asked meanwhile
          (λ are. inl (inl (sym stand_is ∙ ap file_of (by_calls new.cluster)), true_now are))

      pub grown_goes : GoesOn cluster old grown
      grown_goes = record { well = grown_well; truth = truth; time = grown_time; lost = λ was. absurd (lost_not old.lost was working) }

      pub grown_crash : ComesOfStep (Torn (length (seen_of cluster old)) (replicate size 0)) (leaves cluster old) (leaves cluster grown)
      grown_crash left (inl (inl is, are)) = torn_next (truth are) left (is ∙ ap file_of (sym (by_calls new.cluster)) ∙ stand_is ∙ next_is)
      grown_crash left (inl (inr come, are)) = torn_next (truth are) left (come_is left come ∙ next_is)
      grown_crash left (inr found) =
          torn_left left (left_made cluster old new longer (well.sound working) read_same refl bytes bytes had (has 0) made left found)

    -- OR IT IS GIVEN UP

    module _ (given : IsGivenUp cluster old new longer) where
      abbrev lost_grown : ClusterFile C
      lost_grown = record new { room = head.room }

      lost_time : Elapses (cluster.moment old.cluster) (cluster.moment new.cluster) (has_left cluster old) (has_left cluster lost_grown) (leaves cluster lost_grown)
      lost_time =
          change_elapses cluster counts true_where old longer (well.sound working) refl bytes bytes had (has 0) counts_calls (by_calls old.cluster) lost_grown read_same
          30 tried.told tried.asked meanwhile (λ are. inl (inr (given_comes cluster old new longer tried given.lost (by_calls old.cluster)), true_now are))

      pub lost_goes : GoesOn cluster old lost_grown
      lost_goes = record {
        well = well_lost cluster lost_grown given.lost
            (read_after cluster old lost_grown truth (others_same stood (cluster.stand new.cluster) given.stand)
            (let end = ap (λ (s : Stand). s.head.end) given.stand in omega (arith, end))
            (ap (λ (f : ClusterFile C). f.starts) same) (ap (λ (f : ClusterFile C). f.known) same) (ap (λ (f : ClusterFile C). f.piece) same) well.read);
        truth = truth;
        time = lost_time;
        lost = λ was. absurd (lost_not old.lost was working);
      }

      pub lost_crash : ComesOfStep (Torn (length (seen_of cluster old)) (replicate size 0)) (leaves cluster old) (leaves cluster lost_grown)
      lost_crash left (inl (inl is, are)) =
          torn_old (truth are) left
          (is ∙ ap file_of (sym (by_calls new.cluster) ∙ given.stand) ∙ sym (seen_stands cluster old (well.sound working) (well.synced working)))
      lost_crash left (inl (inr come, are)) = torn_next (truth are) left (come_is left come ∙ next_is)
      lost_crash left (inr found) =
          torn_left left (left_given_up cluster old new longer (well.sound working) read_same refl bytes bytes had (has 0) given left found)
