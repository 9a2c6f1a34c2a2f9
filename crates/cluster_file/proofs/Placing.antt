-- The next file takes the place of a file, or may.
use Rattle.std.proofs.Common.{◌≡◌, ◌⊎◌, inl, inr, ◌+◌, ◌++◌, ◌∙◌, ℕ, List, [], ◌∷◌, length, take, refl, sym, ap, subst, arith}
use Rattle.std.specs.Global.{Vec}
use Rattle.std.specs.Prelude.{None, Option, replicate}
use Rattle.batch_file.specs.Crashes.{Elapses, Only}
use Rattle.etcd_cluster.specs.Bytes.{HasBytes, bytes_of, file_of, laid}
use Rattle.etcd_cluster.specs.Calls.{AreTrue}
use Rattle.etcd_cluster.specs.Stands.{ChangeFact, Clears, Stand, done_at, written}
use Rattle.etcd_cluster.specs.declared.change.Head.{Head}
use Rattle.etcd_cluster.specs.declared.cluster.Cluster.{Ghosts as Cluster}
use Rattle.etcd_cluster.proofs.Made.{bytes_made, made_again}
use Rattle.etcd_cluster.proofs.True.{settle_true}
use Rattle.cluster_file.specs.Devices.{GoesOn, IsBegun, IsBeside, IsWell, LeavesOrThis, has_left, leaves}
use Rattle.cluster_file.specs.Files.{IsGivenUp, IsMade, IsSameBut, IsTried, MayBeFound, MayHaveMade, change_of, seen_of, written_beside}
use Rattle.cluster_file.specs.Moments.{AreTrueWhere, CountsCalls, CountsNow}
use Rattle.cluster_file.specs.Places.{SideBySide}
use Rattle.cluster_file.specs.declared.beside.NextFile.{NextFile}
use Rattle.cluster_file.specs.declared.file.ClusterFile.{ClusterFile}
use Rattle.cluster_file.specs.declared.merging.Run.{Run}
use Rattle.cluster_file.proofs.After.{beside_below, others_same, read_after}
use Rattle.cluster_file.proofs.Besides.{counted_same}
use Rattle.cluster_file.proofs.Dropping.{beside_bytes}
use Rattle.cluster_file.proofs.Going.{well_lost}
use Rattle.cluster_file.proofs.Laying.{lost_not}
use Rattle.cluster_file.proofs.Left.{left_given_up, left_made, only_found}
use Rattle.cluster_file.proofs.Looking.{IsByCalls}
use Rattle.cluster_file.proofs.Since.{change_elapses, given_comes, settled_still, tried_comes}

-- the same pieces stand side by side
beside_same : (pieces others : ℕ → Option (List ℕ)) (at : ℕ) (starts : List ℕ) (to : ℕ) → ((p : ℕ) → others p ≡ pieces p) → SideBySide pieces at starts to
    → SideBySide others at starts to
beside_same pieces others at starts to same beside = beside_below pieces others at starts to (λ p piece below is. same p ∙ is) beside

module _ {C : Type 0} (cluster : Cluster C) (counts : CountsNow cluster) (counts_calls : CountsCalls cluster) (true_where : AreTrueWhere cluster) (by_calls : IsByCalls cluster)
    (old new : ClusterFile C) (well : IsWell cluster old) (working : old.lost ≡ None) (none : old.next ≡ None) (head : Head) (next : NextFile)
    (begun : IsBegun cluster old.cluster next) (zeros : next.rest.items ≡ replicate (length next.rest.items) 0) (generation : head.generation ≡ old.standing.head.generation + 1)
    (end : head.end ≡ next.laid) (room : head.room ≡ length next.rest.items) (same : IsSameBut old new)
    (tried : IsTried cluster old new (change_of old head (Clears old.standing.head.generation 0 0xffffffffffffffff ∷ [])))
    (meanwhile : MayHaveMade cluster old.cluster new.cluster (change_of old head (Clears old.standing.head.generation 0 0xffffffffffffffff ∷ [])) old.has_begun) where
  abbrev pub placing : ChangeFact
  placing = change_of old head (Clears old.standing.head.generation 0 0xffffffffffffffff ∷ [])

  abbrev stood : Stand
  stood = cluster.stand old.cluster

  abbrev bytes : List ℕ
  bytes = (well.whole working).0

  abbrev put : List ℕ
  put = written_beside cluster old.cluster next

  had : HasBytes stood bytes
  had = (well.whole working).1

  head_is : stood.head ≡ old.standing.head
  head_is = (well.sound working).head

  beside_is : stood.head.generation + 1 ≡ head.generation
  beside_is = let known = ap (λ (h : Head). h.generation) head_is in omega (arith, known, generation)

  apart : head.generation ≡ old.standing.head.generation → ⊥
  apart is = omega (arith, is, generation)

  now_is : (p : ℕ) → written (Clears old.standing.head.generation 0 0xffffffffffffffff) stood.pieces head.generation p ≡ stood.pieces (stood.head.generation + 1) p
  now_is p =
      counted_same stood.pieces head.generation (Clears old.standing.head.generation 0 0xffffffffffffffff) apart p
      ∙ ap (λ (g : ℕ). stood.pieces g p) (sym beside_is)

  has : (version : ℕ) → HasBytes (done_at version placing stood) begun.bytes
  has version = (
    made_again (stood.pieces (stood.head.generation + 1)) (written (Clears old.standing.head.generation 0 0xffffffffffffffff) stood.pieces head.generation) 0 begun.bytes
        (λ p below. now_is p) begun.made,
    end ∙ sym begun.size,
  )

  -- what stands there then
  placed : file_of (done_at 0 placing stood) ≡ put
  placed =
      let was : take next.laid (laid next.laid (stood.pieces (stood.head.generation + 1)) 0) ≡ begun.bytes =
      beside_bytes (stood.pieces (stood.head.generation + 1)) next.laid begun.bytes begun.made begun.size in
      ap (λ (b : List ℕ). b ++ replicate head.room 0) (bytes_made (done_at 0 placing stood) begun.bytes (has 0) ∙ sym was)
      ∙ ap (λ (n : ℕ). take next.laid (laid next.laid (stood.pieces (stood.head.generation + 1)) 0) ++ replicate n 0) room
      ∙ ap (λ (l : List ℕ). take next.laid (laid next.laid (stood.pieces (stood.head.generation + 1)) 0) ++ l) (sym zeros)

  before : AreTrue (cluster.calls new.cluster) → AreTrue (cluster.calls old.cluster)
  before are = settle_true 30 placing tried.told (cluster.calls old.cluster) (cluster.calls new.cluster) tried.asked are

  true_now : AreTrue (cluster.calls old.cluster) → AreTrue (cluster.calls new.cluster)
  true_now are = settled_still 30 placing tried.told (cluster.calls old.cluster) (cluster.calls new.cluster) tried.asked are

  read_same : new.read ≡ old.read
  read_same = ap (λ (f : ClusterFile C). f.read) same

  come_is : (left : List ℕ) → AreTrue (cluster.calls new.cluster) → left ≡ file_of (done_at 0 placing stood)
      → leaves cluster old left ⊎ ((left ≡ put) × AreTrue (cluster.calls old.cluster))
  come_is left are is = inr (is ∙ placed, before are)

  found_is : (left : List ℕ) → MayBeFound cluster old left ⊎ ((left ≡ file_of (done_at 0 placing stood)) × MayBeFound cluster old (file_of stood))
      → leaves cluster old left ⊎ ((left ≡ put) × AreTrue (cluster.calls old.cluster))
  found_is left (inl was) = inl (inr was)
  found_is left (inr (is, (w, may, own, that))) = inr (is ∙ placed, true_where old.cluster w may)

  -- IT WAS PUT THERE

  module _ (made : IsMade cluster old new placing) (starts u : Vec ℕ) (known : ℕ) (starts_is : starts.items ≡ next.starts.items) (known_is : known ≡ next.laid)
      (u_none : u.items ≡ []) (run : Run) (run_none : run.bytes.items ≡ []) where
    abbrev pub final : ClusterFile C
    final = record new { starts = starts; known = known; room = head.room; piece = None; unsynced = u; run = run }

    stand_file : file_of (cluster.stand new.cluster) ≡ put
    stand_file = ap file_of made.stand ∙ placed

    has_now : HasBytes (cluster.stand new.cluster) begun.bytes
    has_now = subst (λ (s : Stand). HasBytes s begun.bytes) (sym made.stand) (has new.standing.version)

    pub placed_seen : seen_of cluster final ≡ put
    placed_seen =
        let now = bytes_of (cluster.stand new.cluster) in
        ap (λ (l : List ℕ). now ++ (l ++ replicate head.room 0)) u_none
        ∙ ap (λ (n : ℕ). now ++ replicate n 0) (sym (ap (λ (s : Stand). s.head.room) made.stand))
        ∙ stand_file

    pub placed_only : Only put (leaves cluster final)
    placed_only left (inl (inl is, are)) = is ∙ ap file_of (sym (by_calls new.cluster)) ∙ stand_file
    placed_only left (inl (inr come, are)) = absurd (made.sound.settled left come)
    placed_only left (inr found) = only_found cluster new made.sound begun.bytes has_now made.begun left found ∙ stand_file

    pub placed_crash : LeavesOrThis cluster old final put
    placed_crash left (inl (inl is, are)) = inr (is ∙ ap file_of (sym (by_calls new.cluster)) ∙ stand_file, before are)
    placed_crash left (inl (inr come, are)) = absurd (made.sound.settled left come)
    placed_crash left (inr found) =
        found_is left (left_made cluster old new placing (well.sound working) read_same refl bytes begun.bytes had (has 0) made left found)

    pieces_now : (p : ℕ) → (cluster.stand new.cluster).pieces (cluster.stand new.cluster).head.generation p ≡ stood.pieces (stood.head.generation + 1) p
    pieces_now p = ap (λ (s : Stand). s.pieces s.head.generation p) made.stand ∙ now_is p

    placed_well : IsWell cluster final
    placed_well = record {
      sound = λ working.
          record { server = made.sound.server; version = made.sound.version; head = made.sound.head; settled = made.sound.settled; so = made.sound.so };
      whole = λ working. (begun.bytes, has_now);
      synced = λ working. record { none = u_none; room = sym (ap (λ (h : Head). h.room) made.head) };
      beside = λ working. subst (λ (o : Option NextFile). IsBeside cluster final o) (sym (ap (λ (f : ClusterFile C). f.next) same ∙ none)) tt;
      run = λ working some. let long = ap (λ (l : List ℕ). length l) run_none in absurd (omega (arith, some, long));
      read = λ are. record {
        pieces = subst (λ (l : List ℕ). SideBySide ((cluster.stand new.cluster).pieces (cluster.stand new.cluster).head.generation) 0 l known) (sym starts_is)
            (subst (λ (n : ℕ). SideBySide ((cluster.stand new.cluster).pieces (cluster.stand new.cluster).head.generation) 0 next.starts.items n) (sym known_is)
            (beside_same (stood.pieces (stood.head.generation + 1)) ((cluster.stand new.cluster).pieces (cluster.stand new.cluster).head.generation) 0 next.starts.items next.laid
            pieces_now begun.starts));
        within = (let far = ap (λ (s : Stand). s.head.end) made.stand in omega (arith, far, end, known_is));
        held = tt;
      };
    }

    placed_time : Elapses (cluster.moment old.cluster) (cluster.moment new.cluster) (has_left cluster old) (has_left cluster final) (leaves cluster final)
    placed_time =
        change_elapses cluster counts true_where old placing (well.sound working) refl bytes begun.bytes had (has 0) counts_calls (by_calls old.cluster) final read_same 30
        tried.told tried.asked meanwhile (λ are. inl (inl (sym (ap file_of made.stand) ∙ ap file_of (by_calls new.cluster)), true_now are))

    pub placed_goes : GoesOn cluster old final
    placed_goes = record { well = placed_well; truth = before; time = placed_time; lost = λ was. absurd (lost_not old.lost was working) }

  -- OR IT IS GIVEN UP

  module _ (given : IsGivenUp cluster old new placing) where
    pub unplaced_crash : LeavesOrThis cluster old new put
    unplaced_crash left (inl (inl is, are)) =
        inl (inl (inl (is ∙ ap file_of (sym (by_calls new.cluster) ∙ given.stand ∙ by_calls old.cluster)), before are))
    unplaced_crash left (inl (inr come, are)) = come_is left are (tried_comes cluster old new placing tried (by_calls old.cluster) left come)
    unplaced_crash left (inr found) =
        found_is left (left_given_up cluster old new placing (well.sound working) read_same refl bytes begun.bytes had (has 0) given left found)

    unplaced_time : Elapses (cluster.moment old.cluster) (cluster.moment new.cluster) (has_left cluster old) (has_left cluster new) (leaves cluster new)
    unplaced_time =
        change_elapses cluster counts true_where old placing (well.sound working) refl bytes begun.bytes had (has 0) counts_calls (by_calls old.cluster) new read_same 30
        tried.told tried.asked meanwhile (λ are. inl (inr (given_comes cluster old new placing tried given.lost (by_calls old.cluster)), true_now are))

    pub unplaced_goes : GoesOn cluster old new
    unplaced_goes = record {
      well = well_lost cluster new given.lost
          (read_after cluster old new before (others_same stood (cluster.stand new.cluster) given.stand)
          (let far = ap (λ (s : Stand). s.head.end) given.stand in omega (arith, far))
          (ap (λ (f : ClusterFile C). f.starts) same) (ap (λ (f : ClusterFile C). f.known) same) (ap (λ (f : ClusterFile C). f.piece) same) well.read);
      truth = before;
      time = unplaced_time;
      lost = λ was. absurd (lost_not old.lost was working);
    }
