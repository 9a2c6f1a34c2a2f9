-- The last piece of what was written is put there, or may be.
use Rattle.std.proofs.Common.{◌≡◌, ◌⊎◌, inl, inr, ◌<◌, ◌≤◌, ◌+◌, ◌-◌, ◌++◌, ◌∙◌, ℕ, List, [], ◌∷◌, length, length-append, take, drop, refl, sym, ap, subst, arith}
use Rattle.std.proofs.lemmas.Bool.{eq-eqb}
use Rattle.std.proofs.lemmas.List.{drop-take, length-take-le}
use Rattle.std.specs.Global.{Vec}
use Rattle.std.specs.Prelude.{Bool, Option, Some, ◌==◌, false, replicate, true}
use Rattle.batch_file.specs.Crashes.{Only}
use Rattle.etcd_cluster.specs.Bytes.{HasBytes, Make, file_of}
use Rattle.etcd_cluster.specs.Calls.{AreTrue, stand_by}
use Rattle.etcd_cluster.specs.Leading.{IsLed}
use Rattle.etcd_cluster.specs.Stands.{ChangeFact, Stand, done_at}
use Rattle.etcd_cluster.specs.Worlds.{Begun}
use Rattle.etcd_cluster.specs.declared.change.Head.{Head}
use Rattle.etcd_cluster.specs.declared.cluster.Cluster.{Ghosts as Cluster}
use Rattle.etcd_cluster.specs.declared.settling.SettleFault.{SettleFault}
use Rattle.etcd_cluster.proofs.True.{settle_true}
use Rattle.cluster_file.specs.Devices.{KeepsReading, LeavesOrSeen, Proceeds, has_left, leaves}
use Rattle.cluster_file.specs.Files.{ComesBy, IsGivenUp, IsMade, IsMadeBy, IsNotMade, IsSent, IsSoleBy, IsSound, IsTried, KeepsWritten, MayHaveMade, last_writes, may_leave_of, piece_of, seen_of}
use Rattle.cluster_file.specs.Moments.{AreTrueWhere, CountsCalls, CountsNow, only_true_of}
use Rattle.cluster_file.specs.Places.{OthersStay}
use Rattle.cluster_file.specs.Runs.{IsLastAt, IsRunOf, IsRunTo}
use Rattle.cluster_file.specs.declared.file.ClusterFile.{ClusterFile}
use Rattle.cluster_file.specs.declared.merging.Run.{Run}
use Rattle.cluster_file.proofs.After.{others_laid, others_none, others_same}
use Rattle.cluster_file.proofs.Laid.{made_kept, put_there}
use Rattle.cluster_file.proofs.Laying.{piece_long}
use Rattle.cluster_file.proofs.Left.{none_some}
use Rattle.cluster_file.proofs.Looking.{IsByCalls}
use Rattle.cluster_file.proofs.Proceeding.{proceeds_same}
use Rattle.cluster_file.proofs.Runs.{run_below, runs_stay}
use Rattle.cluster_file.proofs.Since.{change_elapses, given_comes, settled_longer, settled_still, some_is, tried_comes}
use Rattle.cluster_file.proofs.Synced.{final_only, last, last_has, last_seen, new_file, not_crash}

-- no other piece is changed
pub others_last : (stand : Stand) (version after place : ℕ) (head : Head) (piece : List ℕ) → head.generation ≡ stand.head.generation → stand.head.end ≤ place
    → OthersStay stand (done_at version (record { after = after; head = head; writes = last_writes head place piece }) stand)
others_last stand version after place head [] same behind =
    others_none stand version (record { after = after; head = head; writes = [] }) same refl
others_last stand version after place head (byte ∷ piece) same behind =
    others_laid stand version (record { after = after; head = head; writes = last_writes head place (byte ∷ piece) }) place (byte ∷ piece) same refl behind

-- it is given up, and nothing was sent
pub lose_proceeds_any : {C : Type 0} (cluster : Cluster C) (old : ClusterFile C) (lost : Option SettleFault) → Proceeds cluster old (record old { lost = lost })
lose_proceeds_any {C} cluster old lost = record {
  truth = λ are. are;
  time = record { later = omega arith; nothing_else = λ t left le is. since t left is; keeps = λ t left le is. keep t left is };
  others = others_same (cluster.stand old.cluster) (cluster.stand old.cluster) refl;
  longer = omega arith;
  reading = record { starts = refl; known = refl; piece = refl; next = refl; read = refl };
  run = λ is. is;
}
  where
    since : (t : ℕ) (left : List ℕ) → has_left cluster (record old { lost = lost }) t left → has_left cluster old t left ⊎ leaves cluster (record old { lost = lost }) left
    since t left (inl stood) = inl (inl stood)
    since t left (inr found) = inl (inr found)

    keep : (t : ℕ) (left : List ℕ) → has_left cluster old t left → has_left cluster (record old { lost = lost }) t left
    keep t left (inl stood) = inl stood
    keep t left (inr found) = inr found

-- what was written from there on, up to there
pub drop_cut : (from to : ℕ) (l : List ℕ) → from ≤ to → drop from (take to l) ≡ take (to - from) (drop from l)
drop_cut from to l ordered =
    let sum : to ≡ from + (to - from) = omega (arith, ordered) in
    ap (λ (n : ℕ). drop from (take n l)) sum ∙ drop-take from (to - from) l

-- where the last piece is put
last_at : (stand : Stand) (version after place : ℕ) (head : Head) (piece writes whole : List ℕ) → piece ≡ writes → 0 < length piece → place ≡ length whole
    → head.end ≡ place + length piece → Make (stand.pieces head.generation) 0 whole
    → IsLastAt (done_at version (record { after = after; head = head; writes = last_writes head place writes }) stand) place piece
last_at stand version after place head piece [] whole is some at end made =
    let none = ap (λ (l : List ℕ). length l) is in absurd (omega (arith, none, some))
last_at stand version after place head piece (byte ∷ more) whole is some at end made = record {
  front = record {
    bytes = whole;
    made = made_kept stand.pieces head.generation place (byte ∷ more) whole (omega (arith, at)) made;
    size = sym at;
  };
  is = put_there (head.generation == head.generation) (place == place) (byte ∷ more) (stand.pieces head.generation place) (eq-eqb head.generation head.generation refl)
      (eq-eqb place place refl) ∙ ap (λ (l : List ℕ). Some l) (sym is);
  ends = sym end;
}

module _ {C : Type 0} (cluster : Cluster C) (counts : CountsNow cluster) (counts_calls : CountsCalls cluster) (true_where : AreTrueWhere cluster) (by_calls : IsByCalls cluster)
    (old : ClusterFile C) (sound : IsSound cluster old) (head : Head) (place from to : ℕ) (within : to ≤ length old.unsynced.items)
    (ordered : from ≤ to) (at : place ≡ old.standing.head.end + from) (generation : head.generation ≡ old.standing.head.generation)
    (end : head.end ≡ old.standing.head.end + to) (bytes : List ℕ) (has : HasBytes (cluster.stand old.cluster) bytes)
    (made : Make ((cluster.stand old.cluster).pieces (cluster.stand old.cluster).head.generation) 0 (bytes ++ take from old.unsynced.items)) where
  abbrev putting : ChangeFact
  putting = last cluster old sound head place from to within ordered at generation end bytes has made

  abbrev next : List ℕ
  next = file_of (done_at 0 putting (cluster.stand old.cluster))

  has_next : HasBytes (done_at 0 putting (cluster.stand old.cluster)) (bytes ++ take to old.unsynced.items)
  has_next = last_has cluster old sound head place from to within ordered at generation end bytes has made

  -- no other piece is changed, and the last one ends where the head says
  pub put_others : (new : ClusterFile C) → IsMade cluster old new putting → OthersStay (cluster.stand old.cluster) (cluster.stand new.cluster)
  put_others new done =
      let far = ap (λ (h : Head). h.end) sound.head in
      subst (λ (s : Stand). OthersStay (cluster.stand old.cluster) s) (sym done.stand)
      (others_last (cluster.stand old.cluster) new.standing.version old.standing.version place head (piece_of old from to)
      (generation ∙ sym (ap (λ (h : Head). h.generation) sound.head)) (omega (arith, at, far)))

  pub put_run : (new : ClusterFile C) → IsMade cluster old new putting → (run : Run) → IsRunOf (cluster.stand old.cluster) run → from ≡ 0 → 0 < length run.bytes.items
      → IsRunTo ((cluster.stand new.cluster).pieces (cluster.stand new.cluster).head.generation) run place
  put_run new done run is none some =
      let far = ap (λ (h : Head). h.end) sound.head in
      let others = put_others new done in
      subst (λ (n : ℕ). IsRunTo ((cluster.stand new.cluster).pieces (cluster.stand new.cluster).head.generation) run n) (omega (arith, far, at, none))
      (run_below ((cluster.stand old.cluster).pieces (cluster.stand old.cluster).head.generation) ((cluster.stand new.cluster).pieces (cluster.stand new.cluster).head.generation) run
      (cluster.stand old.cluster).head.end (λ p piece below there. others.counted p piece below there) (is some))

  pub put_piece : (new : ClusterFile C) → IsMade cluster old new putting → (piece : List ℕ) → piece ≡ piece_of old from to → 0 < length piece
      → IsLastAt (cluster.stand new.cluster) place piece
  put_piece new done piece is some =
      let far = ap (λ (h : Head). h.end) sound.head in
      let items = old.unsynced.items in
      let count = length-append bytes (take from items) in
      let front = length-take-le from items (omega (arith, ordered, within)) in
      let long = piece_long from to items within in
      let size = ap (λ (l : List ℕ). length l) is in
      let ended = has.1 in
      let same : head.generation ≡ (cluster.stand old.cluster).head.generation = generation ∙ sym (ap (λ (h : Head). h.generation) sound.head) in
      let there : Make ((cluster.stand old.cluster).pieces head.generation) 0 (bytes ++ take from items) =
      subst (λ (g : ℕ). Make ((cluster.stand old.cluster).pieces g) 0 (bytes ++ take from items)) (sym same) made in
      subst (λ (s : Stand). IsLastAt s place piece) (sym done.stand)
      (last_at (cluster.stand old.cluster) new.standing.version old.standing.version place head piece (piece_of old from to) (bytes ++ take from items) is some
      (omega (arith, at, far, count, front, ended)) (omega (arith, end, at, size, long, ordered)) there)

  module _ (new : ClusterFile C) (reading : KeepsReading old new) (tried : IsTried cluster old new putting)
      (meanwhile : MayHaveMade cluster old.cluster new.cluster putting old.has_begun) where
    truth : AreTrue (cluster.calls new.cluster) → AreTrue (cluster.calls old.cluster)
    truth are = settle_true 30 putting tried.told (cluster.calls old.cluster) (cluster.calls new.cluster) tried.asked are

    true_now : AreTrue (cluster.calls old.cluster) → AreTrue (cluster.calls new.cluster)
    true_now are = settled_still 30 putting tried.told (cluster.calls old.cluster) (cluster.calls new.cluster) tried.asked are

    -- it was made, and noted
    pub put_proceeds : IsMade cluster old new putting → (room : ℕ) (u : Vec ℕ) (run : Run) → IsRunOf (cluster.stand new.cluster) run
        → Proceeds cluster old (record new { room = room; unsynced = u; run = run })
    put_proceeds done room u run stands =
        let far = ap (λ (h : Head). h.end) sound.head in
        let now = ap (λ (s : Stand). s.head.end) done.stand in
        record {
          truth = truth;
          time = change_elapses cluster counts true_where old putting sound refl bytes (bytes ++ take to old.unsynced.items) has has_next counts_calls (by_calls old.cluster)
              (record new { room = room; unsynced = u; run = run }) reading.read 30 tried.told tried.asked meanwhile
              (λ are. inl (inl (sym (ap file_of done.stand) ∙ ap file_of (by_calls new.cluster)), true_now are));
          others = put_others new done;
          longer = omega (arith, end, far, now);
          run = λ is. stands;
          reading = record { starts = reading.starts; known = reading.known; piece = reading.piece; next = reading.next; read = reading.read };
        }

    -- it is given up, and may come yet
    pub unput_proceeds : IsGivenUp cluster old new putting → KeepsWritten old new → Proceeds cluster old new
    unput_proceeds given kept =
        let same = ap (λ (s : Stand). s.head.end) given.stand in
        let others = others_same (cluster.stand old.cluster) (cluster.stand new.cluster) given.stand in
        record {
          truth = truth;
          time = change_elapses cluster counts true_where old putting sound refl bytes (bytes ++ take to old.unsynced.items) has has_next counts_calls (by_calls old.cluster) new
              reading.read 30 tried.told tried.asked meanwhile
              (λ are. inl (inr (given_comes cluster old new putting tried given.lost (by_calls old.cluster)), true_now are));
          others = others;
          longer = omega (arith, same);
          reading = reading;
          run = λ is. subst (λ (r : Run). IsRunOf (cluster.stand new.cluster) r) (sym kept.run)
              (runs_stay (cluster.stand old.cluster) (cluster.stand new.cluster) old.run others same is);
        }

  -- WHERE IT WAS SENT, OR NOT

  pub put_done : (new : ClusterFile C) → KeepsReading old new → IsSent cluster old new putting → IsMade cluster old new putting → (room : ℕ) (u : Vec ℕ) (run : Run)
      → IsRunOf (cluster.stand new.cluster) run → Proceeds cluster old (record new { room = room; unsynced = u; run = run })
  put_done new reading (inl same) done room u run stands =
      let version = ap (λ (f : ClusterFile C). f.standing.version) same in
      let later = done.later in
      absurd (omega (arith, version, later))
  put_done new reading (inr (tried, meanwhile)) done room u run stands = put_proceeds new reading tried meanwhile done room u run stands

  pub put_undone : (new : ClusterFile C) → KeepsReading old new → IsSent cluster old new putting → IsNotMade cluster old new putting → KeepsWritten old new
      → Proceeds cluster old new
  put_undone new reading (inl same) not kept = subst (λ (x : ClusterFile C). Proceeds cluster old x) (sym same) (proceeds_same cluster old)
  put_undone new reading (inr (tried, meanwhile)) (inl nothing) kept =
      let longer = settled_longer 30 putting tried.told (cluster.calls old.cluster) (cluster.calls new.cluster) tried.asked in
      let same = ap (λ (c : C). length (cluster.calls c)) nothing.cluster in
      absurd (omega (arith, longer, same))
  put_undone new reading (inr (tried, meanwhile)) (inr given) kept = unput_proceeds new reading tried meanwhile given kept

  -- what comes is what a read returned

  next_seen : drop to old.unsynced.items ≡ replicate (length old.unsynced.items - to) 0 → head.room ≡ old.room + (length old.unsynced.items - to)
      → next ≡ seen_of cluster old
  next_seen zeros room = last_seen cluster old sound head place from to within ordered at generation end bytes has made old.room zeros refl room

  sent_comes : (new : ClusterFile C) → IsSent cluster old new putting → (left : List ℕ) → ComesBy (cluster.calls new.cluster) left → left ≡ next
  sent_comes new (inl same) left comes = absurd (sound.settled left (subst (λ (x : ClusterFile C). ComesBy (cluster.calls x.cluster) left) same comes))
  sent_comes new (inr (tried, meanwhile)) left comes = tried_comes cluster old new putting tried (by_calls old.cluster) left comes

  -- what a crash leaves where it was not put there
  pub undone_crash : (new : ClusterFile C) → IsSent cluster old new putting → Proceeds cluster old new → IsNotMade cluster old new putting → KeepsWritten old new
      → drop to old.unsynced.items ≡ replicate (length old.unsynced.items - to) 0 → head.room ≡ old.room + (length old.unsynced.items - to) → LeavesOrSeen cluster old new
  undone_crash new sent on not kept zeros room left (inl (inl is, are)) =
      let same : stand_by (cluster.calls new.cluster) ≡ stand_by (cluster.calls old.cluster) =
      elim not [
        | inl nothing ↦ ap (λ (c : C). stand_by (cluster.calls c)) nothing.cluster
        | inr given ↦ sym (by_calls new.cluster) ∙ given.stand ∙ by_calls old.cluster
      ] in
      inl (inl (inl (is ∙ ap file_of same), on.truth are))
  undone_crash new sent on not kept zeros room left (inl (inr come, are)) = inr (sent_comes new sent left come ∙ next_seen zeros room, on.truth are)
  undone_crash new sent on not kept zeros room left (inr found) =
      by_left (not_crash cluster old sound head place from to within ordered at generation end bytes has made new kept zeros room not left (inr found))
    where
      by_left : may_leave_of cluster old left → leaves cluster old left ⊎ ((left ≡ seen_of cluster old) × AreTrue (cluster.calls old.cluster))
      by_left (inl sees) = inr (sees, on.truth (true_where new.cluster found.0 found.1))
      by_left (inr was) = inl (inr was)

  -- and where it was
  pub done_only : (new : ClusterFile C) (done : IsMade cluster old new putting) (zeros : drop to old.unsynced.items ≡ replicate (length old.unsynced.items - to) 0) (room : ℕ)
      (room_is : head.room ≡ room) (room_of : room ≡ old.room + (length old.unsynced.items - to)) (u : Vec ℕ) (none : u.items ≡ []) (run : Run)
      → Only (seen_of cluster old) (leaves cluster (record new { room = room; unsynced = u; run = run }))
  done_only new done zeros room room_is room_of u none run left (inl (inl is, are)) =
      is ∙ ap file_of (sym (by_calls new.cluster))
      ∙ new_file cluster old sound head place from to within ordered at generation end bytes has made new done zeros room room_is room_of u none run
  done_only new done zeros room room_is room_of u none run left (inl (inr come, are)) = absurd (done.sound.settled left come)
  done_only new done zeros room room_is room_of u none run left (inr found) =
      final_only cluster old sound head place from to within ordered at generation end bytes has made new done zeros room room_is room_of u none run left (inr found)

  pub done_crash : (new : ClusterFile C) (done : IsMade cluster old new putting) (zeros : drop to old.unsynced.items ≡ replicate (length old.unsynced.items - to) 0) (room : ℕ)
      (room_is : head.room ≡ room) (room_of : room ≡ old.room + (length old.unsynced.items - to)) (u : Vec ℕ) (none : u.items ≡ []) (run : Run)
      → Proceeds cluster old (record new { room = room; unsynced = u; run = run }) → LeavesOrSeen cluster old (record new { room = room; unsynced = u; run = run })
  done_crash new done zeros room room_is room_of u none run on left is =
      inr (
        done_only new done zeros room room_is room_of u none run left is,
        on.truth (only_true_of cluster true_where (record new { room = room; unsynced = u; run = run }) left is),
      )

-- nobody else had begun when it was put there
pub made_sole : {C : Type 0} (cluster : Cluster C) (old new : ClusterFile C) (change : ChangeFact) → IsMade cluster old new change → (t : ℕ) → t ≤ cluster.moment old.cluster
    → IsSoleBy cluster new.cluster t
made_sole cluster old new change made t le w may begun is = by_begun old.has_begun made.by
  where
    each : (stand : Stand) → IsLed (cluster.server old.cluster) (cluster.moment old.cluster) stand w → t ≤ begun.moment
    each stand (inl there) = absurd (none_some w.begun begun there.0 is)
    each stand (inr lost) =
        let one : lost.begun ≡ begun = some_is lost.begun begun (sym lost.is ∙ is) in
        let at = lost.at in
        let moment = ap (λ (b : Begun). b.moment) one in
        omega (arith, at, moment, le)

    by_begun : (b : Bool) → IsMadeBy cluster old.cluster new.cluster new.standing.version change b → t ≤ begun.moment
    by_begun true by = each _ (by w may).4
    by_begun false by = each _ (by w may).3
