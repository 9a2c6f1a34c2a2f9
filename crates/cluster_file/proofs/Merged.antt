-- One piece takes the place of a run.
use Rattle.std.proofs.Common.{◌≡◌, inl, inr, ◌<◌, ◌≤◌, ◌+◌, ◌++◌, ◌∙◌, ℕ, Bool, true, false, List, [], ◌∷◌, append_assoc, length, length-append, take, refl, sym, ap, subst, arith}
use Rattle.std.proofs.lemmas.Bool.{eq-eqb}
use Rattle.std.specs.Global.{Vec}
use Rattle.std.specs.Prelude.{Option, None, Some, Result, Ok, Err, OnErr, OnOk, option_to_list, ◌==◌, ◌&&◌, if◌then◌else◌}
use Rattle.batch_file.specs.Crashes.{Elapses}
use Rattle.batch_file.specs.declared.device.DeviceFault.{DeviceFault}
use Rattle.etcd_cluster.specs.Bytes.{HasBytes, Make, file_of, laid, none, one_more}
use Rattle.etcd_cluster.specs.Calls.{AreTrue}
use Rattle.etcd_cluster.specs.Stands.{ChangeFact, Clears, Lays, Pieces, Stand, all_written, done_at, written}
use Rattle.etcd_cluster.specs.declared.change.Head.{Head}
use Rattle.etcd_cluster.specs.declared.change.Piece.{Piece}
use Rattle.etcd_cluster.specs.declared.cluster.Cluster.{Ghosts as Cluster}
use Rattle.etcd_cluster.proofs.Made.{laid_made, made_longer}
use Rattle.etcd_cluster.proofs.True.{settle_true}
use Rattle.cluster_file.specs.Devices.{GoesOn, IsBeside, IsWell, KeepsSeen, has_left, leaves}
use Rattle.cluster_file.specs.Files.{AsServer, CountsSame, IsGivenUp, IsMade, IsSameBut, IsSound, IsTried, MayHaveMade, change_of, next_of, seen_of}
use Rattle.cluster_file.specs.Moments.{AreTrueWhere, CountsCalls, CountsNow}
use Rattle.cluster_file.specs.Places.{IsHeld, IsRead, IsReadTo, SideBySide, besides, counted, ends, goes_on}
use Rattle.cluster_file.specs.Runs.{IsMerged, IsRunTo, merge_writes}
use Rattle.cluster_file.specs.declared.beside.NextFile.{NextFile}
use Rattle.cluster_file.specs.declared.file.ClusterFile.{ClusterFile}
use Rattle.cluster_file.specs.declared.merging.Run.{Run}
use Rattle.cluster_file.proofs.After.{beside_below, clear_keeps, lay_keeps, one_below}
use Rattle.cluster_file.proofs.Dropping.{goes_then, seen_then}
use Rattle.cluster_file.proofs.Going.{well_lost}
use Rattle.cluster_file.proofs.Kept.{file_same, given_seen, keeps_written, made_seen}
use Rattle.cluster_file.proofs.Laying.{lost_not}
use Rattle.cluster_file.proofs.Looking.{IsByCalls}
use Rattle.cluster_file.proofs.Noting.{run_none}
use Rattle.cluster_file.proofs.Places.{beside_still, one_of_last}
use Rattle.cluster_file.proofs.Proceeding.{given_no_more, made_no_more}
use Rattle.cluster_file.proofs.Reading.{made_still}
use Rattle.cluster_file.proofs.Since.{change_elapses, settled_still}

-- PIECES

made_both : (pieces : ℕ → Option (List ℕ)) (at : ℕ) (first second : List ℕ) → Make pieces at first → Make pieces (at + length first) second → Make pieces at (first ++ second)
made_both pieces at first second (none _) then_made =
    subst (λ (n : ℕ). Make pieces n second) (omega arith) then_made
made_both pieces at first second (one_more _ piece rest is long later) then_made =
    let whole = length-append piece rest in
    subst (λ (l : List ℕ). Make pieces at l) (sym (append_assoc piece rest second))
    (one_more at piece (rest ++ second) is long
    (made_both pieces (at + length piece) rest second later (subst (λ (n : ℕ). Make pieces n second) (omega (arith, whole)) then_made)))

-- those before it stay
before_stays : (pieces : Pieces) (head : Head) (start : ℕ) (bytes : List ℕ) (p : ℕ) (piece : List ℕ) → p < start → pieces head.generation p ≡ Some piece
    → all_written (merge_writes head start bytes) pieces head.generation p ≡ Some piece
before_stays pieces head start bytes p piece below is =
    lay_keeps (written (Clears head.generation (start + 1) head.end) pieces) head.generation start head.generation p bytes piece (λ here there. omega (arith, below, there))
    (clear_keeps pieces head.generation (start + 1) head.end head.generation p piece (λ here from to. omega (arith, below, from)) is)

-- and those of the next file
beside_stays : (pieces : Pieces) (head : Head) (start : ℕ) (bytes : List ℕ) (p : ℕ) (piece : List ℕ) → pieces (head.generation + 1) p ≡ Some piece
    → all_written (merge_writes head start bytes) pieces (head.generation + 1) p ≡ Some piece
beside_stays pieces head start bytes p piece is =
    lay_keeps (written (Clears head.generation (start + 1) head.end) pieces) head.generation start (head.generation + 1) p bytes piece (λ here there. omega (arith, here))
    (clear_keeps pieces head.generation (start + 1) head.end (head.generation + 1) p piece (λ here from to. omega (arith, here)) is)

there_is : (b c : Bool) (bytes : List ℕ) (other : Option (List ℕ)) → b ≡ true → c ≡ true → (if b && c then Some bytes else other) ≡ Some bytes
there_is true true bytes other one two = refl
there_is true false bytes other one two = cc
there_is false c bytes other one two = cc

made_before : (pieces : Pieces) (head : Head) (start : ℕ) (bytes : List ℕ) (at : ℕ) (front : List ℕ) → at + length front ≤ start → Make (pieces head.generation) at front
    → Make (all_written (merge_writes head start bytes) pieces head.generation) at front
made_before pieces head start bytes at front short (none _) = none at
made_before pieces head start bytes at front short (one_more _ piece rest is long later) =
    let whole = length-append piece rest in
    one_more at piece rest (before_stays pieces head start bytes at piece (omega (arith, short, whole, long)) is) long
    (made_before pieces head start bytes (at + length piece) rest (omega (arith, short, whole)) later)

merged_made : (pieces : Pieces) (head : Head) (start : ℕ) (bytes front : List ℕ) → length front ≡ start → 0 < length bytes → Make (pieces head.generation) 0 front
    → Make (all_written (merge_writes head start bytes) pieces head.generation) 0 (front ++ bytes)
merged_made pieces head start bytes front at long made =
    made_longer (all_written (merge_writes head start bytes) pieces head.generation) 0 front bytes
    (there_is (head.generation == head.generation) (0 + length front == start) bytes (written (Clears head.generation (start + 1) head.end) pieces head.generation (0 + length front))
    (eq-eqb head.generation head.generation refl) (eq-eqb (0 + length front) start (omega (arith, at))))
    long (made_before pieces head start bytes 0 front (omega (arith, at)) made)

-- THE NEXT FILE is as it was
module _ {C : Type 0} (cluster : Cluster C) (old new : ClusterFile C) (same : (p : ℕ) (piece : List ℕ) → besides cluster old p ≡ Some piece → besides cluster new p ≡ Some piece)
    (next : new.next ≡ old.next) where
  beside_as : (o : Option NextFile) → IsBeside cluster old o → IsBeside cluster new o
  beside_as None is = tt
  beside_as (Some file) is = record {
    bytes = is.bytes;
    made = made_still (besides cluster old) (besides cluster new) 0 is.bytes same is.made;
    size = is.size;
    starts = beside_still (besides cluster old) (besides cluster new) 0 file.starts.items file.laid same is.starts;
  }

  nexts_beside : IsBeside cluster old old.next → IsBeside cluster new new.next
  nexts_beside is = subst (λ (o : Option NextFile). IsBeside cluster new o) (sym next) (beside_as old.next is)

  beside_bytes : (pieces : ℕ → Option (List ℕ)) (n : ℕ) (bytes : List ℕ) → Make pieces 0 bytes → length bytes ≡ n → take n (laid n pieces 0) ≡ bytes
  beside_bytes pieces n bytes made size =
      subst (λ (k : ℕ). take k (laid n pieces 0) ≡ bytes) size (laid_made pieces n 0 bytes (omega (arith, size)) made)

  next_as : (o : Option NextFile) → IsBeside cluster old o → next_of cluster (record new { next = o }) ≡ next_of cluster (record old { next = o })
  next_as None is = refl
  next_as (Some file) is =
      let there = beside_bytes (besides cluster new) file.laid is.bytes (made_still (besides cluster old) (besides cluster new) 0 is.bytes same is.made) is.size in
      let here = beside_bytes (besides cluster old) file.laid is.bytes is.made is.size in
      ap (λ (l : List ℕ). Some (l ++ file.rest.items)) (there ∙ sym here)

  nexts_same : IsBeside cluster old old.next → next_of cluster new ≡ next_of cluster old
  nexts_same is = ap (λ (o : Option NextFile). next_of cluster (record new { next = o })) next ∙ next_as old.next is

-- A RUN IS MERGED
module _ {C : Type 0} (cluster : Cluster C) (counts : CountsNow cluster) (counts_calls : CountsCalls cluster) (true_where : AreTrueWhere cluster) (by_calls : IsByCalls cluster)
    (old new : ClusterFile C) (well : IsWell cluster old) (working : old.lost ≡ None) (run : Run) (stands : IsRunTo (counted cluster old) run (cluster.stand old.cluster).head.end)
    (some : 0 < length run.bytes.items) (few : old.known ≤ run.start) (empty : old.run.bytes.items ≡ []) (head : Head) (same_counts : CountsSame old.standing.head head)
    (same : IsSameBut old new) (tried : IsTried cluster old new (change_of old head (merge_writes head run.start run.bytes.items)))
    (meanwhile : MayHaveMade cluster old.cluster new.cluster (change_of old head (merge_writes head run.start run.bytes.items)) old.has_begun) where
  abbrev change : ChangeFact
  change = change_of old head (merge_writes head run.start run.bytes.items)

  abbrev after : ClusterFile C
  after = record old { cluster = new.cluster; standing = new.standing; has_begun = new.has_begun; lost = new.lost }

  sound : IsSound cluster old
  sound = well.sound working

  abbrev bytes : List ℕ
  bytes = stands.front.bytes ++ run.bytes.items

  generation : head.generation ≡ (cluster.stand old.cluster).head.generation
  generation = same_counts.2 ∙ sym (ap (λ (h : Head). h.generation) sound.head)

  size : length bytes ≡ (cluster.stand old.cluster).head.end
  size =
      let whole = length-append stands.front.bytes run.bytes.items in
      let front = stands.front.size in
      let ended = stands.ends in
      omega (arith, whole, front, ended)

  had : HasBytes (cluster.stand old.cluster) bytes
  had = (
    made_both (counted cluster old) 0 stands.front.bytes run.bytes.items stands.front.made
        (subst (λ (n : ℕ). Make (counted cluster old) n run.bytes.items) (let front = stands.front.size in omega (arith, front)) stands.rest),
    sym size,
  )

  has : HasBytes (done_at 0 change (cluster.stand old.cluster)) bytes
  has = (
    merged_made (cluster.stand old.cluster).pieces head run.start run.bytes.items stands.front.bytes stands.front.size some
        (subst (λ (g : ℕ). Make ((cluster.stand old.cluster).pieces g) 0 stands.front.bytes) (sym generation) stands.front.made),
    same_counts.0 ∙ sym (ap (λ (h : Head). h.end) sound.head) ∙ sym size,
  )

  truth : AreTrue (cluster.calls new.cluster) → AreTrue (cluster.calls old.cluster)
  truth are = settle_true 30 change tried.told (cluster.calls old.cluster) (cluster.calls new.cluster) tried.asked are

  true_now : AreTrue (cluster.calls old.cluster) → AreTrue (cluster.calls new.cluster)
  true_now are = settled_still 30 change tried.told (cluster.calls old.cluster) (cluster.calls new.cluster) tried.asked are

  time_by : (AreTrue (cluster.calls old.cluster) → leaves cluster new (file_of (done_at 0 change (cluster.stand old.cluster))))
      → Elapses (cluster.moment old.cluster) (cluster.moment new.cluster) (has_left cluster old) (has_left cluster new) (leaves cluster new)
  time_by comes =
      change_elapses cluster counts true_where old change sound refl bytes bytes had has counts_calls (by_calls old.cluster) new (ap (λ (f : ClusterFile C). f.read) same) 30
      tried.told tried.asked meanwhile comes

  same_file : file_of (done_at 0 change (cluster.stand old.cluster)) ≡ file_of (cluster.stand old.cluster)
  same_file = file_same cluster old new change sound (keeps_written old new same) refl bytes had same_counts has

  -- IT IS DONE
  module _ (made : IsMade cluster old new change) (still : new.lost ≡ None) where
    before_now : (p : ℕ) (piece : List ℕ) → p < run.start → counted cluster old p ≡ Some piece → counted cluster new p ≡ Some piece
    before_now p piece below is =
        subst (λ (s : Stand). s.pieces s.head.generation p ≡ Some piece) (sym made.stand)
        (before_stays (cluster.stand old.cluster).pieces head run.start run.bytes.items p piece below
        (subst (λ (g : ℕ). (cluster.stand old.cluster).pieces g p ≡ Some piece) (sym generation) is))

    beside_now : (p : ℕ) (piece : List ℕ) → besides cluster old p ≡ Some piece → besides cluster new p ≡ Some piece
    beside_now p piece is =
        subst (λ (s : Stand). s.pieces (s.head.generation + 1) p ≡ Some piece) (sym made.stand)
        (beside_stays (cluster.stand old.cluster).pieces head run.start run.bytes.items p piece
        (subst (λ (g : ℕ). (cluster.stand old.cluster).pieces (g + 1) p ≡ Some piece) (sym generation) is))

    held_now : (o : Option Piece) → IsReadTo cluster old → IsHeld cluster old o → IsHeld cluster after o
    held_now None read is = tt
    held_now (Some piece) read is =
        let below = one_below (counted cluster old) 0 old.starts.items old.known piece.at read.pieces is.1 in
        (before_now piece.at piece.bytes.items (omega (arith, below, few)) is.0, is.1)

    read_there : IsRead cluster after
    read_there are =
        let was = well.read (truth are) in
        let within = was.within in
        let end = ap (λ (s : Stand). s.head.end) made.stand ∙ same_counts.0 ∙ sym (ap (λ (h : Head). h.end) sound.head) in
        record {
          pieces = beside_below (counted cluster old) (counted cluster new) 0 old.starts.items old.known
              (λ p piece below is. before_now p piece (omega (arith, below, few)) is) was.pieces;
          within = omega (arith, within, end);
          held = held_now old.piece was was.held;
        }

    read_now : IsRead cluster new
    read_now = subst (λ (f : ClusterFile C). IsRead cluster f) (sym same) read_there

    merged_well : IsWell cluster new
    merged_well =
        let synced = well.synced working in
        let room = ap (λ (h : Head). h.room) made.head in
        record {
          sound = λ _. made.sound;
          whole = λ _. (bytes, subst (λ (s : Stand). HasBytes s bytes) (sym made.stand) has);
          synced = λ _. record {
            none = ap (λ (f : ClusterFile C). f.unsynced.items) same ∙ synced.none;
            room = ap (λ (f : ClusterFile C). f.room) same ∙ synced.room ∙ sym same_counts.1 ∙ sym room;
          };
          beside = λ _. nexts_beside cluster old new beside_now (ap (λ (f : ClusterFile C). f.next) same) (well.beside working);
          run = λ _. run_none (cluster.stand new.cluster) new.run (ap (λ (f : ClusterFile C). f.run.bytes.items) same ∙ empty);
          read = read_now;
        }

    pub merged_goes : GoesOn cluster old new
    merged_goes = record {
      well = merged_well;
      truth = truth;
      time = time_by (λ are. inl (inl (sym (ap file_of made.stand) ∙ ap file_of (by_calls new.cluster)), true_now are));
      lost = λ lost. absurd (lost_not old.lost lost working);
    }

    pub merged_seen : KeepsSeen cluster old new
    merged_seen = record {
      seen = made_seen cluster old new change sound (keeps_written old new same) refl bytes had same_counts has made;
      crash = made_no_more cluster counts counts_calls true_where by_calls old new sound change refl bytes had same_counts has same (keeps_written old new same) tried meanwhile made;
    }

    pub merged_next : next_of cluster new ≡ next_of cluster old
    merged_next = nexts_same cluster old new beside_now (ap (λ (f : ClusterFile C). f.next) same) (well.beside working)

  -- OR IT IS NOT
  module _ (given : IsGivenUp cluster old new change) where
    read_given : IsRead cluster after
    read_given are =
        let was = well.read (truth are) in
        record {
          pieces = subst (λ (s : Stand). SideBySide (s.pieces s.head.generation) 0 old.starts.items old.known) (sym given.stand) was.pieces;
          within = subst (λ (s : Stand). old.known ≤ s.head.end) (sym given.stand) was.within;
          held = held_given old.piece was.held;
        }
      where
        held_given : (o : Option Piece) → IsHeld cluster old o → IsHeld cluster after o
        held_given None is = tt
        held_given (Some piece) is = (subst (λ (s : Stand). s.pieces s.head.generation piece.at ≡ Some piece.bytes.items) (sym given.stand) is.0, is.1)

    read_lost : IsRead cluster new
    read_lost = subst (λ (f : ClusterFile C). IsRead cluster f) (sym same) read_given

    pub unmerged_goes : GoesOn cluster old new
    unmerged_goes = record {
      well = well_lost cluster new given.lost read_lost;
      truth = truth;
      time = time_by (λ are. inl (inl (same_file ∙ sym (ap file_of given.stand) ∙ ap file_of (by_calls new.cluster)), true_now are));
      lost = λ lost. absurd (lost_not old.lost lost working);
    }

    pub unmerged_seen : KeepsSeen cluster old new
    unmerged_seen = record {
      seen = given_seen cluster old new change sound (keeps_written old new same) refl bytes had same_counts has given;
      crash = given_no_more cluster counts counts_calls true_where by_calls old new sound change refl bytes had same_counts has same (keeps_written old new same) tried meanwhile given;
    }

    pub unmerged_next : next_of cluster new ≡ next_of cluster old
    unmerged_next =
        nexts_same cluster old new (λ p piece is. subst (λ (s : Stand). s.pieces (s.head.generation + 1) p ≡ Some piece) (sym given.stand) is)
        (ap (λ (f : ClusterFile C). f.next) same) (well.beside working)

-- WHAT IS KNOWN CHANGES, AND THE RUN
module _ {C : Type 0} (cluster : Cluster C) (old mid : ClusterFile C) (same : mid ≡ record old { piece = mid.piece; starts = mid.starts; known = mid.known; run = mid.run })
    (well : IsWell cluster old) (working : old.lost ≡ None) (read : IsRead cluster mid) (empty : mid.run.bytes.items ≡ []) where
  abbrev there : ClusterFile C
  there = record old { piece = mid.piece; starts = mid.starts; known = mid.known; run = mid.run }

  so_as : (begun : Bool) → AsServer cluster old begun → AsServer cluster there begun
  so_as true so = so
  so_as false so = so

  sound_there : IsSound cluster there
  sound_there =
      let sound = well.sound working in
      record { server = sound.server; version = sound.version; head = sound.head; settled = sound.settled; so = so_as old.has_begun sound.so }

  beside_there : (o : Option NextFile) → IsBeside cluster old o → IsBeside cluster there o
  beside_there None is = tt
  beside_there (Some file) is = record { bytes = is.bytes; made = is.made; size = is.size; starts = is.starts }

  to_there : IsWell cluster there → IsWell cluster mid
  to_there is = subst (λ (f : ClusterFile C). IsWell cluster f) (sym same) is

  pub forgot_well : IsWell cluster mid
  forgot_well =
      let synced = well.synced working in
      to_there (record {
        sound = λ _. sound_there;
        whole = λ _. well.whole working;
        synced = λ _. record { none = synced.none; room = synced.room };
        beside = λ _. beside_there old.next (well.beside working);
        run = λ _. run_none (cluster.stand old.cluster) mid.run empty;
        read = subst (λ (f : ClusterFile C). IsRead cluster f) same read;
      })

  crash_there : (left : List ℕ) → leaves cluster there left → leaves cluster old left
  crash_there left (inl stands) = inl stands
  crash_there left (inr found) = inr found

  time_there : (t : ℕ) (left : List ℕ) → has_left cluster there t left → has_left cluster old t left
  time_there t left (inl stood) = inl stood
  time_there t left (inr found) = inr found

  time_here : (t : ℕ) (left : List ℕ) → has_left cluster old t left → has_left cluster there t left
  time_here t left (inl stood) = inl stood
  time_here t left (inr found) = inr found

  pub forgot_crash : (left : List ℕ) → leaves cluster mid left → leaves cluster old left
  forgot_crash = subst (λ (f : ClusterFile C). (left : List ℕ) → leaves cluster f left → leaves cluster old left) (sym same) crash_there

  elapses_there : Elapses (cluster.moment old.cluster) (cluster.moment old.cluster) (has_left cluster old) (has_left cluster there) (leaves cluster there)
  elapses_there = record { later = omega arith; nothing_else = λ t left le is. inl (time_there t left is); keeps = λ t left le is. time_here t left is }

  pub forgot_goes : GoesOn cluster old mid
  forgot_goes = record {
    well = forgot_well;
    truth = λ are. subst (λ (f : ClusterFile C). AreTrue (cluster.calls f.cluster)) same are;
    time = subst (λ (f : ClusterFile C). Elapses (cluster.moment old.cluster) (cluster.moment f.cluster) (has_left cluster old) (has_left cluster f) (leaves cluster f))
        (sym same) elapses_there;
    lost = λ lost. absurd (lost_not old.lost lost working);
  }

  pub forgot_seen : KeepsSeen cluster old mid
  forgot_seen = record { seen = ap (λ (f : ClusterFile C). seen_of cluster f) same; crash = forgot_crash }

  pub forgot_next : next_of cluster mid ≡ next_of cluster old
  forgot_next = ap (λ (f : ClusterFile C). next_of cluster f) same

-- WHAT IS KNOWN NO MORE
pub beside_last : (pieces : ℕ → Option (List ℕ)) (at : ℕ) (firsts : List ℕ) (last to : ℕ) → SideBySide pieces at (firsts ++ last ∷ []) to → SideBySide pieces at firsts last
beside_last pieces at [] last to (goes_on _ _ piece later is long on) = ends at
beside_last pieces at (first ∷ firsts) last to (goes_on _ _ piece later is long on) =
    goes_on at last piece firsts is long (beside_last pieces (at + length piece) firsts last to on)

pub last_below : (pieces : ℕ → Option (List ℕ)) (at : ℕ) (firsts : List ℕ) (last to : ℕ) → SideBySide pieces at (firsts ++ last ∷ []) to → last < to
last_below pieces at firsts last to beside = one_below pieces at (firsts ++ last ∷ []) to last beside (one_of_last last firsts)

pub read_unheld : {C : Type 0} (cluster : Cluster C) (file : ClusterFile C) → IsRead cluster file → IsRead cluster (record file { piece = None })
read_unheld cluster file read are = record { pieces = (read are).pieces; within = (read are).within; held = tt }

pub read_forgot : {C : Type 0} (cluster : Cluster C) (file : ClusterFile C) (starts : Vec ℕ) (start : ℕ) → file.piece ≡ None → file.starts.items ≡ starts.items ++ start ∷ []
    → IsRead cluster file → IsRead cluster (record file { starts = starts; known = start })
read_forgot cluster file starts start unheld items read are =
    let was = read are in
    let within = was.within in
    let pieces = subst (λ (l : List ℕ). SideBySide (counted cluster file) 0 l file.known) items was.pieces in
    let below = last_below (counted cluster file) 0 starts.items start file.known pieces in
    record {
      pieces = beside_last (counted cluster file) 0 starts.items start file.known pieces;
      within = omega (arith, within, below);
      held = subst (λ (o : Option Piece). IsHeld cluster (record file { starts = starts; known = start }) o) (sym unheld) tt;
    }

pub read_none : {C : Type 0} (cluster : Cluster C) (file : ClusterFile C) (starts : Vec ℕ) → file.piece ≡ None → starts.items ≡ []
    → IsRead cluster (record file { starts = starts; known = 0 })
read_none cluster file starts unheld items are = record {
  pieces = subst (λ (l : List ℕ). SideBySide (counted cluster file) 0 l 0) (sym items) (ends 0);
  within = omega arith;
  held = subst (λ (o : Option Piece). IsHeld cluster (record file { starts = starts; known = 0 }) o) (sym unheld) tt;
}

pub read_run : {C : Type 0} (cluster : Cluster C) (file : ClusterFile C) (run : Run) → IsRead cluster file → IsRead cluster (record file { run = run })
read_run {C} cluster file run read are = record { pieces = (read are).pieces; within = (read are).within; held = held file.piece (read are).held }
  where
    held : (o : Option Piece) → IsHeld cluster file o → IsHeld cluster (record file { run = run }) o
    held None is = tt
    held (Some piece) is = is

pub popped_one : (old new : List ℕ) (r : Option ℕ) (start : ℕ) → r ≡ Some start → old ≡ new ++ option_to_list r → old ≡ new ++ start ∷ []
popped_one old new r start is items = items ∙ ap (λ (o : Option ℕ). new ++ option_to_list o) is

-- ALL OF A MERGE: what is known of the run's pieces is forgotten, and then they are merged
module _ {C : Type 0} (cluster : Cluster C) (counts : CountsNow cluster) (counts_calls : CountsCalls cluster) (true_where : AreTrueWhere cluster) (by_calls : IsByCalls cluster)
    (old forgot new : ClusterFile C) (taken : Run) (bytes : Vec ℕ) (well : IsWell cluster old) (working : old.lost ≡ None) (some : 0 < length old.run.bytes.items)
    (forgot_same : forgot ≡ record old { piece = None; starts = forgot.starts; known = forgot.known }) (forgot_read : IsRead cluster forgot) (few : forgot.known ≤ old.run.start)
    (empty : taken.bytes.items ≡ []) (bytes_are : bytes.items ≡ forgot.run.bytes.items) where
  abbrev pub mid : ClusterFile C
  mid = record forgot { run = taken }

  mid_same : mid ≡ record old { piece = mid.piece; starts = mid.starts; known = mid.known; run = mid.run }
  mid_same =
      ap (λ (f : ClusterFile C). record f { run = taken }) forgot_same
      ∙ ap (λ (o : Option Piece). record old { piece = o; starts = forgot.starts; known = forgot.known; run = taken }) (sym (ap (λ (f : ClusterFile C). f.piece) forgot_same))

  pub mid_working : mid.lost ≡ None
  mid_working = ap (λ (f : ClusterFile C). f.lost) forgot_same ∙ working

  mid_read : IsRead cluster mid
  mid_read = read_run cluster forgot taken forgot_read

  pub mid_well : IsWell cluster mid
  mid_well = forgot_well cluster old mid mid_same well working mid_read empty

  abbrev run : Run
  run = record old.run { bytes = bytes }

  bytes_old : bytes.items ≡ old.run.bytes.items
  bytes_old = bytes_are ∙ ap (λ (f : ClusterFile C). f.run.bytes.items) forgot_same

  stands_old : IsRunTo (counted cluster old) run (cluster.stand old.cluster).head.end
  stands_old =
      let was = well.run working some in
      let size = ap (λ (l : List ℕ). length l) bytes_old in
      let ended = was.ends in
      record {
        front = was.front;
        rest = subst (λ (l : List ℕ). Make (counted cluster old) old.run.start l) (sym bytes_old) was.rest;
        ends = omega (arith, size, ended);
      }

  stands : IsRunTo (counted cluster mid) run (cluster.stand mid.cluster).head.end
  stands = subst (λ (f : ClusterFile C). IsRunTo (counted cluster f) run (cluster.stand f.cluster).head.end) (sym mid_same) stands_old

  bytes_some : 0 < length bytes.items
  bytes_some = let size = ap (λ (l : List ℕ). length l) bytes_old in omega (arith, size, some)

  module _ (head : Head) (same_counts : CountsSame mid.standing.head head) (same : IsSameBut mid new) (laid_bytes : List ℕ) (laid_are : laid_bytes ≡ bytes.items)
      (was_tried : IsTried cluster mid new (change_of mid head (merge_writes head old.run.start laid_bytes)))
      (was_meanwhile : MayHaveMade cluster mid.cluster new.cluster (change_of mid head (merge_writes head old.run.start laid_bytes)) mid.has_begun)
      (r : Result (Unit {0}) DeviceFault) (was_made : OnOk r (IsMade cluster mid new (change_of mid head (merge_writes head old.run.start laid_bytes))))
      (kept : OnOk r (new.lost ≡ None)) (was_given : OnErr r (IsGivenUp cluster mid new (change_of mid head (merge_writes head old.run.start laid_bytes)))) where
    tried : IsTried cluster mid new (change_of mid head (merge_writes head old.run.start bytes.items))
    tried = subst (λ (l : List ℕ). IsTried cluster mid new (change_of mid head (merge_writes head old.run.start l))) laid_are was_tried

    meanwhile : MayHaveMade cluster mid.cluster new.cluster (change_of mid head (merge_writes head old.run.start bytes.items)) mid.has_begun
    meanwhile = subst (λ (l : List ℕ). MayHaveMade cluster mid.cluster new.cluster (change_of mid head (merge_writes head old.run.start l)) mid.has_begun) laid_are was_meanwhile

    made : OnOk r (IsMade cluster mid new (change_of mid head (merge_writes head old.run.start bytes.items)))
    made = subst (λ (l : List ℕ). OnOk r (IsMade cluster mid new (change_of mid head (merge_writes head old.run.start l)))) laid_are was_made

    given : OnErr r (IsGivenUp cluster mid new (change_of mid head (merge_writes head old.run.start bytes.items)))
    given = subst (λ (l : List ℕ). OnErr r (IsGivenUp cluster mid new (change_of mid head (merge_writes head old.run.start l)))) laid_are was_given

    goes_by : (r : Result (Unit {0}) DeviceFault) → OnOk r (IsMade cluster mid new (change_of mid head (merge_writes head old.run.start bytes.items))) → OnOk r (new.lost ≡ None)
        → OnErr r (IsGivenUp cluster mid new (change_of mid head (merge_writes head old.run.start bytes.items))) → GoesOn cluster mid new
    goes_by (Ok done) is_made still _ =
        merged_goes cluster counts counts_calls true_where by_calls mid new mid_well mid_working run stands bytes_some few empty head same_counts same tried meanwhile is_made still
    goes_by (Err fault) _ _ is_given =
        unmerged_goes cluster counts counts_calls true_where by_calls mid new mid_well mid_working run stands bytes_some few empty head same_counts same tried meanwhile is_given

    seen_by : (r : Result (Unit {0}) DeviceFault) → OnOk r (IsMade cluster mid new (change_of mid head (merge_writes head old.run.start bytes.items))) → OnOk r (new.lost ≡ None)
        → OnErr r (IsGivenUp cluster mid new (change_of mid head (merge_writes head old.run.start bytes.items))) → KeepsSeen cluster mid new
    seen_by (Ok done) is_made still _ =
        merged_seen cluster counts counts_calls true_where by_calls mid new mid_well mid_working run stands bytes_some few empty head same_counts same tried meanwhile is_made still
    seen_by (Err fault) _ _ is_given =
        unmerged_seen cluster counts counts_calls true_where by_calls mid new mid_well mid_working run stands bytes_some few empty head same_counts same tried meanwhile is_given

    next_by : (r : Result (Unit {0}) DeviceFault) → OnOk r (IsMade cluster mid new (change_of mid head (merge_writes head old.run.start bytes.items))) → OnOk r (new.lost ≡ None)
        → OnErr r (IsGivenUp cluster mid new (change_of mid head (merge_writes head old.run.start bytes.items))) → next_of cluster new ≡ next_of cluster mid
    next_by (Ok done) is_made still _ =
        merged_next cluster counts counts_calls true_where by_calls mid new mid_well mid_working run stands bytes_some few empty head same_counts same tried meanwhile is_made still
    next_by (Err fault) _ _ is_given =
        unmerged_next cluster counts counts_calls true_where by_calls mid new mid_well mid_working run stands bytes_some few empty head same_counts same tried meanwhile is_given

    pub merge_goes : GoesOn cluster old new
    merge_goes =
        goes_then cluster counts old mid new (forgot_seen cluster old mid mid_same well working mid_read empty) (forgot_goes cluster old mid mid_same well working mid_read empty)
        (goes_by r made kept given)

    pub merge_seen : KeepsSeen cluster old new
    merge_seen = seen_then cluster old mid new (forgot_seen cluster old mid mid_same well working mid_read empty) (seen_by r made kept given)

    pub merge_next : next_of cluster new ≡ next_of cluster old
    merge_next = next_by r made kept given ∙ forgot_next cluster old mid mid_same well working mid_read empty

-- what was sent for it
pub is_merged : {C : Type 0} (cluster : Cluster C) (old new : ClusterFile C) (stand : Stand) (head : Head) (bytes : List ℕ) → stand ≡ cluster.stand old.cluster
    → CountsSame old.standing.head head → bytes ≡ old.run.bytes.items
    → ((g p : ℕ) → (cluster.stand new.cluster).pieces g p ≡ all_written (merge_writes head old.run.start bytes) stand.pieces g p) → IsMerged cluster old new
is_merged cluster old new stand head bytes is counts same made g p =
    made g p
    ∙ ap (λ (s : Stand). all_written (merge_writes head old.run.start bytes) s.pieces g p) is
    ∙ ap (λ (l : List ℕ). all_written (merge_writes head old.run.start l) (cluster.stand old.cluster).pieces g p) same
    ∙ ap (λ (n : ℕ). all_written (Clears n (old.run.start + 1) head.end ∷ Lays n old.run.start old.run.bytes.items ∷ []) (cluster.stand old.cluster).pieces g p) counts.2
    ∙ ap (λ (n : ℕ). all_written (Clears old.standing.head.generation (old.run.start + 1) n ∷ Lays old.standing.head.generation old.run.start old.run.bytes.items ∷ [])
    (cluster.stand old.cluster).pieces g p) counts.0
