-- The next file, begun, written and put in the place of a file.
use Rattle.std.proofs.Common.{◌≡◌, ◌⊎◌, inl, inr, ◌<◌, ◌≤◌, ◌+◌, ◌-◌, ◌++◌, ◌∙◌, ℕ, List, [], ◌∷◌, length, length-append, take, drop, append_assoc, refl, sym, ap, subst, arith}
use Rattle.std.proofs.lemmas.List.{drop-drop, length-drop, length-take-le, take-append-drop}
use Rattle.std.specs.Prelude.{None, Option, Some, is_some, replicate, true}
use Rattle.etcd_cluster.specs.Bytes.{Make, laid, none}
use Rattle.etcd_cluster.specs.Calls.{AreTrue}
use Rattle.etcd_cluster.specs.Stands.{Lays, written}
use Rattle.etcd_cluster.specs.declared.cluster.Cluster.{Ghosts as Cluster}
use Rattle.etcd_cluster.specs.declared.settling.SettleFault.{SettleFault}
use Rattle.etcd_cluster.proofs.Made.{made_again}
use Rattle.cluster_file.specs.Devices.{GoesOn, IsBegun, IsBeside, IsWell, KeepsSeen, LeavesOrThis, has_left, leaves}
use Rattle.cluster_file.specs.Files.{IsSound, next_of, written_beside}
use Rattle.cluster_file.specs.Nexts.{IsWrittenBeside}
use Rattle.cluster_file.specs.Places.{SideBySide, ends, goes_on}
use Rattle.cluster_file.specs.declared.beside.NextFile.{NextFile}
use Rattle.cluster_file.specs.declared.file.ClusterFile.{ClusterFile}
use Rattle.cluster_file.proofs.After.{beside_below, read_counted}
use Rattle.cluster_file.proofs.Dropping.{beside_bytes}
use Rattle.cluster_file.proofs.Going.{goes_same, keeps_same, well_lost}
use Rattle.cluster_file.proofs.Laid.{laid_before, laid_there, made_put}
use Rattle.cluster_file.proofs.Laying.{lost_not}

-- ANOTHER NEXT FILE IS HELD, and nothing else is done

pub well_next : {C : Type 0} (cluster : Cluster C) (file : ClusterFile C) (o : Option NextFile) → IsWell cluster file → (file.lost ≡ None → IsBeside cluster file o)
    → IsWell cluster (record file { next = o })
well_next cluster file o well beside = record {
  sound = λ none. sound_as (well.sound none);
  whole = λ none. well.whole none;
  synced = λ none. record { none = (well.synced none).none; room = (well.synced none).room };
  beside = λ none. beside_as o (beside none);
  run = λ none. well.run none;
  read = read_counted cluster file (record file { next = o }) (λ are. are) (λ p one below is. is) (omega arith) refl refl refl well.read;
}
  where
    sound_as : IsSound cluster file → IsSound cluster (record file { next = o })
    sound_as is = record { server = is.server; version = is.version; head = is.head; settled = is.settled; so = is.so }

    beside_as : (p : Option NextFile) → IsBeside cluster file p → IsBeside cluster (record file { next = o }) p
    beside_as None is = tt
    beside_as (Some next) is = is

pub goes_next : {C : Type 0} (cluster : Cluster C) (old mid : ClusterFile C) (o : Option NextFile) → old.lost ≡ None → GoesOn cluster old mid
    → (mid.lost ≡ None → IsBeside cluster mid o) → GoesOn cluster old (record mid { next = o })
goes_next {C} cluster old mid o working on beside = record {
  well = well_next cluster mid o on.well beside;
  truth = on.truth;
  time = record {
    later = on.time.later;
    nothing_else = λ t left le is. last t left (on.time.nothing_else t left le (since t left is));
    keeps = λ t left le is. keep t left (on.time.keeps t left le is);
  };
  lost = λ lost. absurd (lost_not old.lost lost working);
}
  where
    since : (t : ℕ) (left : List ℕ) → has_left cluster (record mid { next = o }) t left → has_left cluster mid t left
    since t left (inl stood) = inl stood
    since t left (inr found) = inr found

    keep : (t : ℕ) (left : List ℕ) → has_left cluster mid t left → has_left cluster (record mid { next = o }) t left
    keep t left (inl stood) = inl stood
    keep t left (inr found) = inr found

    now : (left : List ℕ) → leaves cluster mid left → leaves cluster (record mid { next = o }) left
    now left (inl stands) = inl stands
    now left (inr found) = inr found

    last : (t : ℕ) (left : List ℕ) → has_left cluster old t left ⊎ leaves cluster mid left → has_left cluster old t left ⊎ leaves cluster (record mid { next = o }) left
    last t left (inl was) = inl was
    last t left (inr is) = inr (now left is)

pub seen_next : {C : Type 0} (cluster : Cluster C) (old mid : ClusterFile C) (o : Option NextFile) → KeepsSeen cluster old mid → KeepsSeen cluster old (record mid { next = o })
seen_next cluster old mid o kept = record { seen = kept.seen; crash = λ left is. kept.crash left (before left is) }
  where
    before : (left : List ℕ) → leaves cluster (record mid { next = o }) left → leaves cluster mid left
    before left (inl stands) = inl stands
    before left (inr found) = inr found

-- and of what is taken out first
pub goes_taken : {C : Type 0} (cluster : Cluster C) (old new : ClusterFile C) → old.lost ≡ None → GoesOn cluster (record old { next = None }) new → GoesOn cluster old new
goes_taken {C} cluster old new working on = record {
  well = on.well;
  truth = on.truth;
  time = record {
    later = on.time.later;
    nothing_else = λ t left le is. first t left (on.time.nothing_else t left le is);
    keeps = λ t left le is. on.time.keeps t left le (since t left is);
  };
  lost = λ lost. absurd (lost_not old.lost lost working);
}
  where
    since : (t : ℕ) (left : List ℕ) → has_left cluster old t left → has_left cluster (record old { next = None }) t left
    since t left (inl stood) = inl stood
    since t left (inr found) = inr found

    before : (t : ℕ) (left : List ℕ) → has_left cluster (record old { next = None }) t left → has_left cluster old t left
    before t left (inl stood) = inl stood
    before t left (inr found) = inr found

    first : (t : ℕ) (left : List ℕ) → has_left cluster (record old { next = None }) t left ⊎ leaves cluster new left → has_left cluster old t left ⊎ leaves cluster new left
    first t left (inl was) = inl (before t left was)
    first t left (inr is) = inr is

pub seen_taken : {C : Type 0} (cluster : Cluster C) (old new : ClusterFile C) → KeepsSeen cluster (record old { next = None }) new → KeepsSeen cluster old new
seen_taken cluster old new kept = record { seen = kept.seen; crash = λ left is. after left (kept.crash left is) }
  where
    after : (left : List ℕ) → leaves cluster (record old { next = None }) left → leaves cluster old left
    after left (inl stands) = inl stands
    after left (inr found) = inr found

-- or it is given up
pub goes_give : {C : Type 0} (cluster : Cluster C) (old mid : ClusterFile C) (lost : Option SettleFault) → old.lost ≡ None → GoesOn cluster old mid → is_some lost ≡ true
    → GoesOn cluster old (record mid { lost = lost })
goes_give {C} cluster old mid lost working on is = record {
  well = well_lost cluster (record mid { lost = lost }) is
      (read_counted cluster mid (record mid { lost = lost }) (λ are. are) (λ p one below there. there) (omega arith) refl refl refl on.well.read);
  truth = on.truth;
  time = record {
    later = on.time.later;
    nothing_else = λ t left le there. last t left (on.time.nothing_else t left le (since t left there));
    keeps = λ t left le there. keep t left (on.time.keeps t left le there);
  };
  lost = λ was. absurd (lost_not old.lost was working);
}
  where
    since : (t : ℕ) (left : List ℕ) → has_left cluster (record mid { lost = lost }) t left → has_left cluster mid t left
    since t left (inl stood) = inl stood
    since t left (inr found) = inr found

    keep : (t : ℕ) (left : List ℕ) → has_left cluster mid t left → has_left cluster (record mid { lost = lost }) t left
    keep t left (inl stood) = inl stood
    keep t left (inr found) = inr found

    now : (left : List ℕ) → leaves cluster mid left → leaves cluster (record mid { lost = lost }) left
    now left (inl stands) = inl stands
    now left (inr found) = inr found

    last : (t : ℕ) (left : List ℕ) → has_left cluster old t left ⊎ leaves cluster mid left → has_left cluster old t left ⊎ leaves cluster (record mid { lost = lost }) left
    last t left (inl was) = inl was
    last t left (inr there) = inr (now left there)

-- IT IS TAKEN OUT

module _ {C : Type 0} (cluster : Cluster C) (old mid : ClusterFile C) (well : IsWell cluster old) (working : old.lost ≡ None) (none : mid ≡ record old { next = None }) where
  pub taken_well : IsWell cluster mid
  taken_well = subst (λ (x : ClusterFile C). IsWell cluster x) (sym none) (well_next cluster old None well (λ still. tt))

  pub taken_working : mid.lost ≡ None
  taken_working = ap (λ (x : ClusterFile C). x.lost) none ∙ working

  pub taken_none : mid.next ≡ None
  taken_none = ap (λ (x : ClusterFile C). x.next) none

  pub taken_begun : (next : NextFile) → old.next ≡ Some next → IsBegun cluster mid.cluster next
  taken_begun next is =
      subst (λ (c : C). IsBegun cluster c next) (sym (ap (λ (x : ClusterFile C). x.cluster) none))
      (subst (λ (o : Option NextFile). IsBeside cluster old o) is (well.beside working))

  pub taken_goes : (new : ClusterFile C) → GoesOn cluster mid new → GoesOn cluster old new
  taken_goes new on = goes_taken cluster old new working (subst (λ (x : ClusterFile C). GoesOn cluster x new) none on)

  pub taken_seen : (new : ClusterFile C) → KeepsSeen cluster mid new → KeepsSeen cluster old new
  taken_seen new kept = seen_taken cluster old new (subst (λ (x : ClusterFile C). KeepsSeen cluster x new) none kept)

  pub taken_this : (new : ClusterFile C) (bytes : List ℕ) → LeavesOrThis cluster mid new bytes → LeavesOrThis cluster old new bytes
  taken_this new bytes then_left left is = each (subst (λ (x : ClusterFile C). LeavesOrThis cluster x new bytes) none then_left left is)
    where
      each : leaves cluster (record old { next = None }) left ⊎ ((left ≡ bytes) × AreTrue (cluster.calls old.cluster))
          → leaves cluster old left ⊎ ((left ≡ bytes) × AreTrue (cluster.calls old.cluster))
      each (inl (inl stands)) = inl (inl stands)
      each (inl (inr found)) = inl (inr found)
      each (inr so) = inr so

  pub taken_out : KeepsSeen cluster old mid
  taken_out = taken_seen mid (keeps_same cluster mid)

  pub taken_on : GoesOn cluster old mid
  taken_on = taken_goes mid (goes_same cluster mid taken_well)

  pub taken_same : (next : NextFile) → old.next ≡ Some next → next_of cluster old ≡ Some (written_beside cluster mid.cluster next)
  taken_same next is =
      ap (λ (o : Option NextFile). next_of cluster (record old { next = o })) is
      ∙ ap (λ (c : C). Some (written_beside cluster c next)) (sym (ap (λ (x : ClusterFile C). x.cluster) none))

-- more is written behind it
pub begun_rest : {C : Type 0} (cluster : Cluster C) (c : C) (next more : NextFile) → more.laid ≡ next.laid → more.starts.items ≡ next.starts.items → IsBegun cluster c next
    → IsBegun cluster c more
begun_rest cluster c next more same_laid same_starts begun = record {
  bytes = begun.bytes;
  made = begun.made;
  size = begun.size ∙ sym same_laid;
  starts = subst (λ (l : List ℕ). SideBySide ((cluster.stand c).pieces ((cluster.stand c).head.generation + 1)) 0 l more.laid) (sym same_starts)
      (subst (λ (n : ℕ). SideBySide ((cluster.stand c).pieces ((cluster.stand c).head.generation + 1)) 0 next.starts.items n) (sym same_laid) begun.starts);
}

pub written_more : {C : Type 0} (cluster : Cluster C) (c : C) (next more : NextFile) (bytes : List ℕ) → more.laid ≡ next.laid → more.rest.items ≡ next.rest.items ++ bytes
    → written_beside cluster c more ≡ written_beside cluster c next ++ bytes
written_more cluster c next more bytes same_laid rest =
    let pieces : ℕ → Option (List ℕ) = (cluster.stand c).pieces ((cluster.stand c).head.generation + 1) in
    ap (λ (n : ℕ). take n (laid n pieces 0) ++ more.rest.items) same_laid
    ∙ ap (λ (l : List ℕ). take next.laid (laid next.laid pieces 0) ++ l) rest
    ∙ sym (append_assoc (take next.laid (laid next.laid pieces 0)) next.rest.items bytes)

-- NOTHING WAS WRITTEN TO IT

pub begun_none : {C : Type 0} (cluster : Cluster C) (c : C) (next : NextFile) → next.laid ≡ 0 → next.starts.items ≡ [] → IsBegun cluster c next
begun_none cluster c next none_laid no_start = record {
  bytes = [];
  made = none 0;
  size = sym none_laid;
  starts = subst (λ (l : List ℕ). SideBySide ((cluster.stand c).pieces ((cluster.stand c).head.generation + 1)) 0 l next.laid) (sym no_start)
      (subst (λ (n : ℕ). SideBySide ((cluster.stand c).pieces ((cluster.stand c).head.generation + 1)) 0 [] n) (sym none_laid) (ends 0));
}

pub none_written : {C : Type 0} (cluster : Cluster C) (c : C) (next : NextFile) → next.laid ≡ 0 → next.rest.items ≡ [] → written_beside cluster c next ≡ []
none_written cluster c next none_laid no_rest =
    ap (λ (n : ℕ). take n (laid n ((cluster.stand c).pieces ((cluster.stand c).head.generation + 1)) 0) ++ next.rest.items) none_laid ∙ no_rest

-- zeros alone are left

pub zeros_all : (l : List ℕ) (size : ℕ) → size ≡ 0 → drop size l ≡ replicate (length l - size) 0 → l ≡ replicate (length l) 0
zeros_all l size is zeros =
    let same : length l - size ≡ length l = omega (arith, is) in
    subst (λ (n : ℕ). drop n l ≡ replicate (length l) 0) is (zeros ∙ ap (λ (n : ℕ). replicate n 0) same)

pub zeros_after : (l : List ℕ) (part size : ℕ) → part ≤ size → size ≤ length l → drop size l ≡ replicate (length l - size) 0
    → drop (size - part) (drop part l) ≡ replicate (length (drop part l) - (size - part)) 0
zeros_after l part size less within zeros =
    let long = length-drop part l in
    let whole : part + (size - part) ≡ size = omega (arith, less) in
    let count : length l - size ≡ length (drop part l) - (size - part) = omega (arith, long, less, within) in
    drop-drop (size - part) part l ∙ ap (λ (n : ℕ). drop n l) whole ∙ zeros ∙ ap (λ (n : ℕ). replicate n 0) count

-- PIECES SIDE BY SIDE

pub beside_more : (pieces : ℕ → Option (List ℕ)) (at : ℕ) (starts : List ℕ) (to : ℕ) (piece : List ℕ) → SideBySide pieces at starts to → pieces to ≡ Some piece
    → 0 < length piece → SideBySide pieces at (starts ++ to ∷ []) (to + length piece)
beside_more pieces at starts to piece (ends _) is long = goes_on at (at + length piece) piece [] is long (ends (at + length piece))
beside_more pieces at starts to piece (goes_on _ _ first later first_is first_long on) is long =
    goes_on at (to + length piece) first (later ++ to ∷ []) first_is first_long (beside_more pieces (at + length first) later to piece on is long)

-- A PIECE MORE IS LAID
module _ {C : Type 0} (cluster : Cluster C) (old new : ClusterFile C) (next then_next : NextFile) (begun : IsBegun cluster old.cluster next) (generation size : ℕ)
    (generation_is : generation ≡ (cluster.stand old.cluster).head.generation + 1) (within : size ≤ length next.rest.items) (some : 0 < size) (piece : List ℕ)
    (piece_is : piece ≡ take size next.rest.items) (put : IsWrittenBeside cluster old new (Lays generation next.laid piece)) (laid_is : then_next.laid ≡ next.laid + size)
    (starts_is : then_next.starts.items ≡ next.starts.items ++ next.laid ∷ []) (rest_is : then_next.rest.items ≡ drop size next.rest.items) where
  abbrev before : ℕ → Option (List ℕ)
  before = (cluster.stand old.cluster).pieces ((cluster.stand old.cluster).head.generation + 1)

  abbrev now : ℕ → Option (List ℕ)
  now = (cluster.stand new.cluster).pieces ((cluster.stand new.cluster).head.generation + 1)

  now_is : (p : ℕ) → now p ≡ written (Lays generation next.laid piece) (cluster.stand old.cluster).pieces generation p
  now_is p =
      ap (λ (g : ℕ). (cluster.stand new.cluster).pieces (g + 1) p) put.generation
      ∙ ap (λ (g : ℕ). (cluster.stand new.cluster).pieces g p) (sym generation_is)
      ∙ put.pieces generation p

  long : length piece ≡ size
  long = ap (λ (l : List ℕ). length l) piece_is ∙ length-take-le size next.rest.items within

  made_before : Make ((cluster.stand old.cluster).pieces generation) 0 begun.bytes
  made_before = subst (λ (g : ℕ). Make ((cluster.stand old.cluster).pieces g) 0 begun.bytes) (sym generation_is) begun.made

  made_now : Make now 0 (begun.bytes ++ piece)
  made_now =
      let size_is = begun.size in
      let far = long in
      made_again (written (Lays generation next.laid piece) (cluster.stand old.cluster).pieces generation) now 0 (begun.bytes ++ piece) (λ p below. now_is p)
      (made_put (cluster.stand old.cluster).pieces generation next.laid piece begun.bytes (sym size_is) (omega (arith, far, some)) made_before)

  there : now next.laid ≡ Some piece
  there = now_is next.laid ∙ laid_there (cluster.stand old.cluster).pieces generation next.laid piece

  stays : (p : ℕ) (other : List ℕ) → p < next.laid → before p ≡ Some other → now p ≡ Some other
  stays p other below is =
      now_is p
      ∙ laid_before (cluster.stand old.cluster).pieces generation next.laid p piece (λ same. omega (arith, same, below))
      ∙ ap (λ (g : ℕ). (cluster.stand old.cluster).pieces g p) generation_is
      ∙ is

  size_now : length (begun.bytes ++ piece) ≡ then_next.laid
  size_now =
      let both = length-append begun.bytes piece in
      let size_is = begun.size in
      let far = long in
      omega (arith, both, size_is, far, laid_is)

  pub laid_begun : IsBegun cluster new.cluster then_next
  laid_begun = record {
    bytes = begun.bytes ++ piece;
    made = made_now;
    size = size_now;
    starts = subst (λ (l : List ℕ). SideBySide now 0 l then_next.laid) (sym starts_is)
        (subst (λ (n : ℕ). SideBySide now 0 (next.starts.items ++ next.laid ∷ []) n) (let far = long in omega (arith, far, laid_is))
        (beside_more now 0 next.starts.items next.laid piece (beside_below before now 0 next.starts.items next.laid stays begun.starts) there
        (let far = long in omega (arith, far, some))));
  }

  pub laid_same : written_beside cluster new.cluster then_next ≡ written_beside cluster old.cluster next
  laid_same =
      let after : take then_next.laid (laid then_next.laid now 0) ≡ begun.bytes ++ piece = beside_bytes now then_next.laid (begun.bytes ++ piece) made_now size_now in
      let was : take next.laid (laid next.laid before 0) ≡ begun.bytes = beside_bytes before next.laid begun.bytes begun.made begun.size in
      ap (λ (l : List ℕ). l ++ then_next.rest.items) after
      ∙ ap (λ (l : List ℕ). (begun.bytes ++ piece) ++ l) rest_is
      ∙ append_assoc begun.bytes piece (drop size next.rest.items)
      ∙ ap (λ (l : List ℕ). begun.bytes ++ (l ++ drop size next.rest.items)) piece_is
      ∙ ap (λ (l : List ℕ). begun.bytes ++ l) (take-append-drop size next.rest.items)
      ∙ ap (λ (l : List ℕ). l ++ next.rest.items) (sym was)
