-- What a call leaves of a file that puts nothing there.
use Rattle.std.proofs.Common.{◌≡◌, ◌⊎◌, inl, inr, ◌<◌, ◌≤◌, ◌+◌, ◌++◌, ◌∙◌, ℕ, zero, suc, Bool, true, List, ◌∷◌, length, refl, sym, ap, subst, arith}
use Rattle.std.specs.Prelude.{Option, None, Some, Result, Ok, Err, IfErr, OnErr, OnOk, is_some, option_map, replicate, take}
use Rattle.batch_file.specs.Crashes.{ComesOfStep, Elapses, IsFailure, Only}
use Rattle.batch_file.specs.Tears.{Torn}
use Rattle.batch_file.specs.declared.device.DeviceFault.{DeviceFault}
use Rattle.etcd_cluster.specs.Again.{AsksAgain, again}
use Rattle.etcd_cluster.specs.Bytes.{HasBytes, Make, bytes_of, file_of, laid}
use Rattle.etcd_cluster.specs.Calls.{AreTrue, AskedHead, Called, Kept}
use Rattle.etcd_cluster.specs.Knowing.{Knows}
use Rattle.etcd_cluster.specs.Leading.{IsLed, StaysSo}
use Rattle.etcd_cluster.specs.Sides.{IsLeading, IsSole, MayHaveBeen, StaysThere}
use Rattle.etcd_cluster.specs.Stands.{Stand}
use Rattle.etcd_cluster.specs.Worlds.{Begun, World}
use Rattle.etcd_cluster.specs.declared.change.CallFault.{CallFault}
use Rattle.etcd_cluster.specs.declared.change.CallFault.TheVariants.{Unclear}
use Rattle.etcd_cluster.specs.declared.change.Head.{Head}
use Rattle.etcd_cluster.specs.declared.change.Piece.{Piece}
use Rattle.etcd_cluster.specs.declared.change.Standing.{Standing}
use Rattle.etcd_cluster.specs.declared.cluster.Cluster.{Ghosts as Cluster}
use Rattle.etcd_cluster.specs.declared.settling.SettleFault.{SettleFault}
use Rattle.cluster_file.specs.Devices.{GoesOn, IsBeside, IsWell, KeepsLease, KeepsSeen, StandsThere, has_left, leaves}
use Rattle.cluster_file.specs.Files.{AsServer, ComesBy, IsSettledBy, IsSoleBy, IsSound, IsSynced, MayBeFound, laid_beside, seen_of}
use Rattle.cluster_file.specs.Moments.{CountsCalls, CountsNow}
use Rattle.cluster_file.specs.Places.{IsHeld, IsRead, SideBySide}
use Rattle.cluster_file.specs.Runs.{IsRunOf}
use Rattle.cluster_file.specs.declared.beside.NextFile.{NextFile}
use Rattle.cluster_file.specs.declared.file.ClusterFile.{ClusterFile}
use Rattle.cluster_file.proofs.After.{read_counted}
use Rattle.cluster_file.proofs.Laying.{lost_not}
use Rattle.cluster_file.proofs.Left.{none_some, only_found, same_own}
use Rattle.cluster_file.proofs.Looking.{IsByCalls}
use Rattle.cluster_file.proofs.Torn.{torn_none}
use Rattle.cluster_file.proofs.Since.{Onward, elapses, lost_not_own, no_call, one_call, some_is, stays_found}

-- a call that lost the file whenever it was refused
pub loses_any : {C : Type 0} (new : ClusterFile C) (told : Result (Unit {0}) DeviceFault) → OnErr told (is_some new.lost ≡ true)
    → IfErr told (λ fault. IsFailure fault → is_some new.lost ≡ true)
loses_any new (Ok done) lost = tt
loses_any new (Err fault) lost = λ failure. lost

-- a read returns what stands there, where nothing was written beside
pub seen_stands : {C : Type 0} (cluster : Cluster C) (file : ClusterFile C) → IsSound cluster file → IsSynced file → seen_of cluster file ≡ file_of (cluster.stand file.cluster)
seen_stands cluster file sound synced =
    let bytes = bytes_of (cluster.stand file.cluster) in
    ap (λ (l : List ℕ). bytes ++ (l ++ replicate file.room 0)) synced.none
    ∙ ap (λ (n : ℕ). bytes ++ replicate n 0) (synced.room ∙ sym (ap (λ (h : Head). h.room) sound.head))

-- nothing was done
pub goes_same : {C : Type 0} (cluster : Cluster C) (file : ClusterFile C) → IsWell cluster file → GoesOn cluster file file
goes_same cluster file well = record {
  well = well;
  truth = λ are. are;
  time = record { later = omega arith; nothing_else = λ t left le is. inl is; keeps = λ t left le is. is };
  lost = λ is. refl;
}

pub keeps_same : {C : Type 0} (cluster : Cluster C) (file : ClusterFile C) → KeepsSeen cluster file file
keeps_same cluster file = record { seen = refl; crash = λ left is. is }

pub crash_same : {C : Type 0} (cluster : Cluster C) (file : ClusterFile C) (at : ℕ) (bytes : List ℕ)
    → ComesOfStep (Torn at bytes) (leaves cluster file) (leaves cluster file)
crash_same cluster file at bytes left is = (left, is, torn_none at bytes left)

-- a file that is lost is well
pub well_lost : {C : Type 0} (cluster : Cluster C) (file : ClusterFile C) → is_some file.lost ≡ true → IsRead cluster file → IsWell cluster file
well_lost cluster file lost read = record {
  sound = λ none. absurd (lost_not file.lost lost none);
  whole = λ none. absurd (lost_not file.lost lost none);
  synced = λ none. absurd (lost_not file.lost lost none);
  beside = λ none. absurd (lost_not file.lost lost none);
  run = λ none. absurd (lost_not file.lost lost none);
  read = read;
}

-- what a read returns is what a crash may leave, where nothing was written beside
pub stands_old : {C : Type 0} (cluster : Cluster C) → IsByCalls cluster → (old : ClusterFile C) → IsWell cluster old → old.lost ≡ None → AreTrue (cluster.calls old.cluster)
    → (left : List ℕ) → left ≡ seen_of cluster old → leaves cluster old left
stands_old cluster by_calls old well working are left is =
    inl (inl (is ∙ seen_stands cluster old (well.sound working) (well.synced working) ∙ ap file_of (by_calls old.cluster)), are)

-- NOTHING WAS ASKED, and the file is given up
module _ {C : Type 0} (cluster : Cluster C) (old : ClusterFile C) (well : IsWell cluster old) (working : old.lost ≡ None) (fault : SettleFault) where
  abbrev lost_now : ClusterFile C
  lost_now = record old { lost = Some fault }

  give_crash : (left : List ℕ) → leaves cluster lost_now left → leaves cluster old left
  give_crash left (inl stands) = inl stands
  give_crash left (inr found) = inr found

  give_time : (t : ℕ) (left : List ℕ) → has_left cluster lost_now t left → has_left cluster old t left ⊎ leaves cluster lost_now left
  give_time t left (inl stood) = inl (inl stood)
  give_time t left (inr found) = inl (inr found)

  give_keeps : (t : ℕ) (left : List ℕ) → has_left cluster old t left → has_left cluster lost_now t left
  give_keeps t left (inl stood) = inl stood
  give_keeps t left (inr found) = inr found

  pub gives_up : GoesOn cluster old lost_now
  gives_up = record {
    well = well_lost cluster lost_now refl (read_counted cluster old lost_now (λ are. are) (λ p one below is. is) (omega arith) refl refl refl well.read);
    truth = λ are. are;
    time = record { later = omega arith; nothing_else = λ t left le is. give_time t left is; keeps = λ t left le is. give_keeps t left is };
    lost = λ is. absurd (lost_not old.lost is working);
  }

  pub gives_seen : KeepsSeen cluster old lost_now
  gives_seen = record { seen = refl; crash = give_crash }

-- THE HEAD WAS ASKED FOR

head_stands : (n : ℕ) (calls : List Called) (left : List ℕ) → StandsThere (again n (AskedHead (Err Unclear)) calls) left → StandsThere calls left
head_stands zero calls left is = is
head_stands (suc n) calls left (inl is, are) = head_stands n calls left (inl is, are)
head_stands (suc n) calls left (inr come, are) = absurd come

head_onward : (P : List ℕ → Type 0) (n : ℕ) (old : List Called) → ((left : List ℕ) → StandsThere old left → P left) → Onward P old (again n (AskedHead (Err Unclear)) old)
head_onward P zero old so = no_call
head_onward P (suc n) old so =
    one_call (AskedHead (Err Unclear)) (again n (AskedHead (Err Unclear)) old) (head_onward P n old so) (λ left stands. so left (head_stands (suc n) old left stands))

-- what was told of the head makes no change come
pub asked_settled : (more : ℕ) (told : Result (Option Standing) CallFault) (old new : List Called) → AsksAgain more AskedHead told old new → IsSettledBy new
asked_settled more told old new asked left comes = subst (λ (calls : List Called). ComesBy calls left) asked.calls comes

pub asked_onward : (P : List ℕ → Type 0) (more : ℕ) (told : Result (Option Standing) CallFault) (old new : List Called) → AsksAgain more AskedHead told old new
    → ((left : List ℕ) → StandsThere old left → P left) → ((left : List ℕ) → StandsThere new left → P left) → Onward P old new
asked_onward P more told old new asked was now =
    subst (λ (calls : List Called). Onward P old calls) (sym asked.calls)
    (one_call (AskedHead told) (again asked.times (AskedHead (Err Unclear)) old) (head_onward P asked.times old was)
    (λ left stands. now left (subst (λ (calls : List Called). StandsThere calls left) (sym asked.calls) stands)))

heads_true : (n : ℕ) (calls : List Called) → AreTrue (again n (AskedHead (Err Unclear)) calls) → AreTrue calls
heads_true zero calls are = are
heads_true (suc n) calls are = heads_true n calls are

pub asked_true : (more : ℕ) (told : Result (Option Standing) CallFault) (old new : List Called) → AsksAgain more AskedHead told old new → AreTrue new → AreTrue old
asked_true more told old new asked are = heads_true asked.times old (subst (λ (calls : List Called). AreTrue calls) asked.calls are)

-- WHAT STANDS THERE STAYS SO, as far as this server can tell
module _ {C : Type 0} (cluster : Cluster C) (by_calls : IsByCalls cluster) (old new : ClusterFile C) (version : ℕ) (settled : IsSettledBy (cluster.calls new.cluster))
    (read : new.read ≡ old.read) (before : old.read < version) (truth : AreTrue (cluster.calls new.cluster) → AreTrue (cluster.calls old.cluster))
    (same_file : file_of (cluster.stand new.cluster) ≡ file_of (cluster.stand old.cluster)) (same_seen : seen_of cluster new ≡ seen_of cluster old)
    (stays : StaysThere cluster old.cluster new.cluster version) where
  found_by : (w first : World) (left : List ℕ) → cluster.may_be old.cluster first → StaysSo (cluster.server old.cluster) (cluster.moment old.cluster) version first w
      → MayBeFound cluster new left → (◌≡◌ {A = List ℕ} left (file_of w.stand)) → ((w.begun ≡ None) ⊎ (w.stand.version ≡ old.read)) → MayBeFound cluster old left
  found_by w first left was (inl (none, of, inl there)) found is own = (first, was, inl none, is ∙ ap file_of there.1)
  found_by w first left was (inl (none, of, inr lost)) found is own =
      absurd (lost_not_own old _ _ first.stand.version _ w (omega (arith, before, of)) lost own)
  found_by w first left was (inr (had, lost)) found is own = absurd (lost_not_own old _ _ version _ w (omega (arith, before)) lost own)

  stays_crash : (left : List ℕ) → leaves cluster new left → leaves cluster old left
  stays_crash left (inl (inl is, are)) =
      inl (inl (is ∙ ap file_of (sym (by_calls new.cluster)) ∙ same_file ∙ ap file_of (by_calls old.cluster)), truth are)
  stays_crash left (inl (inr come, are)) = absurd (settled left come)
  stays_crash left (inr (w, may, own, is)) =
      let it = stays w may in
      inr (found_by w it.0 left it.1 it.2 (w, may, own, is) is (same_own old new w read own))

  pub stays_seen : KeepsSeen cluster old new
  stays_seen = record { seen = same_seen; crash = stays_crash }

-- NOBODY ELSE HAD BEGUN
pub sole_then : {C : Type 0} (cluster : Cluster C) (old new : C) → IsSole cluster old new → (t : ℕ) → t ≤ cluster.moment old → IsSoleBy cluster new t
sole_then cluster old new sole t le w may begun is = each (sole w may).0 (sole w may).3
  where
    each : (first : World) → IsLed (cluster.server old) (cluster.moment old) first.stand w → t ≤ begun.moment
    each first (inl there) = absurd (none_some w.begun begun there.0 is)
    each first (inr lost) =
        let one : lost.begun ≡ begun = some_is lost.begun begun (sym lost.is ∙ is) in
        let at = lost.at in
        let moment = ap (λ (b : Begun). b.moment) one in
        omega (arith, at, moment, le)

-- A SERVER THAT HAS BEGUN
pub begun_so : {C : Type 0} (cluster : Cluster C) (file : ClusterFile C) → IsSound cluster file → file.has_begun ≡ true → AsServer cluster file true
begun_so cluster file sound begun = subst (λ (b : Bool). AsServer cluster file b) begun sound.so

pub begun_some : {C : Type 0} (cluster : Cluster C) (file : ClusterFile C) → IsSound cluster file → file.has_begun ≡ true → 0 < (cluster.stand file.cluster).version
begun_some cluster file sound begun =
    let earlier = (begun_so cluster file sound begun).3 in
    let version = sound.version in
    omega (arith, earlier, version)

-- that has asked for the head: what is left, and whether it is lost then
module _ {C : Type 0} (cluster : Cluster C) (counts : CountsNow cluster) (counts_calls : CountsCalls cluster) (by_calls : IsByCalls cluster) (old : ClusterFile C)
    (well : IsWell cluster old) (working : old.lost ≡ None) (begun : old.has_begun ≡ true) (now : C) (lost : Option SettleFault)
    (truth : AreTrue (cluster.calls now) → AreTrue (cluster.calls old.cluster))
    (onward : (P : List ℕ → Type 0) → ((left : List ℕ) → StandsThere (cluster.calls old.cluster) left → P left)
    → ((left : List ℕ) → StandsThere (cluster.calls now) left → P left) → Onward P (cluster.calls old.cluster) (cluster.calls now))
    (settled : IsSettledBy (cluster.calls now)) (stand : cluster.stand now ≡ cluster.stand old.cluster)
    (stays : StaysThere cluster old.cluster now old.standing.version)
    (meanwhile : MayHaveBeen cluster old.cluster now (StaysSo (cluster.server old.cluster) (cluster.moment old.cluster) old.standing.version)) where
  abbrev heard : ClusterFile C
  heard = record old { cluster = now; lost = lost }

  earlier : old.read < old.standing.version
  earlier = (begun_so cluster old (well.sound working) begun).3

  heard_read : IsRead cluster heard
  heard_read are =
      let was = well.read (truth are) in
      record {
        pieces = subst (λ (s : Stand). SideBySide (s.pieces s.head.generation) 0 old.starts.items old.known) (sym stand) was.pieces;
        within = subst (λ (s : Stand). old.known ≤ s.head.end) (sym stand) was.within;
        held = held_as old.piece was.held;
      }
    where
      held_as : (p : Option Piece) → IsHeld cluster old p → IsHeld cluster heard p
      held_as None is = tt
      held_as (Some piece) is = (subst (λ (s : Stand). s.pieces s.head.generation piece.at ≡ Some piece.bytes.items) (sym stand) is.0, is.1)

  heard_time : Elapses (cluster.moment old.cluster) (cluster.moment now) (has_left cluster old) (has_left cluster heard) (leaves cluster heard)
  heard_time =
      elapses cluster counts counts_calls old heard refl (StaysSo (cluster.server old.cluster) (cluster.moment old.cluster) old.standing.version)
      (onward (λ left. leaves cluster old left ⊎ leaves cluster heard left) (λ left stands. inl (inl stands)) (λ left stands. inr (inl stands)))
      meanwhile
      (λ first w t left le was so found.
      inl (stays_found cluster counts old first w t left (cluster.server old.cluster) (cluster.moment old.cluster) old.standing.version le was (omega (arith, earlier)) so found))

  seen_same : seen_of cluster heard ≡ seen_of cluster old
  seen_same = ap (λ (s : Stand). bytes_of s ++ (old.unsynced.items ++ replicate old.room 0)) stand

  pub heard_seen : KeepsSeen cluster old heard
  heard_seen = stays_seen cluster by_calls old heard old.standing.version settled refl earlier truth (ap file_of stand) seen_same stays

  pub heard_lost : is_some lost ≡ true → GoesOn cluster old heard
  heard_lost is = record {
    well = well_lost cluster heard is heard_read;
    truth = truth;
    time = heard_time;
    lost = λ was. absurd (lost_not old.lost was working);
  }

  pub heard_well : cluster.server now ≡ cluster.server old.cluster → IsLeading cluster now old.standing.version → Knows cluster now → GoesOn cluster old heard
  heard_well server leads knows = record {
    well = record {
      sound = λ none. sound_now;
      whole = λ none. ((well.whole working).0, subst (λ (s : Stand). HasBytes s (well.whole working).0) (sym stand) (well.whole working).1);
      synced = λ none. record { none = (well.synced working).none; room = (well.synced working).room };
      beside = λ none. beside_as old.next (well.beside working);
      run = λ none. subst (λ (s : Stand). IsRunOf s old.run) (sym stand) (well.run working);
      read = heard_read;
    };
    truth = truth;
    time = heard_time;
    lost = λ was. absurd (lost_not old.lost was working);
  }
    where
      so_now : AsServer cluster heard true
      so_now = let so = begun_so cluster old (well.sound working) begun in (leads, knows, so.2, so.3)

      sound_now : IsSound cluster heard
      sound_now = record {
        server = server ∙ (well.sound working).server;
        version = ap (λ (s : Stand). s.version) stand ∙ (well.sound working).version;
        head = ap (λ (s : Stand). s.head) stand ∙ (well.sound working).head;
        settled = settled;
        so = subst (λ (b : Bool). AsServer cluster heard b) (sym begun) so_now;
      }

      beside_as : (o : Option NextFile) → IsBeside cluster old o → IsBeside cluster heard o
      beside_as None is = tt
      beside_as (Some next) is = record {
        bytes = is.bytes;
        made = subst (λ (s : Stand). Make (s.pieces (s.head.generation + 1)) 0 is.bytes) (sym stand) is.made;
        size = is.size;
        starts = subst (λ (s : Stand). SideBySide (s.pieces (s.head.generation + 1)) 0 next.starts.items next.laid) (sym stand) is.starts;
      }

-- the next file, where what stands there is the same
pub next_by : {C : Type 0} (cluster : Cluster C) {old now : C} → cluster.stand now ≡ cluster.stand old → (next : Option NextFile)
    → option_map (λ n. laid_beside cluster now n ++ n.rest.items) next ≡ option_map (λ n. laid_beside cluster old n ++ n.rest.items) next
next_by cluster stand None = refl
next_by cluster stand (Some next) =
    ap (λ (s : Stand). Some (take next.laid (laid next.laid (s.pieces (s.head.generation + 1)) 0) ++ next.rest.items)) stand

-- a lease was kept
pub kept_onward : (P : List ℕ → Type 0) (old new : List Called) → new ≡ Kept ∷ old → ((left : List ℕ) → StandsThere old left → P left)
    → ((left : List ℕ) → StandsThere new left → P left) → Onward P old new
kept_onward P old new is was now =
    subst (λ (calls : List Called). Onward P old calls) (sym is)
    (one_call Kept old no_call (λ left stands. now left (subst (λ (calls : List Called). StandsThere calls left) (sym is) stands)))

pub kept_settled : (old new : List Called) → new ≡ Kept ∷ old → IsSettledBy new
kept_settled old new is left comes = subst (λ (calls : List Called). ComesBy calls left) is comes

pub kept_true : (old new : List Called) → new ≡ Kept ∷ old → AreTrue new → AreTrue old
kept_true old new is are = subst (λ (calls : List Called). AreTrue calls) is are

-- of a server that has begun a crash leaves what a read returns
pub begun_only : {C : Type 0} (cluster : Cluster C) → IsByCalls cluster → (file : ClusterFile C) → IsWell cluster file → file.lost ≡ None → file.has_begun ≡ true
    → Only (seen_of cluster file) (leaves cluster file)
begun_only cluster by_calls file well working begun left (inl (inl is, are)) =
    is ∙ ap file_of (sym (by_calls file.cluster)) ∙ sym (seen_stands cluster file (well.sound working) (well.synced working))
begun_only cluster by_calls file well working begun left (inl (inr come, are)) = absurd ((well.sound working).settled left come)
begun_only cluster by_calls file well working begun left (inr found) =
    only_found cluster file (well.sound working) (well.whole working).0 (well.whole working).1 begun left found
    ∙ sym (seen_stands cluster file (well.sound working) (well.synced working))

-- in a call that goes on no call of the cluster is forgotten
pub longer_calls : {C : Type 0} (cluster : Cluster C) → CountsCalls cluster → (old new : ClusterFile C) → GoesOn cluster old new
    → length (cluster.calls old.cluster) ≤ length (cluster.calls new.cluster)
longer_calls cluster counts old new goes =
    let was = counts old.cluster in
    let is = counts new.cluster in
    let later = goes.time.later in
    omega (arith, was, is, later)

pub kept_last : {T : Type 0} (old mid new : List Called) (told : Result T DeviceFault) → length old ≤ length mid → new ≡ Kept ∷ mid → OnOk told (KeepsLease old new)
kept_last old mid new (Ok given) later is = record { before = mid; last = is; later = later }
kept_last old mid new (Err fault) later is = tt
