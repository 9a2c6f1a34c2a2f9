-- A file learns pieces.
use Rattle.std.proofs.Common.{◌≡◌, ◌⊎◌, inl, inr, ◌≤◌, ◌+◌, ◌++◌, ◌∙◌, ℕ, zero, suc, Bool, true, false, List, [], ◌∷◌, length, refl, sym, ap, subst, arith}
use Rattle.std.specs.Prelude.{Option, Some, Result, Err, replicate}
use Rattle.etcd_cluster.specs.Again.{AsksAgain, again}
use Rattle.etcd_cluster.specs.Bytes.{HasBytes, bytes_of, file_of}
use Rattle.etcd_cluster.specs.Calls.{AskedPieces, Called}
use Rattle.etcd_cluster.specs.Stands.{PieceFact}
use Rattle.etcd_cluster.specs.Worlds.{World, stand_seen}
use Rattle.etcd_cluster.specs.declared.change.CallFault.{CallFault}
use Rattle.etcd_cluster.specs.declared.change.CallFault.TheVariants.{Unclear}
use Rattle.etcd_cluster.specs.declared.change.Head.{Head}
use Rattle.etcd_cluster.specs.declared.change.Piece.{Piece}
use Rattle.etcd_cluster.specs.declared.change.Wanted.{Wanted}
use Rattle.etcd_cluster.specs.declared.cluster.Cluster.{Ghosts as Cluster}
use Rattle.etcd_cluster.proofs.Made.{bytes_made}
use Rattle.cluster_file.specs.Devices.{StandsThere, has_left, leaves}
use Rattle.cluster_file.specs.Files.{AsServer, HasFound, IsFoundIn, IsOwn, IsSound, IsWhole, MayBeFound}
use Rattle.cluster_file.specs.Looks.{HasLooked, Learns, Looks, LooksOn, MayHaveLooked}
use Rattle.cluster_file.specs.Moments.{CountsCalls, CountsNow}
use Rattle.cluster_file.specs.Places.{IsOneOf, IsRead, IsTold, KeepsPieces, MayLook, counted}
use Rattle.cluster_file.specs.declared.file.ClusterFile.{ClusterFile}
use Rattle.cluster_file.proofs.Left.{same_own}
use Rattle.cluster_file.proofs.Looking.{IsByCalls, look_keeps, look_settled, look_sound}
use Rattle.cluster_file.proofs.Reading.{made_still, read_noted, read_still, read_taken}
use Rattle.cluster_file.proofs.Since.{Onward, elapses, elapses_on, lost_not_own, no_call, one_call, rests_found, stays_found}

-- ONE AFTER THE OTHER

pub keeps_on : {C : Type 0} (cluster : Cluster C) (old mid new : ClusterFile C) → KeepsPieces cluster old mid → KeepsPieces cluster mid new → KeepsPieces cluster old new
keeps_on cluster old mid new first second = record {
  truth = λ are. first.truth (second.truth are);
  head = second.head ∙ first.head;
  pieces = λ p piece is. second.pieces p piece (first.pieces p piece is);
  beside = λ p piece is. second.beside p piece (first.beside p piece is);
}

-- the bytes that are known are so still
pub has_still : {C : Type 0} (cluster : Cluster C) (old new : ClusterFile C) (bytes : List ℕ) → KeepsPieces cluster old new → HasBytes (cluster.stand old.cluster) bytes
    → HasBytes (cluster.stand new.cluster) bytes
has_still cluster old new bytes kept has =
    (made_still (counted cluster old) (counted cluster new) 0 bytes kept.pieces has.0, ap (λ (h : Head). h.end) kept.head ∙ has.1)

pub whole_still : {C : Type 0} (cluster : Cluster C) (old new : ClusterFile C) → KeepsPieces cluster old new → IsWhole cluster old → IsWhole cluster new
whole_still cluster old new kept whole = (whole.0, has_still cluster old new whole.0 kept whole.1)

looks_on : {C : Type 0} (cluster : Cluster C) → CountsNow cluster → (old mid new : ClusterFile C) → LooksOn cluster old mid → LooksOn cluster mid new → LooksOn cluster old new
looks_on cluster counts old mid new first second = record {
  crash = λ left is. first.crash left (second.crash left is);
  time = elapses_on cluster old mid new first.time (λ left is. inl (first.crash left is)) counts second.time;
}

pub learns_on : {C : Type 0} (cluster : Cluster C) → CountsNow cluster → (old mid new : ClusterFile C) → Learns cluster old mid → Learns cluster mid new → Learns cluster old new
learns_on {C} cluster counts old mid new first second =
    let grew = first.grows in
    let grows = second.grows in
    record {
      sound = second.sound;
      read = second.read;
      kept = keeps_on cluster old mid new first.kept second.kept;
      looks = λ whole. looks_on cluster counts old mid new (first.looks whole) (second.looks (whole_still cluster old mid first.kept whole));
      grows = omega (arith, grew, grows);
      same = second.same
          ∙ ap (λ (f : ClusterFile C). record f { cluster = new.cluster; piece = new.piece; starts = new.starts; known = new.known }) first.same;
    }

-- nothing was asked
keeps_none : {C : Type 0} (cluster : Cluster C) (file : ClusterFile C) → KeepsPieces cluster file file
keeps_none cluster file = record { truth = λ are. are; head = refl; pieces = λ p piece is. is; beside = λ p piece is. is }

looks_none : {C : Type 0} (cluster : Cluster C) (file : ClusterFile C) → LooksOn cluster file file
looks_none cluster file = record {
  crash = λ left is. is;
  time = record { later = omega arith; nothing_else = λ t left le is. inl is; keeps = λ t left le is. is };
}

pub learns_none : {C : Type 0} (cluster : Cluster C) (file : ClusterFile C) → IsSound cluster file → IsRead cluster file → Learns cluster file file
learns_none cluster file sound read =
    record { sound = sound; read = read; kept = keeps_none cluster file; looks = λ whole. looks_none cluster file; grows = omega arith; same = refl }

-- what is known changes alone
module _ {C : Type 0} (cluster : Cluster C) (old new : ClusterFile C) (same : new ≡ record old { piece = new.piece; starts = new.starts; known = new.known }) where
  abbrev there : ClusterFile C
  there = record old { piece = new.piece; starts = new.starts; known = new.known }

  so_as : (begun : Bool) → AsServer cluster old begun → AsServer cluster there begun
  so_as true so = so
  so_as false so = so

  pub sound_known : IsSound cluster old → IsSound cluster new
  sound_known sound =
      subst (λ (f : ClusterFile C). IsSound cluster f) (sym same)
      (record { server = sound.server; version = sound.version; head = sound.head; settled = sound.settled; so = so_as old.has_begun sound.so })

  known_keeps : KeepsPieces cluster old new
  known_keeps =
      subst (λ (f : ClusterFile C). KeepsPieces cluster old f) (sym same)
      (record { truth = λ are. are; head = refl; pieces = λ p piece is. is; beside = λ p piece is. is })

  crash_there : (left : List ℕ) → leaves cluster there left → leaves cluster old left
  crash_there left (inl stands) = inl stands
  crash_there left (inr found) = inr found

  time_there : (t : ℕ) (left : List ℕ) → has_left cluster there t left → has_left cluster old t left
  time_there t left (inl stood) = inl stood
  time_there t left (inr found) = inr found

  time_here : (t : ℕ) (left : List ℕ) → has_left cluster old t left → has_left cluster there t left
  time_here t left (inl stood) = inl stood
  time_here t left (inr found) = inr found

  known_looks : LooksOn cluster old new
  known_looks =
      subst (λ (f : ClusterFile C). LooksOn cluster old f) (sym same)
      (record {
        crash = crash_there;
        time = record { later = omega arith; nothing_else = λ t left le is. inl (time_there t left is); keeps = λ t left le is. time_here t left is };
      })

  pub learns_known : IsSound cluster old → IsRead cluster new → old.known ≤ new.known → Learns cluster old new
  learns_known sound read grows = record {
    sound = sound_known sound;
    read = read;
    kept = known_keeps;
    looks = λ whole. known_looks;
    grows = grows;
    same = same ∙ ap (λ (c : C). record old { cluster = c; piece = new.piece; starts = new.starts; known = new.known }) (sym (ap (λ (f : ClusterFile C). f.cluster) same));
  }

-- CALLS THAT ASK FOR PIECES

look_stands : (n : ℕ) (wanted : Wanted) (calls : List Called) (left : List ℕ) → StandsThere (again n (AskedPieces wanted (Err Unclear)) calls) left → StandsThere calls left
look_stands zero wanted calls left is = is
look_stands (suc n) wanted calls left (inl is, are) = look_stands n wanted calls left (inl is, are.0)
look_stands (suc n) wanted calls left (inr come, are) = absurd come

look_again : (P : List ℕ → Type 0) (n : ℕ) (wanted : Wanted) (old : List Called) → ((left : List ℕ) → StandsThere old left → P left)
    → Onward P old (again n (AskedPieces wanted (Err Unclear)) old)
look_again P zero wanted old so = no_call
look_again P (suc n) wanted old so =
    one_call (AskedPieces wanted (Err Unclear)) (again n (AskedPieces wanted (Err Unclear)) old) (look_again P n wanted old so)
    (λ left stands. so left (look_stands (suc n) wanted old left stands))

look_onward : (P : List ℕ → Type 0) (more : ℕ) (wanted : Wanted) (told : Result (Option (List PieceFact)) CallFault) (old new : List Called)
    → AsksAgain more (AskedPieces wanted) told old new → ((left : List ℕ) → StandsThere old left → P left) → ((left : List ℕ) → StandsThere new left → P left) → Onward P old new
look_onward P more wanted told old new asked was now =
    subst (λ (calls : List Called). Onward P old calls) (sym asked.calls)
    (one_call (AskedPieces wanted told) (again asked.times (AskedPieces wanted (Err Unclear)) old) (look_again P asked.times wanted old was)
    (λ left stands. now left (subst (λ (calls : List Called). StandsThere calls left) (sym asked.calls) stands)))

-- WHAT A LOOK LEAVES
module _ {C : Type 0} (cluster : Cluster C) (counts : CountsNow cluster) (old : ClusterFile C) (sound : IsSound cluster old) where
  read_as : (begun : Bool) → AsServer cluster old begun → old.read ≤ old.standing.version
  read_as true so = let before = so.3 in omega (arith, before)
  read_as false so = let is = so.2 in omega (arith, is)

  read_before : old.read ≤ old.standing.version
  read_before = read_as old.has_begun sound.so

  -- what is this server's doing was found before
  own_as : (begun : Bool) (first w : World) → cluster.may_be old.cluster first
      → Looks (cluster.server old.cluster) (cluster.moment old.cluster) old.standing.version begun first w → IsOwn old w → MayBeFound cluster old (file_of w.stand)
  own_as true first w was (inl (none, of, inl there)) own = (first, was, inl none, ap file_of there.1)
  own_as true first w was (inl (none, of, inr lost)) own =
      absurd (let before = read_before in lost_not_own old _ _ first.stand.version _ w (omega (arith, before, of)) lost own)
  own_as true first w was (inr (had, lost)) own = absurd (lost_not_own old _ _ old.standing.version _ w read_before lost own)
  own_as false first w was (inl same) own = (first, was, subst (λ (x : World). IsOwn old x) same own, ap (λ (x : World). file_of x.stand) same)
  own_as false first w was (inr (inl (had, lost))) own = absurd (lost_not_own old _ _ old.standing.version _ w read_before lost own)
  own_as false first w was (inr (inr (none, lost))) own = absurd (lost_not_own old _ _ old.standing.version _ w read_before lost own)

  found_as : (begun : Bool) (first w : World) (t : ℕ) (left : List ℕ) → t ≤ cluster.moment old.cluster → cluster.may_be old.cluster first
      → Looks (cluster.server old.cluster) (cluster.moment old.cluster) old.standing.version begun first w → IsFoundIn old t left w → HasFound cluster old t left
  found_as true first w t left le was so found =
      stays_found cluster counts old first w t left (cluster.server old.cluster) (cluster.moment old.cluster) old.standing.version le was read_before so found
  found_as false first w t left le was so found =
      rests_found cluster counts old first w t left (cluster.server old.cluster) (cluster.moment old.cluster) old.standing.version le was read_before so found

module _ {C : Type 0} (cluster : Cluster C) (counts : CountsNow cluster) (counts_calls : CountsCalls cluster) (by_calls : IsByCalls cluster) (old new : ClusterFile C)
    (same : new ≡ record old { cluster = new.cluster }) (more : ℕ) (wanted : Wanted) (told : Result (Option (List PieceFact)) CallFault)
    (asked : AsksAgain more (AskedPieces wanted) told (cluster.calls old.cluster) (cluster.calls new.cluster))
    (stand : cluster.stand new.cluster ≡ stand_seen wanted told (cluster.stand old.cluster)) (sound : IsSound cluster old)
    (looked : HasLooked cluster old.cluster new.cluster old.standing.version old.has_begun)
    (meanwhile : MayHaveLooked cluster old.cluster new.cluster old.standing.version old.has_begun) where
  kept : KeepsPieces cluster old new
  kept = look_keeps cluster by_calls old new more wanted told asked stand

  read_same : new.read ≡ old.read
  read_same = ap (λ (f : ClusterFile C). f.read) same

  same_file : IsWhole cluster old → file_of (cluster.stand new.cluster) ≡ file_of (cluster.stand old.cluster)
  same_file whole =
      let here = bytes_made (cluster.stand new.cluster) whole.0 (has_still cluster old new whole.0 kept whole.1) in
      let there = bytes_made (cluster.stand old.cluster) whole.0 whole.1 in
      ap (λ (b : List ℕ). b ++ replicate (cluster.stand new.cluster).head.room 0) (here ∙ sym there)
      ∙ ap (λ (n : ℕ). bytes_of (cluster.stand old.cluster) ++ replicate n 0) (ap (λ (h : Head). h.room) kept.head)

  look_crash : IsWhole cluster old → (left : List ℕ) → leaves cluster new left → leaves cluster old left
  look_crash whole left (inl (inl is, are)) =
      inl (inl (is ∙ ap file_of (sym (by_calls new.cluster)) ∙ same_file whole ∙ ap file_of (by_calls old.cluster)), kept.truth are)
  look_crash whole left (inl (inr come, are)) = absurd (look_settled more wanted told (cluster.calls old.cluster) (cluster.calls new.cluster) asked left come)
  look_crash whole left (inr (w, may, own, is)) =
      let it = looked w may in
      inr (subst (λ (l : List ℕ). MayBeFound cluster old l) (sym is)
      (own_as cluster counts old sound old.has_begun it.0 w it.1 it.2 (same_own old new w read_same own)))

  look_looks : IsWhole cluster old → LooksOn cluster old new
  look_looks whole = record {
    crash = look_crash whole;
    time = elapses cluster counts counts_calls old new read_same (Looks (cluster.server old.cluster) (cluster.moment old.cluster) old.standing.version old.has_begun)
        (look_onward (λ left. leaves cluster old left ⊎ leaves cluster new left) more wanted told (cluster.calls old.cluster) (cluster.calls new.cluster) asked
        (λ left stands. inl (inl stands)) (λ left stands. inr (inl stands)))
        meanwhile
        (λ first w t left le was so found. inl (found_as cluster counts old sound old.has_begun first w t left le was so found));
  }

  pub look_learns : cluster.server new.cluster ≡ cluster.server old.cluster → wanted.version ≡ old.standing.version
      → MayLook cluster new.cluster old.standing.version old.has_begun → IsRead cluster old → Learns cluster old new
  look_learns server is may read = record {
    sound = look_sound cluster by_calls old new more wanted told asked stand same server is sound may;
    read = read_still cluster old new kept (ap (λ (f : ClusterFile C). f.starts.items) same) (ap (λ (f : ClusterFile C). f.known) same)
        (ap (λ (f : ClusterFile C). f.piece) same) read;
    kept = kept;
    looks = look_looks;
    grows = let known = ap (λ (f : ClusterFile C). f.known) same in omega (arith, known);
    same = same
        ∙ ap (λ (f : ClusterFile C). record old { cluster = new.cluster; piece = f.piece; starts = f.starts; known = f.known }) (sym same);
  }

-- ONE PIECE MORE

-- it is not noted
pub learned_not : {C : Type 0} (cluster : Cluster C) (mid new : ClusterFile C) → IsSound cluster mid → IsRead cluster mid
    → new ≡ record mid { starts = new.starts } → new.starts.items ≡ mid.starts.items → Learns cluster mid new
learned_not {C} cluster mid new sound read same starts =
    let is : new ≡ record mid { piece = new.piece; starts = new.starts; known = new.known } =
    same ∙ ap (λ (f : ClusterFile C). record mid { piece = f.piece; starts = new.starts; known = f.known }) (sym same) in
    let known = ap (λ (f : ClusterFile C). f.known) same in
    learns_known cluster mid new is sound
    (read_still cluster mid new (known_keeps cluster mid new is) starts known (ap (λ (f : ClusterFile C). f.piece) same) read) (omega (arith, known))

-- the first that was not known is
pub learned : {C : Type 0} (cluster : Cluster C) (mid noted : ClusterFile C) (piece : Piece) → IsSound cluster mid → IsRead cluster mid
    → noted ≡ record mid { starts = noted.starts; known = mid.known + length piece.bytes.items } → (place : ℕ) → noted.starts.items ≡ mid.starts.items ++ place ∷ []
    → noted.known ≤ noted.standing.head.end → mid.known ≡ place → IsTold cluster mid place piece
    → Learns cluster mid (record noted { piece = Some piece })
learned {C} cluster mid noted piece sound read same place starts within known told =
    let new : ClusterFile C = record noted { piece = Some piece } in
    let is : new ≡ record mid { piece = new.piece; starts = new.starts; known = new.known } =
    ap (λ (f : ClusterFile C). record f { piece = Some piece; starts = noted.starts }) same
    ∙ ap (λ (f : ClusterFile C). record mid { piece = Some piece; starts = noted.starts; known = f.known }) (sym same) in
    let long = ap (λ (f : ClusterFile C). f.known) same in
    let end = ap (λ (h : Head). h.end) sound.head in
    let standing = ap (λ (f : ClusterFile C). f.standing.head.end) same in
    learns_known cluster mid new is sound
    (read_noted cluster mid new piece (ap (λ (f : ClusterFile C). f.cluster) same)
    (starts ∙ ap (λ (n : ℕ). mid.starts.items ++ n ∷ []) (sym told.at)) long (told.at ∙ sym known) refl (omega (arith, within, standing, end)) told.some
    (λ are. ap (counted cluster mid) told.at ∙ told.is are) read)
    (omega (arith, long))

-- a piece that was known is at hand
pub fetched : {C : Type 0} (cluster : Cluster C) (mid : ClusterFile C) (piece : Piece) (place : ℕ) → IsSound cluster mid → IsRead cluster mid → IsOneOf place mid.starts.items
    → IsTold cluster mid place piece → Learns cluster mid (record mid { piece = Some piece })
fetched {C} cluster mid piece place sound read one told =
    let new : ClusterFile C = record mid { piece = Some piece } in
    learns_known cluster mid new refl sound
    (read_taken cluster mid new piece refl (λ are. ap (counted cluster mid) told.at ∙ told.is are) (subst (λ (n : ℕ). IsOneOf n mid.starts.items) (sym told.at) one) read)
    (omega arith)
