-- A file that is read from its first byte on.
use Rattle.std.proofs.Common.{◌≡◌, ◌<◌, ◌≤◌, ◌+◌, ◌-◌, ◌++◌, ◌∙◌, inl, inr, ℕ, Bool, true, false, List, [], ◌∷◌, drop, length, take, refl, sym, ap, subst, arith}
use Rattle.std.proofs.lemmas.Bool.{eq-eqb, ne_eqb}
use Rattle.std.specs.Global.{Vec}
use Rattle.std.specs.Prelude.{Option, None, Some, Result, Ok, Err, IfOk, OnOk, ◌==◌, ◌&&◌, if◌then◌else◌, map}
use Rattle.batch_file.specs.declared.device.DeviceFault.{DeviceFault}
use Rattle.etcd_cluster.specs.Calls.{Called, Forgot}
use Rattle.etcd_cluster.specs.Knowing.{HasRead, Knows}
use Rattle.etcd_cluster.specs.Sides.{IsLeading, IsNew}
use Rattle.etcd_cluster.specs.Stands.{PieceFact, Stand, piece_fact}
use Rattle.etcd_cluster.specs.Worlds.{forgotten, known_or, seen_pieces, stand_seen, with_pieces}
use Rattle.etcd_cluster.specs.declared.change.Head.{Head}
use Rattle.etcd_cluster.specs.declared.change.Piece.{Piece}
use Rattle.etcd_cluster.specs.declared.cluster.Cluster.{Ghosts as Cluster}
use Rattle.cluster_file.specs.Files.{AsServer, IsSettledBy, IsSound, seen_of, wanted_of}
use Rattle.cluster_file.specs.Looks.{Learns}
use Rattle.cluster_file.specs.Opened.{IsOpened, IsToldAnew, KeepsTold}
use Rattle.cluster_file.specs.Places.{HasByte, IsHeld, IsPartOf, IsRead, IsReadTo, IsTold, KeepsPieces, Reaches, SideBySide, counted, ends, unpieced}
use Rattle.cluster_file.specs.declared.file.ClusterFile.{ClusterFile}
use Rattle.cluster_file.specs.declared.merging.Run.{Run}
use Rattle.cluster_file.proofs.Parting.{held_is}
use Rattle.cluster_file.proofs.Reading.{behind_part, keeps_front, read_noted, read_still}

-- ONE PIECE THAT WAS TOLD

put_anew : (b c : Bool) (bytes : List ℕ) (there : Option (List ℕ)) → b ≡ true → c ≡ true → there ≡ None → (if b && c then known_or there bytes else there) ≡ Some bytes
put_anew true true bytes there one other none = ap (λ (o : Option (List ℕ)). known_or o bytes) none
put_anew true false bytes there one other none = cc
put_anew false c bytes there one other none = cc

put_other : (b c : Bool) (bytes : List ℕ) (there : Option (List ℕ)) → c ≡ false → (if b && c then known_or there bytes else there) ≡ there
put_other b true bytes there is = cc
put_other true false bytes there is = refl
put_other false false bytes there is = refl

abbrev with_one : ℕ → Piece → Stand → Stand
with_one g piece stand =
    record stand { pieces = λ h p. if h == g && p == piece.at then known_or (stand.pieces h p) piece.bytes.items else stand.pieces h p }

seen_one : (b : Bool) (g : ℕ) (piece : Piece) (stand : Stand) → b ≡ true
    → (if b then record stand { pieces = with_pieces g (piece_fact piece ∷ []) stand.pieces } else stand) ≡ with_one g piece stand
seen_one true g piece stand is = refl
seen_one false g piece stand is = cc

pub told_anew : {C : Type 0} (cluster : Cluster C) (old new : ClusterFile C) (place : ℕ) (pieces : Vec Piece) (r : Result Piece DeviceFault) → IsSound cluster old
    → cluster.stand new.cluster ≡ stand_seen (wanted_of old place 1) (seen_pieces (Ok (Some pieces))) (cluster.stand old.cluster)
    → IfOk r (λ piece. (pieces.items ≡ piece ∷ []) × (piece.at ≡ place) × (0 < length piece.bytes.items)) → IfOk r (IsToldAnew cluster old new place)
told_anew cluster old new place pieces (Ok piece) sound stand is =
    let s : Stand = cluster.stand old.cluster in
    let g : ℕ = old.standing.head.generation in
    let facts : map piece_fact pieces.items ≡ piece_fact piece ∷ [] = ap (λ (l : List Piece). map piece_fact l) is.0 in
    let one : cluster.stand new.cluster ≡ with_one g piece s =
    subst (λ (l : List PieceFact). cluster.stand new.cluster ≡ stand_seen (wanted_of old place 1) (Ok (Some l)) s) facts stand
    ∙ seen_one (old.standing.version == s.version) g piece s (eq-eqb old.standing.version s.version (sym sound.version)) in
    let counts : (p : ℕ) → counted cluster new p ≡ (with_one g piece s).pieces s.head.generation p = λ p. ap (λ (x : Stand). x.pieces x.head.generation p) one in
    record {
      is = λ none. counts place
          ∙ put_anew (s.head.generation == g) (place == piece.at) piece.bytes.items (counted cluster old place)
          (eq-eqb s.head.generation g (ap (λ (h : Head). h.generation) sound.head)) (eq-eqb place piece.at (sym is.1)) none;
      others = λ p other. counts p
          ∙ put_other (s.head.generation == g) (p == piece.at) piece.bytes.items (counted cluster old p) (ne_eqb p piece.at (λ same. other (same ∙ is.1)));
    }
told_anew cluster old new place pieces (Err fault) sound stand is = tt

-- WHAT IS KNOWN IS WHAT WAS TOLD: so it is as if no call had told anything else

abbrev surely : {C : Type 0} → Cluster C → Cluster C
surely {C} cluster = record cluster { calls = λ (c : C). [] }

keeps_surely : {C : Type 0} (cluster : Cluster C) (old new : ClusterFile C) → KeepsPieces cluster old new → KeepsPieces (surely cluster) old new
keeps_surely cluster old new kept = record { truth = λ are. tt; head = kept.head; pieces = kept.pieces; beside = kept.beside }

held_surely : {C : Type 0} (cluster : Cluster C) (file : ClusterFile C) (o : Option Piece) → IsHeld cluster file o → IsHeld (surely cluster) file o
held_surely cluster file None held = tt
held_surely cluster file (Some piece) held = held

held_so : {C : Type 0} (cluster : Cluster C) (file : ClusterFile C) (o : Option Piece) → IsHeld (surely cluster) file o → IsHeld cluster file o
held_so cluster file None held = tt
held_so cluster file (Some piece) held = held

read_surely : {C : Type 0} (cluster : Cluster C) (file : ClusterFile C) → IsReadTo cluster file → IsRead (surely cluster) file
read_surely cluster file read are = record { pieces = read.pieces; within = read.within; held = held_surely cluster file file.piece read.held }

read_so : {C : Type 0} (cluster : Cluster C) (file : ClusterFile C) → IsRead (surely cluster) file → IsReadTo cluster file
read_so cluster file read = record { pieces = (read tt).pieces; within = (read tt).within; held = held_so cluster file file.piece (read tt).held }

-- nothing was told of it yet
pub unread : {C : Type 0} (cluster : Cluster C) (file : ClusterFile C) → file.starts.items ≡ [] → file.known ≡ 0 → file.piece ≡ None → IsReadTo cluster file
unread cluster file starts known piece = record {
  pieces = subst (λ (l : List ℕ). SideBySide (counted cluster file) 0 l file.known) (sym starts)
      (subst (λ (n : ℕ). SideBySide (counted cluster file) 0 [] n) (sym known) (ends 0));
  within = omega (arith, known);
  held = subst (λ (o : Option Piece). IsHeld cluster file o) (sym piece) tt;
}

-- where no piece is known it is as it was opened
pub found_opened : {C : Type 0} (cluster : Cluster C) (file : ClusterFile C) → IsSound cluster file → file.starts.items ≡ [] → file.known ≡ 0 → file.piece ≡ None
    → file.unsynced.items ≡ [] → file.room ≡ file.standing.head.room → file.next ≡ None → file.run.bytes.items ≡ [] → ((p : ℕ) → counted cluster file p ≡ None)
    → IsOpened cluster file
found_opened cluster file sound starts known piece empty room alone run none = record {
  sound = sound;
  read = unread cluster file starts known piece;
  none = λ p behind. none p;
  synced = record { none = empty; room = room };
  alone = alone;
  run = run;
}

-- ONE MORE IS KNOWN, AND AT HAND

module _ {C : Type 0} (cluster : Cluster C) (old mid noted : ClusterFile C) (piece : Piece) (opened : IsOpened cluster old) (same : mid ≡ record old { cluster = mid.cluster })
    (kept : KeepsPieces cluster old mid) (told : IsTold cluster mid old.known piece) (anew : IsToldAnew cluster old mid old.known piece)
    (noted_is : noted ≡ record mid { starts = noted.starts; known = mid.known + length piece.bytes.items }) (starts : noted.starts.items ≡ mid.starts.items ++ old.known ∷ [])
    (fits : noted.known ≤ noted.standing.head.end) where
  abbrev next : ClusterFile C
  next = record noted { piece = Some piece }

  was_known : mid.known ≡ old.known
  was_known = ap (λ (f : ClusterFile C). f.known) same

  cluster_is : noted.cluster ≡ mid.cluster
  cluster_is = ap (λ (f : ClusterFile C). f.cluster) noted_is

  known_is : noted.known ≡ mid.known + length piece.bytes.items
  known_is = ap (λ (f : ClusterFile C). f.known) noted_is

  here : counted cluster mid old.known ≡ Some piece.bytes.items
  here = anew.is (opened.none old.known (omega arith))

  mid_read : IsRead (surely cluster) mid
  mid_read =
      read_still (surely cluster) old mid (keeps_surely cluster old mid kept) (ap (λ (f : ClusterFile C). f.starts.items) same) was_known
      (ap (λ (f : ClusterFile C). f.piece) same) (read_surely cluster old opened.read)

  within : noted.known ≤ (cluster.stand mid.cluster).head.end
  within =
      let end = ap (λ (h : Head). h.end) (kept.head ∙ opened.sound.head) in
      let standing = ap (λ (f : ClusterFile C). f.standing.head.end) noted_is ∙ ap (λ (f : ClusterFile C). f.standing.head.end) same in
      omega (arith, fits, end, standing)

  next_read : IsRead (surely cluster) next
  next_read =
      read_noted (surely cluster) mid next piece cluster_is (starts ∙ ap (λ (n : ℕ). mid.starts.items ++ n ∷ []) (sym told.at)) known_is (told.at ∙ sym was_known) refl
      within told.some (λ are. ap (counted cluster mid) told.at ∙ here) mid_read

  none_behind : (p : ℕ) → noted.known ≤ p → counted cluster next p ≡ None
  none_behind p behind =
      let long = told.some in
      let known = known_is in
      let was = was_known in
      ap (λ (c : C). (cluster.stand c).pieces (cluster.stand c).head.generation p) cluster_is
      ∙ anew.others p (λ is. omega (arith, behind, long, known, was, is))
      ∙ opened.none p (omega (arith, behind, known, was))

  pub opened_more : IsSound cluster next → IsOpened cluster next
  opened_more sound = record {
    sound = sound;
    read = read_so cluster next next_read;
    none = none_behind;
    synced = record {
      none = ap (λ (f : ClusterFile C). f.unsynced.items) noted_is ∙ ap (λ (f : ClusterFile C). f.unsynced.items) same ∙ opened.synced.none;
      room = ap (λ (f : ClusterFile C). f.room) noted_is ∙ ap (λ (f : ClusterFile C). f.room) same ∙ opened.synced.room
          ∙ sym (ap (λ (f : ClusterFile C). f.standing.head.room) noted_is ∙ ap (λ (f : ClusterFile C). f.standing.head.room) same);
    };
    alone = ap (λ (f : ClusterFile C). f.next) noted_is ∙ ap (λ (f : ClusterFile C). f.next) same ∙ opened.alone;
    run = ap (λ (f : ClusterFile C). f.run.bytes.items) noted_is ∙ ap (λ (f : ClusterFile C). f.run.bytes.items) same ∙ opened.run;
  }

-- what was told stays as it was
pub opened_front : {C : Type 0} (cluster : Cluster C) (old new : ClusterFile C) → IsOpened cluster old → Learns cluster old new → KeepsTold cluster old new
opened_front {C} cluster old new opened learns =
    (keeps_front (surely cluster) old new (ap (λ (f : ClusterFile C). f.unsynced) learns.same) (ap (λ (f : ClusterFile C). f.room) learns.same) opened.sound.head
    (keeps_surely cluster old new learns.kept) (read_surely cluster old opened.read)).front tt

-- WHAT IS TOLD OF IT

module _ {C : Type 0} (cluster : Cluster C) (file : ClusterFile C) (at : ℕ) (opened : IsOpened cluster file) where
  -- of the piece at hand
  pub opened_reads : (r : Result (Vec ℕ) DeviceFault) → HasByte at file.piece → IfOk r (IsPartOf file.piece at)
      → IfOk r (λ bytes. bytes.items ≡ take (length bytes.items) (drop at (seen_of cluster file)))
  opened_reads (Ok bytes) byte part = (held_is cluster file file.piece at bytes opened.read (opened.read).held byte part).0
  opened_reads (Err fault) byte part = tt

  pub opened_reaches : (r : Result (Vec ℕ) DeviceFault) → HasByte at file.piece → IfOk r (IsPartOf file.piece at) → IfOk r (λ bytes. Reaches file (at + length bytes.items))
  opened_reaches (Ok bytes) byte part = inl ((held_is cluster file file.piece at bytes opened.read (opened.read).held byte part).1)
  opened_reaches (Err fault) byte part = tt

  -- of what is in no piece
  module _ (reached : file.standing.head.end ≤ file.known) (behind : file.standing.head.end ≤ at) where
    pub opened_behind : (r : Result (Vec ℕ) DeviceFault) → IfOk r (λ bytes. bytes.items ≡ take (length bytes.items) (drop (at - file.standing.head.end) (unpieced file)))
        → IfOk r (λ bytes. bytes.items ≡ take (length bytes.items) (drop at (seen_of cluster file)))
    opened_behind (Ok bytes) part =
        let within = (opened.read).within in
        let end : (cluster.stand file.cluster).head.end ≡ file.standing.head.end = ap (λ (h : Head). h.end) (opened.sound).head in
        part
        ∙ ap (λ (n : ℕ). take (length bytes.items) (drop (at - n) (unpieced file))) (sym end)
        ∙ behind_part cluster file at (length bytes.items) opened.read (omega (arith, within, reached, end)) (omega (arith, behind, end))
    opened_behind (Err fault) part = tt

    pub opened_all : (r : Result (Vec ℕ) DeviceFault) → IfOk r (λ bytes. Reaches file (at + length bytes.items))
    opened_all (Ok bytes) = inr reached
    opened_all (Err fault) = tt

pub if_done : {A E : Type 0} (r : Result A E) (P : Type 0) → P → OnOk r P
if_done (Ok a) P is = is
if_done (Err e) P is = tt

-- IT IS READ ANEW

module _ {C : Type 0} (cluster : Cluster C) (old : ClusterFile C) (c : C) (starts : Vec ℕ) (unsynced : Vec ℕ) (run : Run) (none : starts.items ≡ []) (empty : unsynced.items ≡ [])
    (ended : run.bytes.items ≡ []) where
  abbrev fresh : ClusterFile C
  fresh = record old {
    cluster = c;
    known = 0;
    starts = starts;
    piece = None;
    unsynced = unsynced;
    room = old.standing.head.room;
    next = None;
    run = run;
  }

  pub fresh_unread : IsReadTo cluster fresh
  fresh_unread = unread cluster fresh none refl refl

  pub fresh_opened : (calls : cluster.calls c ≡ Forgot ∷ cluster.calls old.cluster) → ((version : ℕ) → IsLeading cluster old.cluster version → IsLeading cluster c version)
      → ((version : ℕ) → IsNew cluster old.cluster version → IsNew cluster c version) → (HasRead cluster old.cluster → HasRead cluster c)
      → (Knows cluster old.cluster → Knows cluster c) → cluster.stand c ≡ forgotten (cluster.stand old.cluster) → cluster.server c ≡ cluster.server old.cluster
      → IsSound cluster old → IsOpened cluster fresh
  fresh_opened calls leads unbegun read knows stand server sound = record {
    sound = record {
      server = server ∙ sound.server;
      version = ap (λ (s : Stand). s.version) stand ∙ sound.version;
      head = ap (λ (s : Stand). s.head) stand ∙ sound.head;
      settled = subst (λ (l : List Called). IsSettledBy l) (sym calls) (λ left comes. comes);
      so = so_as old.has_begun sound.so;
    };
    read = fresh_unread;
    none = λ p behind. ap (λ (s : Stand). s.pieces s.head.generation p) stand;
    synced = record { none = empty; room = refl };
    alone = refl;
    run = ended;
  }
    where
      so_as : (begun : Bool) → AsServer cluster old begun → AsServer cluster fresh begun
      so_as true so = (leads old.standing.version so.0, knows so.1, so.2, so.3)
      so_as false so = (unbegun old.standing.version so.0, read so.1, so.2)
