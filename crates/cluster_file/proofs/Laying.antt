-- A piece more of what was written is laid behind the end of a file.
use Rattle.std.proofs.Common.{◌≡◌, inl, inr, ◌<◌, ◌≤◌, ◌+◌, ◌-◌, ◌++◌, ◌∙◌, ℕ, List, [], ◌∷◌, length, length-append, take, drop, append_assoc, append-nil, refl, sym, ap, subst, arith}
use Rattle.std.proofs.lemmas.List.{length-drop, length-take-le, take-append-drop}
use Rattle.std.proofs.Math.Seq.{take-append-add}
use Rattle.std.specs.Global.{Vec}
use Rattle.std.specs.Prelude.{Option, None, Some, true, is_some}
use Rattle.etcd_cluster.specs.Bytes.{HasBytes, Make}
use Rattle.etcd_cluster.specs.Stands.{ChangeFact, Lays, Stand, done_at}
use Rattle.etcd_cluster.specs.declared.change.Head.{Head}
use Rattle.etcd_cluster.specs.declared.cluster.Cluster.{Ghosts as Cluster}
use Rattle.cluster_file.specs.Files.{CountsSame, FindsSame, IsLaid, IsLaidTo, IsMade, IsSound, IsWhole, KeepsWritten, LaysMore, change_of, last_writes, may_leave_of, piece_of, seen_of}
use Rattle.cluster_file.specs.declared.file.ClusterFile.{ClusterFile}
use Rattle.cluster_file.proofs.Laid.{lay_bytes, made_put}

-- the bytes up to there, and those behind them
pub take_on : (from to : ℕ) (l : List ℕ) → from ≤ to → from ≤ length l → take from l ++ take (to - from) (drop from l) ≡ take to l
take_on from to l le short =
    let long : length (take from l) ≡ from = length-take-le from l short in
    let whole : length (take from l) + (to - from) ≡ to = omega (arith, long, le) in
    sym (take-append-add (take from l) (drop from l) (to - from))
    ∙ ap (λ (xs : List ℕ). take (length (take from l) + (to - from)) xs) (take-append-drop from l)
    ∙ ap (λ (n : ℕ). take n l) whole

pub piece_long : (from to : ℕ) (l : List ℕ) → to ≤ length l → length (take (to - from) (drop from l)) ≡ to - from
piece_long from to l within =
    let behind = length-drop from l in
    length-take-le (to - from) (drop from l) (omega (arith, within, behind))

-- the head that is known counts the same
pub counts_known : {C : Type 0} (cluster : Cluster C) (file : ClusterFile C) (head : Head) → IsSound cluster file → CountsSame file.standing.head head
    → CountsSame (cluster.stand file.cluster).head head
counts_known cluster file head sound counts = (
  counts.0 ∙ sym (ap (λ (h : Head). h.end) sound.head),
  counts.1 ∙ sym (ap (λ (h : Head). h.room) sound.head),
  counts.2 ∙ sym (ap (λ (h : Head). h.generation) sound.head),
)

module _ {C : Type 0} (cluster : Cluster C) (old : ClusterFile C) (sound : IsSound cluster old) (head : Head) (counts : CountsSame old.standing.head head)
    (place from to : ℕ) (at : place ≡ old.standing.head.end + from) (some : from < to) (within : to ≤ length old.unsynced.items) where
  abbrev pub laying : ChangeFact
  laying = change_of old head (Lays head.generation place (piece_of old from to) ∷ [])

  pub laid_has : (bytes : List ℕ) → HasBytes (cluster.stand old.cluster) bytes → HasBytes (done_at 0 laying (cluster.stand old.cluster)) bytes
  laid_has bytes has =
      let end = ap (λ (h : Head). h.end) sound.head in
      lay_bytes (cluster.stand old.cluster) 0 old.standing.version place head (piece_of old from to) bytes (counts_known cluster old head sound counts)
      (omega (arith, at, end)) has

  laid_made : (version : ℕ) (bytes : List ℕ) → HasBytes (cluster.stand old.cluster) bytes
      → Make ((cluster.stand old.cluster).pieces (cluster.stand old.cluster).head.generation) 0 (bytes ++ take from old.unsynced.items)
      → Make ((done_at version laying (cluster.stand old.cluster)).pieces head.generation) 0 (bytes ++ take to old.unsynced.items)
  laid_made version bytes has made =
      let known = counts_known cluster old head sound counts in
      let end = has.1 in
      let head_end = ap (λ (h : Head). h.end) sound.head in
      let items = old.unsynced.items in
      let front = length-take-le from items (omega (arith, some, within)) in
      let both = length-append bytes (take from items) in
      let long = piece_long from to items within in
      let there =
      made_put (cluster.stand old.cluster).pieces head.generation place (piece_of old from to) (bytes ++ take from items) (omega (arith, at, end, head_end, front, both))
      (omega (arith, long, some)) (subst (λ (g : ℕ). Make ((cluster.stand old.cluster).pieces g) 0 (bytes ++ take from items)) (sym known.2) made) in
      subst (λ (b : List ℕ). Make ((done_at version laying (cluster.stand old.cluster)).pieces head.generation) 0 b)
      (append_assoc bytes (take from items) (piece_of old from to)
      ∙ ap (λ (b : List ℕ). bytes ++ b) (take_on from to items (omega (arith, some)) (omega (arith, some, within)))) there

  -- one piece more
  pub lays_more : (new : ClusterFile C) → IsMade cluster old new laying → new.lost ≡ None → LaysMore cluster old new from to
  lays_more new made working = record {
    working = working;
    sound = made.sound;
    counts = subst (λ (h : Head). CountsSame old.standing.head h) (sym made.head) counts;
    has = λ bytes has. subst (λ (s : Stand). HasBytes s bytes) (sym made.stand) (laid_has bytes has);
    made = λ bytes has before.
        subst (λ (s : Stand). Make (s.pieces s.head.generation) 0 (bytes ++ take to old.unsynced.items)) (sym made.stand)
        (laid_made new.standing.version bytes has before);
  }

-- the last piece, where there is one
pub last_none : (head : Head) (place from to : ℕ) (items : List ℕ) → from ≡ to → last_writes head place (take (to - from) (drop from items)) ≡ []
last_none head place from to items same =
    let none : to - from ≡ 0 = omega (arith, same) in
    ap (λ (n : ℕ). last_writes head place (take n (drop from items))) none

pub last_some : (head : Head) (place : ℕ) (piece : List ℕ) → 0 < length piece → last_writes head place piece ≡ Lays head.generation place piece ∷ []
last_some head place [] some = absurd (omega (arith, some))
last_some head place (byte ∷ piece) some = refl

pub lost_not : {A : Type 0} (o : Option A) → is_some o ≡ true → o ≡ None → ⊥
lost_not None lost none = cc
lost_not (Some a) lost none = cc

-- PIECE AFTER PIECE

pub none_laid : {C : Type 0} (cluster : Cluster C) (old : ClusterFile C) → old.lost ≡ None → IsSound cluster old → IsLaid cluster old old 0
none_laid cluster old working sound = record {
  kept = record { unsynced = refl; room = refl; read = refl; server = refl; run = refl };
  working = working;
  sound = sound;
  counts = (refl, refl, refl);
  has = λ bytes has. has;
  made = λ bytes has.
      subst (λ (b : List ℕ). Make ((cluster.stand old.cluster).pieces (cluster.stand old.cluster).head.generation) 0 b) (sym (append-nil bytes)) has.0;
  seen = refl;
  found = λ left found. found;
}

pub laid_on : {C : Type 0} (cluster : Cluster C) (old mid new : ClusterFile C) (from to : ℕ) → IsLaid cluster old mid from → KeepsWritten mid new → seen_of cluster new ≡ seen_of cluster mid
    → FindsSame cluster mid new → LaysMore cluster mid new from to → IsLaid cluster old new to
laid_on cluster old mid new from to laid kept seen found more = record {
  kept = record {
    unsynced = kept.unsynced ∙ laid.kept.unsynced;
    room = kept.room ∙ laid.kept.room;
    read = kept.read ∙ laid.kept.read;
    server = kept.server ∙ laid.kept.server;
    run = kept.run ∙ laid.kept.run;
  };
  working = more.working;
  sound = more.sound;
  counts = (more.counts.0 ∙ laid.counts.0, more.counts.1 ∙ laid.counts.1, more.counts.2 ∙ laid.counts.2);
  has = λ bytes has. more.has bytes (laid.has bytes has);
  made = λ bytes has.
      let before =
      subst (λ (v : Vec ℕ). Make ((cluster.stand mid.cluster).pieces (cluster.stand mid.cluster).head.generation) 0 (bytes ++ take from v.items)) (sym laid.kept.unsynced)
      (laid.made bytes has) in
      subst (λ (v : Vec ℕ). Make ((cluster.stand new.cluster).pieces (cluster.stand new.cluster).head.generation) 0 (bytes ++ take to v.items)) laid.kept.unsynced
      (more.made bytes (laid.has bytes has) before);
  seen = seen ∙ laid.seen;
  found = λ left is. laid.found left (found left is);
}

-- so far as it came
pub laid_to : {C : Type 0} (cluster : Cluster C) (old mid : ClusterFile C) (at : ℕ) → IsWhole cluster old → IsLaid cluster old mid at → IsLaidTo cluster mid at
laid_to cluster old mid at whole laid = record {
  bytes = whole.0;
  has = laid.has whole.0 whole.1;
  made = subst (λ (v : Vec ℕ). Make ((cluster.stand mid.cluster).pieces (cluster.stand mid.cluster).head.generation) 0 (whole.0 ++ take at v.items)) (sym laid.kept.unsynced)
      (laid.made whole.0 whole.1);
}

-- nothing else is left than before
pub left_on : {C : Type 0} (cluster : Cluster C) (old new : ClusterFile C) → seen_of cluster new ≡ seen_of cluster old → FindsSame cluster old new → (left : List ℕ)
    → may_leave_of cluster new left → may_leave_of cluster old left
left_on cluster old new seen found left (inl is) = inl (is ∙ seen)
left_on cluster old new seen found left (inr is) = inr (found left is)
