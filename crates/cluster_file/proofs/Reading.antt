-- What is read of a file.
use Rattle.std.proofs.Common.{◌≡◌, inl, inr, ◌<◌, ◌≤◌, ◌+◌, ◌-◌, ◌++◌, ◌∙◌, ℕ, List, [], ◌∷◌, drop, length, length-take, take, sym, ap, subst, arith}
use Rattle.std.proofs.lemmas.List.{drop-drop, drop-take, take-append-le, take-take}
use Rattle.std.proofs.Math.Seq.{drop-append-add}
use Rattle.std.specs.Global.{Vec}
use Rattle.std.specs.Prelude.{Option, None, Some, replicate}
use Rattle.etcd_cluster.specs.Bytes.{Make, bytes_of, none, one_more}
use Rattle.etcd_cluster.specs.Calls.{AreTrue}
use Rattle.etcd_cluster.specs.Stands.{Stand}
use Rattle.etcd_cluster.specs.declared.change.Head.{Head}
use Rattle.etcd_cluster.specs.declared.change.Piece.{Piece}
use Rattle.etcd_cluster.specs.declared.cluster.Cluster.{Ghosts as Cluster}
use Rattle.etcd_cluster.proofs.Made.{bytes_made}
use Rattle.cluster_file.specs.Files.{seen_of}
use Rattle.cluster_file.specs.Places.{IsHeld, IsOneOf, IsRead, IsReadTo, KeepsFront, KeepsPieces, Reaches, SideBySide, counted, unpieced}
use Rattle.cluster_file.specs.declared.file.ClusterFile.{ClusterFile}
use Rattle.cluster_file.proofs.Places.{AreBytes, beside_more, beside_still, bytes_in, front_is, one_of_last, part_alike}

pub made_still : (pieces others : ℕ → Option (List ℕ)) (at : ℕ) (bytes : List ℕ) → ((p : ℕ) (piece : List ℕ) → pieces p ≡ Some piece → others p ≡ Some piece)
    → Make pieces at bytes → Make others at bytes
made_still pieces others at bytes same (none _) = none at
made_still pieces others at bytes same (one_more _ piece rest is long later) =
    one_more at piece rest (same at piece is) long (made_still pieces others (at + length piece) rest same later)

-- THE FRONT

-- the bytes that known pieces make are there
front_long : (stand : Stand) (bytes : List ℕ) → Make (stand.pieces stand.head.generation) 0 bytes → length bytes ≤ stand.head.end → length bytes ≤ length (bytes_of stand)
front_long stand bytes made short =
    let same = ap (λ (l : List ℕ). length l) (front_is stand bytes (length bytes) made short (omega arith)) in
    let here = length-take (length bytes) (bytes_of stand) in
    let there = length-take (length bytes) bytes in
    omega (arith, same, here, there)

pub seen_front : (stand : Stand) (bytes more : List ℕ) (n : ℕ) → Make (stand.pieces stand.head.generation) 0 bytes → length bytes ≤ stand.head.end → n ≤ length bytes
    → take n (bytes_of stand ++ more) ≡ take n bytes
seen_front stand bytes more n made short within =
    let long = front_long stand bytes made short in
    take-append-le n (bytes_of stand) more (omega (arith, long, within)) ∙ front_is stand bytes n made short within

module _ {C : Type 0} (cluster : Cluster C) (old new : ClusterFile C) (unsynced : new.unsynced ≡ old.unsynced) (room : new.room ≡ old.room)
    (head_is : (cluster.stand old.cluster).head ≡ old.standing.head) (kept : KeepsPieces cluster old new) (read : IsRead cluster old) where
  behind_same : unpieced new ≡ unpieced old
  behind_same =
      ap (λ (v : Vec ℕ). v.items ++ replicate new.room 0) unsynced ∙ ap (λ (n : ℕ). old.unsynced.items ++ replicate n 0) room

  end_same : (cluster.stand new.cluster).head.end ≡ (cluster.stand old.cluster).head.end
  end_same = ap (λ (h : Head). h.end) kept.head

  was_bytes : AreTrue (cluster.calls new.cluster) → AreBytes (counted cluster old) 0 old.starts.items old.known
  was_bytes are = bytes_in (counted cluster old) 0 old.starts.items old.known (read (kept.truth are)).pieces

  now_made : (are : AreTrue (cluster.calls new.cluster)) → Make (counted cluster new) 0 (was_bytes are).bytes
  now_made are = made_still (counted cluster old) (counted cluster new) 0 (was_bytes are).bytes kept.pieces (was_bytes are).made

  front_by : (are : AreTrue (cluster.calls new.cluster)) (n : ℕ) → Reaches old n → take n (seen_of cluster new) ≡ take n (seen_of cluster old)
  front_by are n (inl within) =
      let was = read (kept.truth are) in
      let bytes = (was_bytes are).bytes in
      let size = (was_bytes are).size in
      let fits = was.within in
      let same = end_same in
      seen_front (cluster.stand new.cluster) bytes (unpieced new) n (now_made are) (omega (arith, size, fits, same)) (omega (arith, size, within))
      ∙ sym (seen_front (cluster.stand old.cluster) bytes (unpieced old) n (was_bytes are).made (omega (arith, size, fits)) (omega (arith, size, within)))
  front_by are n (inr all) =
      let bytes = (was_bytes are).bytes in
      let size = (was_bytes are).size in
      let within = (read (kept.truth are)).within in
      let same = end_same in
      let end : (cluster.stand old.cluster).head.end ≡ old.standing.head.end = ap (λ (h : Head). h.end) head_is in
      let here = bytes_made (cluster.stand new.cluster) bytes (now_made are, omega (arith, size, all, within, same, end)) in
      let there = bytes_made (cluster.stand old.cluster) bytes ((was_bytes are).made, omega (arith, size, all, within, end)) in
      ap (λ (l : List ℕ). take n l)
      (ap (λ (b : List ℕ). b ++ unpieced new) (here ∙ sym there) ∙ ap (λ (b : List ℕ). bytes_of (cluster.stand old.cluster) ++ b) behind_same)

  pub keeps_front : KeepsFront cluster old new
  keeps_front = record { truth = kept.truth; front = front_by }

-- PARTS

-- what a piece at hand has is what a read returns
pub held_part : {C : Type 0} (cluster : Cluster C) (file : ClusterFile C) (piece : Piece) (at size : ℕ) → IsReadTo cluster file → IsHeld cluster file (Some piece) → piece.at ≤ at
    → (at - piece.at) + size ≤ length piece.bytes.items
    → (take size (drop (at - piece.at) piece.bytes.items) ≡ take size (drop at (seen_of cluster file))) × (at + size ≤ file.known)
held_part cluster file piece at size read held after within =
    let all = bytes_in (counted cluster file) 0 file.starts.items file.known read.pieces in
    let part = all.parts piece.at piece.bytes.items held.1 held.0 in
    let long = all.size in
    let fits = read.within in
    let inside = part.within in
    let d : ℕ = at - piece.at in
    let m : ℕ = length piece.bytes.items - d in
    let place : piece.at + d ≡ at = omega (arith, after) in
    let split : length piece.bytes.items ≡ d + m = omega (arith, within) in
    let no_gap : piece.at - 0 ≡ piece.at = omega arith in
    let behind : List ℕ = drop piece.at all.bytes in
    let is : take (length piece.bytes.items) behind ≡ piece.bytes.items =
    ap (λ (n : ℕ). take (length piece.bytes.items) (drop n all.bytes)) (sym no_gap) ∙ part.is in
    let rest : drop d piece.bytes.items ≡ take m (drop d behind) =
    ap (λ (l : List ℕ). drop d l) (sym is) ∙ ap (λ (n : ℕ). drop d (take n behind)) split ∙ drop-take d m behind in
    let there : take size (drop d piece.bytes.items) ≡ take size (drop at all.bytes) =
    ap (λ (l : List ℕ). take size l) rest ∙ take-take size m (drop d behind) (omega (arith, within))
    ∙ ap (λ (l : List ℕ). take size l) (drop-drop d piece.at all.bytes ∙ ap (λ (n : ℕ). drop n all.bytes) place) in (
      there ∙ sym (part_alike at size (seen_of cluster file) all.bytes
          (seen_front (cluster.stand file.cluster) all.bytes (unpieced file) (at + size) all.made (omega (arith, long, fits)) (omega (arith, inside, within, after)))),
      omega (arith, long, inside, within, after),
    )

-- behind all pieces stands what is in none
pub behind_part : {C : Type 0} (cluster : Cluster C) (file : ClusterFile C) (at size : ℕ) → IsReadTo cluster file → file.known ≡ (cluster.stand file.cluster).head.end
    → (cluster.stand file.cluster).head.end ≤ at
    → take size (drop (at - (cluster.stand file.cluster).head.end) (unpieced file)) ≡ take size (drop at (seen_of cluster file))
behind_part cluster file at size read whole after =
    let all = bytes_in (counted cluster file) 0 file.starts.items file.known read.pieces in
    let long = all.size in
    let is = bytes_made (cluster.stand file.cluster) all.bytes (all.made, omega (arith, long, whole)) in
    let size_is : length (bytes_of (cluster.stand file.cluster)) ≡ (cluster.stand file.cluster).head.end = (let same = ap (λ (l : List ℕ). length l) is in omega (arith, same, long, whole)) in
    let place : length (bytes_of (cluster.stand file.cluster)) + (at - (cluster.stand file.cluster).head.end) ≡ at = omega (arith, size_is, after) in
    sym (ap (λ (n : ℕ). take size (drop n (seen_of cluster file))) (sym place)
    ∙ ap (λ (l : List ℕ). take size l) (drop-append-add (bytes_of (cluster.stand file.cluster)) (unpieced file) (at - (cluster.stand file.cluster).head.end)))

-- AFTER A LOOK

held_still : {C : Type 0} (cluster : Cluster C) (old new : ClusterFile C) (piece : Option Piece) → KeepsPieces cluster old new → new.starts.items ≡ old.starts.items
    → IsHeld cluster old piece → IsHeld cluster new piece
held_still cluster old new None kept starts held = tt
held_still cluster old new (Some piece) kept starts held =
    (kept.pieces piece.at piece.bytes.items held.0, subst (λ (l : List ℕ). IsOneOf piece.at l) (sym starts) held.1)

pub read_still : {C : Type 0} (cluster : Cluster C) (old new : ClusterFile C) → KeepsPieces cluster old new → new.starts.items ≡ old.starts.items → new.known ≡ old.known
    → new.piece ≡ old.piece → IsRead cluster old → IsRead cluster new
read_still cluster old new kept starts known piece read are =
    let was = read (kept.truth are) in
    let end = ap (λ (h : Head). h.end) kept.head in
    let within = was.within in
    let still : SideBySide (counted cluster new) 0 old.starts.items old.known =
    beside_still (counted cluster old) (counted cluster new) 0 old.starts.items old.known kept.pieces was.pieces in
    record {
      pieces = subst (λ (l : List ℕ). SideBySide (counted cluster new) 0 l new.known) (sym starts)
          (subst (λ (n : ℕ). SideBySide (counted cluster new) 0 old.starts.items n) (sym known) still);
      within = omega (arith, within, known, end);
      held = subst (λ (p : Option Piece). IsHeld cluster new p) (sym piece) (held_still cluster old new old.piece kept starts was.held);
    }

-- ONE PIECE MORE IS AT HAND

-- the first that was not known
pub read_noted : {C : Type 0} (cluster : Cluster C) (mid new : ClusterFile C) (piece : Piece) → new.cluster ≡ mid.cluster
    → new.starts.items ≡ mid.starts.items ++ piece.at ∷ [] → new.known ≡ mid.known + length piece.bytes.items → piece.at ≡ mid.known → new.piece ≡ Some piece
    → new.known ≤ (cluster.stand mid.cluster).head.end → 0 < length piece.bytes.items
    → (AreTrue (cluster.calls mid.cluster) → counted cluster mid piece.at ≡ Some piece.bytes.items) → IsRead cluster mid → IsRead cluster new
read_noted {C} cluster mid new piece same starts known at held within some told read are =
    let were = subst (λ (c : C). AreTrue (cluster.calls c)) same are in
    let was = read were in
    let is = told were in
    let beside : SideBySide (counted cluster mid) 0 (mid.starts.items ++ piece.at ∷ []) (mid.known + length piece.bytes.items) =
    subst (λ (n : ℕ). SideBySide (counted cluster mid) 0 (mid.starts.items ++ n ∷ []) (mid.known + length piece.bytes.items)) (sym at)
    (beside_more (counted cluster mid) 0 mid.starts.items mid.known piece.bytes.items (ap (counted cluster mid) (sym at) ∙ is) some was.pieces) in
    let there : SideBySide (counted cluster mid) 0 new.starts.items new.known =
    subst (λ (l : List ℕ). SideBySide (counted cluster mid) 0 l new.known) (sym starts)
    (subst (λ (n : ℕ). SideBySide (counted cluster mid) 0 (mid.starts.items ++ piece.at ∷ []) n) (sym known) beside) in
    record {
      pieces = subst (λ (c : C). SideBySide ((cluster.stand c).pieces (cluster.stand c).head.generation) 0 new.starts.items new.known) (sym same) there;
      within = subst (λ (c : C). new.known ≤ (cluster.stand c).head.end) (sym same) within;
      held = subst (λ (p : Option Piece). IsHeld cluster new p) (sym held) (
        subst (λ (c : C). (cluster.stand c).pieces (cluster.stand c).head.generation piece.at ≡ Some piece.bytes.items) (sym same) is,
        subst (λ (l : List ℕ). IsOneOf piece.at l) (sym starts) (one_of_last piece.at mid.starts.items),
      );
    }

-- one of those that were
pub read_taken : {C : Type 0} (cluster : Cluster C) (mid new : ClusterFile C) (piece : Piece) → new ≡ record mid { piece = Some piece }
    → (AreTrue (cluster.calls mid.cluster) → counted cluster mid piece.at ≡ Some piece.bytes.items) → IsOneOf piece.at mid.starts.items → IsRead cluster mid → IsRead cluster new
read_taken {C} cluster mid new piece same told one read =
    subst (λ (x : ClusterFile C). IsRead cluster x) (sym same) (λ are. record { pieces = (read are).pieces; within = (read are).within; held = (told are, one) })
