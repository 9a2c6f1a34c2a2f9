-- All that was written is put there.
use Rattle.std.proofs.Common.{◌≡◌, inl, inr, ◌≤◌, ◌+◌, ◌-◌, ◌++◌, ◌∙◌, ℕ, List, [], ◌∷◌, length, length-append, take, drop, append_assoc, append-nil, refl, sym, ap, subst, arith}
use Rattle.std.proofs.lemmas.List.{length-take-le, replicate-append-replicate, take-append-drop}
use Rattle.std.specs.Global.{Vec}
use Rattle.std.specs.Prelude.{Bool, true, false, None, replicate}
use Rattle.batch_file.specs.Crashes.{Only}
use Rattle.etcd_cluster.specs.Bytes.{HasBytes, Make, bytes_of, file_of}
use Rattle.etcd_cluster.specs.Stands.{ChangeFact, Stand, done_at}
use Rattle.etcd_cluster.specs.declared.change.Head.{Head}
use Rattle.etcd_cluster.specs.declared.cluster.Cluster.{Ghosts as Cluster}
use Rattle.etcd_cluster.proofs.Made.{bytes_made}
use Rattle.cluster_file.specs.Files.{AsServer, IsMade, IsNotMade, IsSettledBy, IsSound, IsSynced, IsWhole, KeepsWritten, MayBeFound, NothingSent, change_of, last_writes, may_leave_of, piece_of, seen_of}
use Rattle.cluster_file.specs.declared.file.ClusterFile.{ClusterFile}
use Rattle.cluster_file.proofs.Laid.{last_bytes}
use Rattle.cluster_file.specs.declared.merging.Run.{Run}
use Rattle.etcd_cluster.specs.Knowing.{HasRead, Knows}
use Rattle.etcd_cluster.specs.Sides.{IsLeading, IsNew}
use Rattle.etcd_cluster.specs.declared.change.Standing.{Standing}
use Rattle.cluster_file.proofs.Kept.{seen_by}
use Rattle.cluster_file.proofs.Laying.{lost_not, piece_long, take_on}
use Rattle.cluster_file.proofs.Left.{left_given_up, left_seen, only_found}

-- zeros that were written are no part of what is put there
pub seen_synced : (bytes u : List ℕ) (size room : ℕ) → drop size u ≡ replicate (length u - size) 0
    → (bytes ++ take size u) ++ replicate (room + (length u - size)) 0 ≡ bytes ++ (u ++ replicate room 0)
seen_synced bytes u size room zeros =
    let z = length u - size in
    let sums : z + room ≡ room + z = omega arith in
    let whole : u ++ replicate room 0 ≡ take size u ++ replicate (room + z) 0 =
    ap (λ (l : List ℕ). l ++ replicate room 0) (sym (take-append-drop size u))
    ∙ append_assoc (take size u) (drop size u) (replicate room 0)
    ∙ ap (λ (l : List ℕ). take size u ++ (l ++ replicate room 0)) zeros
    ∙ ap (λ (l : List ℕ). take size u ++ l) (replicate-append-replicate z room 0)
    ∙ ap (λ (n : ℕ). take size u ++ replicate n 0) sums in
    append_assoc bytes (take size u) (replicate (room + z) 0) ∙ ap (λ (l : List ℕ). bytes ++ l) (sym whole)

module _ {C : Type 0} (cluster : Cluster C) (old : ClusterFile C) (sound : IsSound cluster old) (head : Head) (place from to : ℕ) (within : to ≤ length old.unsynced.items)
    (ordered : from ≤ to) (at : place ≡ old.standing.head.end + from) (generation : head.generation ≡ old.standing.head.generation)
    (end : head.end ≡ old.standing.head.end + to) (bytes : List ℕ) (has : HasBytes (cluster.stand old.cluster) bytes)
    (made : Make ((cluster.stand old.cluster).pieces (cluster.stand old.cluster).head.generation) 0 (bytes ++ take from old.unsynced.items)) where
  abbrev pub last : ChangeFact
  last = change_of old head (last_writes head place (piece_of old from to))

  head_end : old.standing.head.end ≡ length bytes
  head_end = sym (ap (λ (h : Head). h.end) sound.head) ∙ has.1

  same_generation : head.generation ≡ (cluster.stand old.cluster).head.generation
  same_generation = generation ∙ sym (ap (λ (h : Head). h.generation) sound.head)

  by_piece : (piece : List ℕ) → length piece ≡ to - from → (bytes ++ take from old.unsynced.items) ++ piece ≡ bytes ++ take to old.unsynced.items
      → HasBytes (done_at 0 (change_of old head (last_writes head place piece)) (cluster.stand old.cluster)) (bytes ++ take to old.unsynced.items)
  by_piece [] long is =
      let items = old.unsynced.items in
      let all = length-append bytes (take to items) in
      let front = length-take-le to items within in
      let there = subst (λ (g : ℕ). Make ((cluster.stand old.cluster).pieces g) 0 (bytes ++ take from items)) (sym same_generation) made in (
        subst (λ (b : List ℕ). Make ((cluster.stand old.cluster).pieces head.generation) 0 b) (sym (append-nil (bytes ++ take from items)) ∙ is) there,
        omega (arith, end, head_end, all, front),
      )
  by_piece (byte ∷ piece) long is =
      let items = old.unsynced.items in
      let both = length-append bytes (take from items) in
      let front = length-take-le from items (omega (arith, ordered, within)) in
      subst (λ (b : List ℕ). HasBytes (done_at 0 (change_of old head (last_writes head place (byte ∷ piece))) (cluster.stand old.cluster)) b) is
      (last_bytes (cluster.stand old.cluster) 0 old.standing.version place head (byte ∷ piece) (bytes ++ take from items) same_generation
      (omega (arith, at, head_end, both, front)) (omega (arith, end, at, long, ordered)) (omega arith) made)

  -- the file has all of it
  pub last_has : HasBytes (done_at 0 last (cluster.stand old.cluster)) (bytes ++ take to old.unsynced.items)
  last_has =
      let items = old.unsynced.items in
      by_piece (piece_of old from to) (piece_long from to items within)
      (append_assoc bytes (take from items) (piece_of old from to) ∙ ap (λ (b : List ℕ). bytes ++ b) (take_on from to items ordered (omega (arith, ordered, within))))

  -- which is what a read returned before
  pub last_seen : (room : ℕ) → drop to old.unsynced.items ≡ replicate (length old.unsynced.items - to) 0 → room ≡ old.room
      → head.room ≡ room + (length old.unsynced.items - to) → file_of (done_at 0 last (cluster.stand old.cluster)) ≡ seen_of cluster old
  last_seen room zeros is head_room =
      let items = old.unsynced.items in
      ap (λ (b : List ℕ). b ++ replicate head.room 0) (bytes_made (done_at 0 last (cluster.stand old.cluster)) (bytes ++ take to items) last_has)
      ∙ ap (λ (n : ℕ). (bytes ++ take to items) ++ replicate n 0) (head_room ∙ ap (λ (n : ℕ). n + (length items - to)) is)
      ∙ seen_synced bytes items to old.room zeros
      ∙ ap (λ (b : List ℕ). b ++ (items ++ replicate old.room 0)) (sym (bytes_made (cluster.stand old.cluster) bytes has))

  -- WHERE IT WAS MADE

  module _ (new : ClusterFile C) (done : IsMade cluster old new last) (zeros : drop to old.unsynced.items ≡ replicate (length old.unsynced.items - to) 0) (room : ℕ)
      (room_is : head.room ≡ room) (room_of : room ≡ old.room + (length old.unsynced.items - to)) (u : Vec ℕ) (none : u.items ≡ []) (run : Run) where
    -- and noted
    abbrev pub final : ClusterFile C
    final = record new { room = room; unsynced = u; run = run }

    new_has : HasBytes (cluster.stand new.cluster) (bytes ++ take to old.unsynced.items)
    new_has = subst (λ (s : Stand). HasBytes s (bytes ++ take to old.unsynced.items)) (sym done.stand) last_has

    pub new_file : file_of (cluster.stand new.cluster) ≡ seen_of cluster old
    new_file = ap file_of done.stand ∙ last_seen old.room zeros refl (room_is ∙ room_of)

    pub final_sound : IsSound cluster final
    final_sound =
        record { server = done.sound.server; version = done.sound.version; head = done.sound.head; settled = done.sound.settled; so = done.sound.so }

    pub final_whole : IsWhole cluster final
    final_whole = (bytes ++ take to old.unsynced.items, new_has)

    final_file : seen_of cluster final ≡ file_of (cluster.stand new.cluster)
    final_file =
        let stands : (cluster.stand new.cluster).head.room ≡ room = ap (λ (s : Stand). s.head.room) done.stand ∙ room_is in
        ap (λ (l : List ℕ). bytes_of (cluster.stand new.cluster) ++ (l ++ replicate room 0)) none
        ∙ ap (λ (n : ℕ). bytes_of (cluster.stand new.cluster) ++ replicate n 0) (sym stands)

    pub final_seen : seen_of cluster final ≡ seen_of cluster old
    final_seen = final_file ∙ new_file

    pub final_only : Only (seen_of cluster old) (may_leave_of cluster final)
    final_only left (inl is) = is ∙ final_seen
    final_only left (inr found) = only_found cluster new done.sound (bytes ++ take to old.unsynced.items) new_has done.begun left found ∙ new_file

    pub final_crash : (left : List ℕ) → may_leave_of cluster final left → may_leave_of cluster old left
    final_crash left is = inl (final_only left is)

    pub final_synced : IsSynced final
    final_synced = record { none = none; room = sym room_is ∙ sym (ap (λ (h : Head). h.room) done.head) }

  -- WHERE IT WAS NOT

  module _ (new : ClusterFile C) (kept : KeepsWritten old new) (zeros : drop to old.unsynced.items ≡ replicate (length old.unsynced.items - to) 0)
      (head_room : head.room ≡ old.room + (length old.unsynced.items - to)) (not : IsNotMade cluster old new last) where
    as_same : NothingSent old new → (b : Bool) → AsServer cluster old b → AsServer cluster new b
    as_same sent true so = (
      subst (λ (c : C). IsLeading cluster c new.standing.version) (sym sent.cluster) (subst (λ (s : Standing). IsLeading cluster old.cluster s.version) (sym sent.standing) so.0),
      subst (λ (c : C). Knows cluster c) (sym sent.cluster) so.1,
      ap (λ (s : Standing). s.head.server) sent.standing ∙ so.2 ∙ sym kept.server,
      (let read = kept.read in let version = ap (λ (s : Standing). s.version) sent.standing in let less = so.3 in omega (arith, read, version, less)),
    )
    as_same sent false so = (
      subst (λ (c : C). IsNew cluster c new.standing.version) (sym sent.cluster) (subst (λ (s : Standing). IsNew cluster old.cluster s.version) (sym sent.standing) so.0),
      subst (λ (c : C). HasRead cluster c) (sym sent.cluster) so.1,
      kept.read ∙ so.2 ∙ sym (ap (λ (s : Standing). s.version) sent.standing),
    )

    same_sound : NothingSent old new → IsSound cluster new
    same_sound sent = record {
      server = ap (λ (c : C). cluster.server c) sent.cluster ∙ sound.server ∙ sym kept.server;
      version = ap (λ (c : C). (cluster.stand c).version) sent.cluster ∙ sound.version ∙ sym (ap (λ (s : Standing). s.version) sent.standing);
      head = ap (λ (c : C). (cluster.stand c).head) sent.cluster ∙ sound.head ∙ sym (ap (λ (s : Standing). s.head) sent.standing);
      settled = subst (λ (c : C). IsSettledBy (cluster.calls c)) (sym sent.cluster) sound.settled;
      so = subst (λ (b : Bool). AsServer cluster new b) (sym sent.begun) (as_same sent old.has_begun sound.so);
    }

    pub not_seen : seen_of cluster new ≡ seen_of cluster old
    not_seen =
        elim not [
          | inl sent ↦ seen_by cluster old new kept (ap (λ (c : C). bytes_of (cluster.stand c)) sent.cluster)
          | inr given ↦ seen_by cluster old new kept (ap bytes_of given.stand)
        ]

    pub not_whole : new.lost ≡ None → IsSound cluster new × IsWhole cluster new
    not_whole working =
        elim not [
          | inl sent ↦ (same_sound sent, (bytes, subst (λ (c : C). HasBytes (cluster.stand c) bytes) (sym sent.cluster) has))
          | inr given ↦ absurd (lost_not new.lost given.lost working)
        ]

    found_same : NothingSent old new → (left : List ℕ) → MayBeFound cluster new left → MayBeFound cluster old left
    found_same sent left (w, may, own, is) = (
      w,
      subst (λ (c : C). cluster.may_be c w) sent.cluster may,
      elim own [
        | inl alone ↦ inl alone
        | inr of ↦ inr (of ∙ kept.read)
      ],
      is,
    )

    pub not_crash : (left : List ℕ) → may_leave_of cluster new left → may_leave_of cluster old left
    not_crash left (inl is) = inl (is ∙ not_seen)
    not_crash left (inr found) =
        elim not [
          | inl sent ↦ inr (found_same sent left found)
          | inr given ↦
              left_seen cluster old new last sound kept.read refl bytes (bytes ++ take to old.unsynced.items) has last_has (last_seen old.room zeros refl head_room) left
              (left_given_up cluster old new last sound kept.read refl bytes (bytes ++ take to old.unsynced.items) has last_has given left found)
        ]
