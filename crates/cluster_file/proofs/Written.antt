-- What was written, before it is put there.
use Rattle.std.proofs.Common.{◌≡◌, ◌⊎◌, inl, inr, ◌≤◌, ◌+◌, ◌-◌, ◌++◌, ◌∙◌, ℕ, List, [], length, length-append, drop, take, append_assoc, append-nil, sym, ap, subst, arith}
use Rattle.std.proofs.lemmas.List.{drop-replicate, length-replicate, take-replicate}
use Rattle.std.proofs.Math.Seq.{drop-append-add, take-append-add}
use Rattle.std.specs.Global.{Vec}
use Rattle.std.specs.Prelude.{Option, Result, Ok, Err, OnErr, OnOk, replicate}
use Rattle.batch_file.specs.Crashes.{IsWrittenAt}
use Rattle.batch_file.specs.declared.device.DeviceFault.{DeviceFault}
use Rattle.etcd_cluster.specs.Bytes.{bytes_of}
use Rattle.etcd_cluster.specs.Stands.{ChangeFact}
use Rattle.etcd_cluster.specs.declared.change.Head.{Head}
use Rattle.etcd_cluster.specs.declared.cluster.Cluster.{Ghosts as Cluster}
use Rattle.etcd_cluster.proofs.Made.{bytes_made}
use Rattle.etcd_cluster.specs.Calls.{AreTrue}
use Rattle.etcd_cluster.specs.declared.settling.SettleFault.{SettleFault}
use Rattle.cluster_file.specs.Devices.{LeavesOrPut, LeavesOrSeen, LeavesOrThis, LosesAtFailure, Proceeds, has_left, leaves}
use Rattle.cluster_file.specs.Files.{IsGivenUp, IsSound, IsWhole, seen_of}
use Rattle.cluster_file.specs.declared.file.ClusterFile.{ClusterFile}

-- bytes over zeros behind a front, and past them
pub written_over : (front bytes : List ℕ) (room at : ℕ) → length front ≤ at → at ≤ length (front ++ replicate room 0)
    → IsWrittenAt (front ++ replicate room 0) at bytes
    (front ++ ((replicate (at - length front) 0 ++ bytes) ++ replicate (room - length (replicate (at - length front) 0 ++ bytes)) 0))
written_over front bytes room at behind within =
    let gap : ℕ = at - length front in
    let all : List ℕ = front ++ replicate room 0 in
    let whole = length-append front (replicate room 0) in
    let zeros : length {A = ℕ} (replicate room 0) ≡ room = length-replicate room 0 in
    let gaps : length {A = ℕ} (replicate gap 0) ≡ gap = length-replicate gap 0 in
    let both = length-append (replicate gap 0) bytes in
    let there : length front + gap ≡ at = omega (arith, behind) in
    let far : length front + (gap + length bytes) ≡ at + length bytes = omega (arith, behind) in
    let first : take at all ≡ front ++ replicate gap 0 =
    ap (λ (n : ℕ). take n all) (sym there) ∙ take-append-add front (replicate room 0) gap
    ∙ ap (λ (l : List ℕ). front ++ l) (take-replicate gap room 0 (omega (arith, behind, within, whole, zeros))) in
    let rest : drop (at + length bytes) all ≡ replicate (room - (gap + length bytes)) 0 =
    ap (λ (n : ℕ). drop n all) (sym far) ∙ drop-append-add front (replicate room 0) (gap + length bytes) ∙ drop-replicate (gap + length bytes) room 0 in
    let more : length (replicate gap 0 ++ bytes) ≡ gap + length bytes = omega (arith, both, gaps) in
    ap (λ (n : ℕ). front ++ ((replicate gap 0 ++ bytes) ++ replicate (room - n) 0)) more
    ∙ ap (λ (l : List ℕ). front ++ l) (append_assoc (replicate gap 0) bytes (replicate (room - (gap + length bytes)) 0))
    ∙ sym (append_assoc front (replicate gap 0) (bytes ++ replicate (room - (gap + length bytes)) 0))
    ∙ ap (λ (l : List ℕ). l ++ (bytes ++ replicate (room - (gap + length bytes)) 0)) (sym first)
    ∙ ap (λ (l : List ℕ). take at all ++ (bytes ++ l)) (sym rest)
    ∙ sym (append_assoc (take at all) bytes (drop (at + length bytes) all))

-- what is so anyway
pub ok_any : {A E : Type 0} (r : Result A E) (P : Type 0) → P → OnOk r P
ok_any (Ok a) P is = is
ok_any (Err e) P is = tt

-- a change that was not made has lost the file
pub given_loses : {T C : Type 0} (cluster : Cluster C) (r : Result T DeviceFault) (old new : ClusterFile C) (change : ChangeFact) → OnErr r (IsGivenUp cluster old new change)
    → LosesAtFailure r new
given_loses cluster (Ok a) old new change given = tt
given_loses cluster (Err e) old new change given = λ failure. given.lost

-- what part after part keeps, where it is given up then
pub proceeds_lose : {C : Type 0} (cluster : Cluster C) (before old : ClusterFile C) (lost : Option SettleFault) → Proceeds cluster before old → Proceeds cluster before (record old { lost = lost })
proceeds_lose cluster before old lost on = record {
  truth = on.truth;
  time = record {
    later = on.time.later;
    nothing_else = λ t left le is. last t left (on.time.nothing_else t left le (lose_since t left is));
    keeps = λ t left le is. since_lose t left (on.time.keeps t left le is);
  };
  others = on.others;
  longer = on.longer;
  reading = record { starts = on.reading.starts; known = on.reading.known; piece = on.reading.piece; next = on.reading.next; read = on.reading.read };
  run = on.run;
}
  where
    lose_since : (t : ℕ) (left : List ℕ) → has_left cluster (record old { lost = lost }) t left → has_left cluster old t left
    lose_since t left (inl stood) = inl stood
    lose_since t left (inr found) = inr found

    since_lose : (t : ℕ) (left : List ℕ) → has_left cluster old t left → has_left cluster (record old { lost = lost }) t left
    since_lose t left (inl stood) = inl stood
    since_lose t left (inr found) = inr found

    leaves_lose : (left : List ℕ) → leaves cluster old left → leaves cluster (record old { lost = lost }) left
    leaves_lose left (inl stands) = inl stands
    leaves_lose left (inr found) = inr found

    last : (t : ℕ) (left : List ℕ) → has_left cluster before t left ⊎ leaves cluster old left
        → has_left cluster before t left ⊎ leaves cluster (record old { lost = lost }) left
    last t left (inl was) = inl was
    last t left (inr now) = inr (leaves_lose left now)

-- WHAT WAS WRITTEN BESIDE THE PIECES makes no other of what is left
module _ {C : Type 0} (cluster : Cluster C) (old : ClusterFile C) (u : Vec ℕ) (room : ℕ) where
  abbrev beside : ClusterFile C
  beside = record old { unsynced = u; room = room }

  pub beside_leaves : (left : List ℕ) → leaves cluster beside left → leaves cluster old left
  beside_leaves left (inl stands) = inl stands
  beside_leaves left (inr found) = inr found

  pub leaves_beside : (left : List ℕ) → leaves cluster old left → leaves cluster beside left
  leaves_beside left (inl stands) = inl stands
  leaves_beside left (inr found) = inr found

  beside_since : (t : ℕ) (left : List ℕ) → has_left cluster beside t left → has_left cluster old t left
  beside_since t left (inl stood) = inl stood
  beside_since t left (inr found) = inr found

  since_beside : (t : ℕ) (left : List ℕ) → has_left cluster old t left → has_left cluster beside t left
  since_beside t left (inl stood) = inl stood
  since_beside t left (inr found) = inr found

  pub proceeds_from : (new : ClusterFile C) → Proceeds cluster beside new → Proceeds cluster old new
  proceeds_from new on = record {
    truth = on.truth;
    time = record {
      later = on.time.later;
      nothing_else = λ t left le is. first t left (on.time.nothing_else t left le is);
      keeps = λ t left le is. on.time.keeps t left le (since_beside t left is);
    };
    others = on.others;
    longer = on.longer;
    reading = record { starts = on.reading.starts; known = on.reading.known; piece = on.reading.piece; next = on.reading.next; read = on.reading.read };
    run = on.run;
  }
    where
      first : (t : ℕ) (left : List ℕ) → has_left cluster beside t left ⊎ leaves cluster new left → has_left cluster old t left ⊎ leaves cluster new left
      first t left (inl was) = inl (beside_since t left was)
      first t left (inr now) = inr now

  pub proceeds_to : (before : ClusterFile C) → Proceeds cluster before old → Proceeds cluster before beside
  proceeds_to before on = record {
    truth = on.truth;
    time = record {
      later = on.time.later;
      nothing_else = λ t left le is. last t left (on.time.nothing_else t left le (beside_since t left is));
      keeps = λ t left le is. since_beside t left (on.time.keeps t left le is);
    };
    others = on.others;
    longer = on.longer;
    reading = record { starts = on.reading.starts; known = on.reading.known; piece = on.reading.piece; next = on.reading.next; read = on.reading.read };
    run = on.run;
  }
    where
      last : (t : ℕ) (left : List ℕ) → has_left cluster before t left ⊎ leaves cluster old left → has_left cluster before t left ⊎ leaves cluster beside left
      last t left (inl was) = inl was
      last t left (inr now) = inr (leaves_beside left now)

-- so it is of a file that was whole
pub written_behind : {C : Type 0} (cluster : Cluster C) (old : ClusterFile C) → IsSound cluster old → IsWhole cluster old → old.unsynced.items ≡ [] → (at : ℕ) (bytes : List ℕ) (u : Vec ℕ)
    (room : ℕ) → old.standing.head.end ≤ at → at ≤ length (seen_of cluster old) → u.items ≡ replicate (at - old.standing.head.end) 0 ++ bytes
    → room ≡ old.room - length u.items → IsWrittenAt (seen_of cluster old) at bytes (seen_of cluster (record old { unsynced = u; room = room }))
written_behind cluster old sound whole none at bytes u room behind within is left =
    let front : List ℕ = bytes_of (cluster.stand old.cluster) in
    let made = bytes_made (cluster.stand old.cluster) whole.0 whole.1 in
    let count = ap (λ (l : List ℕ). length l) made in
    let end = whole.1.1 in
    let head = ap (λ (h : Head). h.end) sound.head in
    let long : length front ≡ old.standing.head.end = omega (arith, count, end, head) in
    let was : seen_of cluster old ≡ front ++ replicate old.room 0 = ap (λ (l : List ℕ). front ++ (l ++ replicate old.room 0)) none in
    let gap : List ℕ = replicate (at - length front) 0 in
    let items : u.items ≡ gap ++ bytes = is ∙ ap (λ (n : ℕ). replicate (at - n) 0 ++ bytes) (sym long) in
    let now : seen_of cluster (record old { unsynced = u; room = room }) ≡ front ++ ((gap ++ bytes) ++ replicate (old.room - length (gap ++ bytes)) 0) =
    ap (λ (n : ℕ). front ++ (u.items ++ replicate n 0)) left ∙ ap (λ (l : List ℕ). front ++ (l ++ replicate (old.room - length l) 0)) items in
    now
    ∙ written_over front bytes old.room at (omega (arith, long, behind)) (subst (λ (l : List ℕ). at ≤ length l) was within)
    ∙ ap (λ (l : List ℕ). take at l ++ bytes ++ drop (at + length bytes) l) (sym was)

-- and so where the zeros go
pub cut_behind : {C : Type 0} (cluster : Cluster C) (old : ClusterFile C) → IsSound cluster old → IsWhole cluster old → old.unsynced.items ≡ [] → (at : ℕ) (bytes : List ℕ) (u : Vec ℕ)
    → old.standing.head.end ≤ at → at ≤ length (seen_of cluster old) → u.items ≡ replicate (at - old.standing.head.end) 0 ++ bytes
    → seen_of cluster (record old { unsynced = u; room = 0 }) ≡ take at (seen_of cluster old) ++ bytes
cut_behind cluster old sound whole none at bytes u behind within is =
    let front : List ℕ = bytes_of (cluster.stand old.cluster) in
    let made = bytes_made (cluster.stand old.cluster) whole.0 whole.1 in
    let count = ap (λ (l : List ℕ). length l) made in
    let end = whole.1.1 in
    let head = ap (λ (h : Head). h.end) sound.head in
    let long : length front ≡ old.standing.head.end = omega (arith, count, end, head) in
    let was : seen_of cluster old ≡ front ++ replicate old.room 0 = ap (λ (l : List ℕ). front ++ (l ++ replicate old.room 0)) none in
    let gap : ℕ = at - length front in
    let items : u.items ≡ replicate gap 0 ++ bytes = is ∙ ap (λ (n : ℕ). replicate (at - n) 0 ++ bytes) (sym long) in
    let all : List ℕ = front ++ replicate old.room 0 in
    let short : at ≤ length all = subst (λ (l : List ℕ). at ≤ length l) was within in
    let sizes = length-append front (replicate old.room 0) in
    let zeros : length {A = ℕ} (replicate old.room 0) ≡ old.room = length-replicate old.room 0 in
    let there : length front + gap ≡ at = omega (arith, long, behind) in
    let first : take at all ≡ front ++ replicate gap 0 =
    ap (λ (n : ℕ). take n all) (sym there) ∙ take-append-add front (replicate old.room 0) gap
    ∙ ap (λ (l : List ℕ). front ++ l) (take-replicate gap old.room 0 (omega (arith, long, behind, short, sizes, zeros))) in
    ap (λ (l : List ℕ). front ++ l) (append-nil u.items)
    ∙ ap (λ (l : List ℕ). front ++ l) items
    ∙ sym (append_assoc front (replicate gap 0) bytes)
    ∙ ap (λ (l : List ℕ). l ++ bytes) (sym first)
    ∙ ap (λ (l : List ℕ). take at l ++ bytes) (sym was)

-- the parts that clauses want of such a file
pub sound_beside : {C : Type 0} (cluster : Cluster C) (old : ClusterFile C) (u : Vec ℕ) (room : ℕ) → IsSound cluster old → IsSound cluster (record old { unsynced = u; room = room })
sound_beside cluster old u room sound =
    record { server = sound.server; version = sound.version; head = sound.head; settled = sound.settled; so = sound.so }

-- what a crash leaves of a file on which nothing was written and that is given up
pub lose_leaves : {C : Type 0} (cluster : Cluster C) (old : ClusterFile C) (lost : Option SettleFault) (left : List ℕ) → leaves cluster (record old { lost = lost }) left
    → leaves cluster old left
lose_leaves cluster old lost left (inl stands) = inl stands
lose_leaves cluster old lost left (inr found) = inr found

-- or what is put in its place
pub this_or : {C : Type 0} (cluster : Cluster C) (old new : ClusterFile C) (u : Vec ℕ) (room : ℕ) (bytes : List ℕ)
    → seen_of cluster (record old { unsynced = u; room = room }) ≡ bytes → LeavesOrSeen cluster (record old { unsynced = u; room = room }) new → LeavesOrThis cluster old new bytes
this_or cluster old new u room bytes same then_left left is = each (then_left left is)
  where
    each : leaves cluster (record old { unsynced = u; room = room }) left
        ⊎ ((left ≡ seen_of cluster (record old { unsynced = u; room = room })) × AreTrue (cluster.calls old.cluster))
        → leaves cluster old left ⊎ ((left ≡ bytes) × AreTrue (cluster.calls old.cluster))
    each (inl was) = inl (beside_leaves cluster old u room left was)
    each (inr (sees, are)) = inr (sees ∙ same, are)

-- what was put is what was written
pub put_or : {C : Type 0} (cluster : Cluster C) (old new : ClusterFile C) (u : Vec ℕ) (room at : ℕ) (bytes : List ℕ)
    → IsWrittenAt (seen_of cluster old) at bytes (seen_of cluster (record old { unsynced = u; room = room }))
    → LeavesOrSeen cluster (record old { unsynced = u; room = room }) new → LeavesOrPut cluster old new at bytes
put_or cluster old new u room at bytes written then_left left is = each (then_left left is)
  where
    each : leaves cluster (record old { unsynced = u; room = room }) left
        ⊎ ((left ≡ seen_of cluster (record old { unsynced = u; room = room })) × AreTrue (cluster.calls old.cluster))
        → leaves cluster old left ⊎ (IsWrittenAt (seen_of cluster old) at bytes left × AreTrue (cluster.calls old.cluster))
    each (inl was) = inl (beside_leaves cluster old u room left was)
    each (inr (sees, are)) = inr (sees ∙ written, are)
