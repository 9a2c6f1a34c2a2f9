-- What a source told.
use Rattle.std.proofs.Common.{◌≡◌, inl, inr, ◌≤◌, ◌+◌, ◌++◌, ◌∙◌, ℕ, true, List, [], drop, length, length-append, take, refl, sym, ap, subst, arith}
use Rattle.std.proofs.lemmas.List.{take_all}
use Rattle.std.proofs.Math.Seq.{take-add}
use Rattle.std.specs.Prelude.{None, Option, Some, is_some}
use Rattle.etcd_cluster.specs.Bytes.{bytes_of}
use Rattle.etcd_cluster.specs.declared.change.Head.{Head}
use Rattle.etcd_cluster.specs.declared.change.Piece.{Piece}
use Rattle.etcd_cluster.specs.declared.cluster.Cluster.{Ghosts as Cluster}
use Rattle.etcd_cluster.specs.declared.settling.SettleFault.{SettleFault}
use Rattle.etcd_cluster.proofs.Made.{bytes_made}
use Rattle.cluster_file.specs.Devices.{IsBeside}
use Rattle.cluster_file.specs.Files.{IsWhole, seen_of}
use Rattle.cluster_file.specs.Opened.{IsOpened, KeepsTold}
use Rattle.cluster_file.specs.Places.{IsHeld, IsOver, IsRead, Reaches, counted, unpieced}
use Rattle.cluster_file.specs.declared.beside.NextFile.{NextFile}
use Rattle.cluster_file.specs.declared.file.ClusterFile.{ClusterFile}
use Rattle.cluster_file.proofs.Laying.{lost_not}
use Rattle.cluster_file.proofs.Places.{bytes_in}
use Rattle.cluster_device.specs.Failing.{IsWorking}
use Rattle.cluster_device.specs.Sources.{IsTelling}

-- nothing, at first and once it begins anew
pub telling_none : {C : Type 0} (cluster : Cluster C) (file : ClusterFile C) → (file.lost ≡ None → IsOpened cluster file) → IsRead cluster file → IsTelling cluster file 0 []
telling_none cluster file opened read = record { read = read; opened = opened; is = λ working. refl; reaches = λ working. inl (omega arith) }

-- of one that is given up
pub telling_lost : {C : Type 0} (cluster : Cluster C) (file : ClusterFile C) (at : ℕ) (told : List ℕ) → is_some file.lost ≡ true → IsRead cluster file → IsTelling cluster file at told
telling_lost cluster file at told lost read = record {
  read = read;
  opened = λ working. absurd (lost_not file.lost lost working);
  is = λ working. absurd (lost_not file.lost lost working);
  reaches = λ working. absurd (lost_not file.lost lost working);
}

-- AFTER A READ
module _ {C : Type 0} (cluster : Cluster C) (old new : ClusterFile C) (at : ℕ) (told bytes : List ℕ) (telling : IsTelling cluster old at told) (working : old.lost ≡ None)
    (opened : IsOpened cluster new) (read : IsRead cluster new) (front : KeepsTold cluster old new) (reaches : Reaches new (at + length bytes)) where
  front_is : told ≡ take at (seen_of cluster new)
  front_is = telling.is working ∙ sym (front at (telling.reaches working))

  fewer : Reaches new (at + length bytes) → Reaches new at
  fewer (inl within) = inl (omega (arith, within))
  fewer (inr all) = inr all

  -- no more was told
  pub telling_still : IsTelling cluster new at told
  telling_still = record { read = read; opened = λ now. opened; is = λ now. front_is; reaches = λ now. fewer reaches }

  -- some bytes more
  pub telling_more : bytes ≡ take (length bytes) (drop at (seen_of cluster new)) → IsTelling cluster new (at + length bytes) (told ++ bytes)
  telling_more part = record {
    read = read;
    opened = λ now. opened;
    is = λ now.
        ap (λ (l : List ℕ). l ++ bytes) front_is ∙ ap (λ (l : List ℕ). take at (seen_of cluster new) ++ l) part
        ∙ sym (take-add at (length bytes) (seen_of cluster new));
    reaches = λ now. reaches;
  }

-- its end is told from there on
pub over_more : {C : Type 0} (file : ClusterFile C) (at to : ℕ) → IsOver file at → at ≤ to → IsOver file to
over_more file at to over le = let far = over.1 in (over.0, omega (arith, far, le))

-- ALL OF IT
module _ {C : Type 0} (cluster : Cluster C) (file : ClusterFile C) (at : ℕ) (told : List ℕ) (telling : IsTelling cluster file at told) where
  module _ (over : IsOver file at) (working : file.lost ≡ None) where
    abbrev opened : IsOpened cluster file
    opened = telling.opened working

    end_is : (cluster.stand file.cluster).head.end ≡ file.standing.head.end
    end_is = ap (λ (h : Head). h.end) opened.sound.head

    told_whole : IsWhole cluster file
    told_whole =
        let all = bytes_in (counted cluster file) 0 file.starts.items file.known opened.read.pieces in
        let size = all.size in
        let whole = over.0 in
        let within = opened.read.within in
        let end = end_is in (all.bytes, (all.made, omega (arith, size, whole, within, end)))

    pub told_seen : seen_of cluster file ≡ told
    told_seen =
        let bytes = bytes_made (cluster.stand file.cluster) told_whole.0 told_whole.1 in
        let count = told_whole.1.1 in
        let same = ap (λ (l : List ℕ). length l) bytes in
        let both = length-append (bytes_of (cluster.stand file.cluster)) (unpieced file) in
        let far = over.1 in
        let end = end_is in
        sym (take_all at (seen_of cluster file) (omega (arith, count, same, both, far, end))) ∙ sym (telling.is working)

  -- so it is a device
  pub told_works : IsOver file at → IsWorking cluster file 0
  told_works over = (
    record {
      sound = λ working. (telling.opened working).sound;
      whole = λ working. told_whole over working;
      synced = λ working. (telling.opened working).synced;
      beside = λ working. subst (λ (o : Option NextFile). IsBeside cluster file o) (sym (telling.opened working).alone) tt;
      run = λ working some. (let none = ap (λ (l : List ℕ). length l) (telling.opened working).run in absurd (omega (arith, some, none)));
      read = telling.read;
    },
    λ working. refl,
  )

-- one that is given up is none that is written
some_none : (fault : SettleFault) → ◌≡◌ {A = Option SettleFault} (Some fault) None → ⊥
some_none fault is = cc

held_as : {C : Type 0} (cluster : Cluster C) (file : ClusterFile C) (lost : Option SettleFault) (piece : Option Piece) → IsHeld cluster file piece
    → IsHeld cluster (record file { lost = lost }) piece
held_as cluster file lost None held = tt
held_as cluster file lost (Some piece) held = held

pub lost_works : {C : Type 0} (cluster : Cluster C) (file : ClusterFile C) (fault : SettleFault) → IsRead cluster file → IsWorking cluster (record file { lost = Some fault }) 0
lost_works cluster file fault read = (
  record {
    sound = λ working. absurd (some_none fault working);
    whole = λ working. absurd (some_none fault working);
    synced = λ working. absurd (some_none fault working);
    beside = λ working. absurd (some_none fault working);
    run = λ working. absurd (some_none fault working);
    read = λ are. record { pieces = (read are).pieces; within = (read are).within; held = held_as cluster file (Some fault) file.piece (read are).held };
  },
  λ working. refl,
)
