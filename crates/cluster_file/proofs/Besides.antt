-- A change of the next file leaves the file.
use Rattle.std.proofs.Common.{◌≡◌, ◌<◌, ◌∙◌, ℕ, Bool, true, false, List, [], ◌∷◌, refl, sym, ap, subst, arith}
use Rattle.std.proofs.lemmas.Bool.{ne_eqb}
use Rattle.std.specs.Prelude.{None, Option, Some, ◌==◌, ◌&&◌, nat_le, nat_lt, if◌then◌else◌}
use Rattle.etcd_cluster.specs.Bytes.{HasBytes}
use Rattle.etcd_cluster.specs.Calls.{AreTrue}
use Rattle.etcd_cluster.specs.Stands.{ChangeFact, Clears, Forgets, Lays, Pieces, Stand, WriteFact, done_at, written}
use Rattle.etcd_cluster.specs.declared.change.Head.{Head}
use Rattle.etcd_cluster.specs.declared.cluster.Cluster.{Ghosts as Cluster}
use Rattle.etcd_cluster.proofs.Made.{made_again}
use Rattle.cluster_file.specs.Devices.{GoesOn, IsBeside, IsWell, KeepsSeen}
use Rattle.cluster_file.specs.Files.{CountsSame, IsGivenUp, IsMade, IsSameBut, IsTried, KeepsWritten, MayHaveMade, change_of}
use Rattle.cluster_file.specs.Moments.{AreTrueWhere, CountsCalls, CountsNow}
use Rattle.cluster_file.specs.Nexts.{IsWrittenBeside, LeavesCounted}
use Rattle.cluster_file.specs.Runs.{IsRunOf}
use Rattle.cluster_file.specs.declared.beside.NextFile.{NextFile}
use Rattle.cluster_file.specs.declared.file.ClusterFile.{ClusterFile}
use Rattle.cluster_file.specs.declared.merging.Run.{Run}
use Rattle.cluster_file.proofs.After.{read_counted}
use Rattle.cluster_file.proofs.Dropping.{goes_lost, synced_by}
use Rattle.cluster_file.proofs.Kept.{given_seen, keeps_written, made_seen}
use Rattle.cluster_file.proofs.Laid.{bytes_stay}
use Rattle.cluster_file.proofs.Laying.{counts_known, lost_not}
use Rattle.cluster_file.proofs.Looking.{IsByCalls}
use Rattle.cluster_file.proofs.Proceeding.{given_no_more, given_proceeds, made_no_more, made_time, truth}
use Rattle.cluster_file.proofs.Runs.{run_counted}

put_elsewhere : (b c : Bool) (piece : List ℕ) (there : Option (List ℕ)) → b ≡ false → (if b && c then Some piece else there) ≡ there
put_elsewhere true c piece there is = cc
put_elsewhere false c piece there is = refl

gone_elsewhere : (b c d : Bool) (there : Option (List ℕ)) → b ≡ false → (if b && c && d then None else there) ≡ there
gone_elsewhere true c d there is = cc
gone_elsewhere false c d there is = refl

-- no piece that counts is changed
pub counted_same : (pieces : Pieces) (generation : ℕ) (write : WriteFact) → LeavesCounted generation write → (p : ℕ) → written write pieces generation p ≡ pieces generation p
counted_same pieces generation (Lays other at bytes) elsewhere p =
    put_elsewhere (generation == other) (p == at) bytes (pieces generation p) (ne_eqb generation other elsewhere)
counted_same pieces generation (Clears other from to) elsewhere p =
    gone_elsewhere (generation == other) (nat_le from p) (nat_lt p to) (pieces generation p) (ne_eqb generation other elsewhere)
counted_same pieces generation (Forgets other) elsewhere p = absurd elsewhere

module _ {C : Type 0} (cluster : Cluster C) (counts : CountsNow cluster) (counts_calls : CountsCalls cluster) (true_where : AreTrueWhere cluster) (by_calls : IsByCalls cluster)
    (old new : ClusterFile C) (well : IsWell cluster old) (working : old.lost ≡ None) (none : old.next ≡ None) (head : Head) (write : WriteFact)
    (same_counts : CountsSame old.standing.head head) (beside : LeavesCounted old.standing.head.generation write) (same : IsSameBut old new)
    (tried : IsTried cluster old new (change_of old head (write ∷ []))) (meanwhile : MayHaveMade cluster old.cluster new.cluster (change_of old head (write ∷ [])) old.has_begun) where
  abbrev change : ChangeFact
  change = change_of old head (write ∷ [])

  abbrev stood : Stand
  stood = cluster.stand old.cluster

  abbrev bytes : List ℕ
  bytes = (well.whole working).0

  had : HasBytes stood bytes
  had = (well.whole working).1

  known : CountsSame stood.head head
  known = counts_known cluster old head (well.sound working) same_counts

  apart : LeavesCounted head.generation write
  apart = subst (λ (g : ℕ). LeavesCounted g write) (sym same_counts.2) beside

  has : HasBytes (done_at 0 change stood) bytes
  has =
      bytes_stay stood 0 change bytes known had
      (λ made. made_again (stood.pieces head.generation) (written write stood.pieces head.generation) 0 bytes (λ p below. counted_same stood.pieces head.generation write apart p) made)

  kept : KeepsWritten old new
  kept = keeps_written old new same

  none_now : new.next ≡ None
  none_now = ap (λ (f : ClusterFile C). f.next) same ∙ none

  -- IT WAS MADE

  module _ (made : IsMade cluster old new change) where
    pub made_written : IsWrittenBeside cluster old new write
    made_written = record { generation = ap (λ (s : Stand). s.head.generation) made.stand ∙ known.2; pieces = λ g p. ap (λ (s : Stand). s.pieces g p) made.stand }

    counted_now : (p : ℕ) (piece : List ℕ) → p < stood.head.end → stood.pieces stood.head.generation p ≡ Some piece
        → (cluster.stand new.cluster).pieces (cluster.stand new.cluster).head.generation p ≡ Some piece
    counted_now p piece below is =
        subst (λ (s : Stand). s.pieces s.head.generation p ≡ Some piece) (sym made.stand)
        (counted_same stood.pieces head.generation write apart p ∙ ap (λ (g : ℕ). stood.pieces g p) known.2 ∙ is)

    end_now : (cluster.stand new.cluster).head.end ≡ stood.head.end
    end_now = ap (λ (s : Stand). s.head.end) made.stand ∙ known.0

    made_well : IsWell cluster new
    made_well = record {
      sound = λ working. made.sound;
      whole = λ working. (bytes, subst (λ (s : Stand). HasBytes s bytes) (sym made.stand) has);
      synced = λ working_now.
          synced_by cluster old new kept (subst (λ (h : Head). CountsSame old.standing.head h) (sym made.head) same_counts) (well.synced working);
      beside = λ working. subst (λ (o : Option NextFile). IsBeside cluster new o) (sym none_now) tt;
      run = λ working_now.
          subst (λ (r : Run). IsRunOf (cluster.stand new.cluster) r) (sym kept.run)
          (run_counted stood (cluster.stand new.cluster) old.run counted_now end_now (well.run working));
      read = read_counted cluster old new true_before counted_now (let end = end_now in omega (arith, end))
          (ap (λ (f : ClusterFile C). f.starts) same) (ap (λ (f : ClusterFile C). f.known) same) (ap (λ (f : ClusterFile C). f.piece) same) well.read;
    }
      where
        true_before : AreTrue (cluster.calls new.cluster) → AreTrue (cluster.calls old.cluster)
        true_before are =
            truth cluster counts counts_calls true_where by_calls old new (well.sound working) change refl bytes had same_counts has same kept tried meanwhile are

    pub made_goes : GoesOn cluster old new
    made_goes = record {
      well = made_well;
      truth = λ are.
          truth cluster counts counts_calls true_where by_calls old new (well.sound working) change refl bytes had same_counts has same kept tried meanwhile are;
      time = made_time cluster counts counts_calls true_where by_calls old new (well.sound working) change refl bytes had same_counts has same kept tried meanwhile made;
      lost = λ lost. absurd (lost_not old.lost lost working);
    }

    pub made_beside : KeepsSeen cluster old new
    made_beside = record {
      seen = made_seen cluster old new change (well.sound working) kept refl bytes had same_counts has made;
      crash = made_no_more cluster counts counts_calls true_where by_calls old new (well.sound working) change refl bytes had same_counts has same kept tried meanwhile made;
    }

  -- OR IT IS GIVEN UP

  module _ (given : IsGivenUp cluster old new change) where
    pub given_goes : GoesOn cluster old new
    given_goes =
        goes_lost cluster old new well working
        (given_proceeds cluster counts counts_calls true_where by_calls old new (well.sound working) change refl bytes had same_counts has same kept tried meanwhile given) given.lost

    pub given_beside : KeepsSeen cluster old new
    given_beside = record {
      seen = given_seen cluster old new change (well.sound working) kept refl bytes had same_counts has given;
      crash = given_no_more cluster counts counts_calls true_where by_calls old new (well.sound working) change refl bytes had same_counts has same kept tried meanwhile given;
    }
