-- What stood there before is let go of: nothing of what stands there changes by that.
use Rattle.std.proofs.Common.{◌≡◌, ◌∙◌, inr, ℕ, true, List, ◌∷◌, sym, ap, subst}
use Rattle.std.specs.Prelude.{None, is_some}
use Rattle.etcd_cluster.specs.Calls.{AreTrue, Called, Compacted}
use Rattle.etcd_cluster.specs.declared.cluster.Cluster.{Ghosts as Cluster}
use Rattle.cluster_file.specs.Devices.{GoesOn, KeepsSeen, StandsThere, leaves}
use Rattle.cluster_file.specs.Files.{ComesBy, IsSettledBy}
use Rattle.cluster_file.specs.Moments.{AreTrueWhere, CountsNow, only_true_of}
use Rattle.cluster_file.specs.declared.file.ClusterFile.{ClusterFile}
use Rattle.cluster_file.proofs.Going.{begun_only, stands_old}
use Rattle.cluster_file.proofs.Looking.{IsByCalls}
use Rattle.cluster_file.proofs.Since.{Onward, elapses_on, no_call, one_call}

-- THE CALL

pub let_onward : (P : List ℕ → Type 0) (version : ℕ) (old new : List Called) → new ≡ Compacted version ∷ old → ((left : List ℕ) → StandsThere old left → P left)
    → ((left : List ℕ) → StandsThere new left → P left) → Onward P old new
let_onward P version old new is was now =
    subst (λ (calls : List Called). Onward P old calls) (sym is)
    (one_call (Compacted version) old no_call (λ left stands. now left (subst (λ (calls : List Called). StandsThere calls left) (sym is) stands)))

pub let_settled : (version : ℕ) (old new : List Called) → new ≡ Compacted version ∷ old → IsSettledBy new
let_settled version old new is left comes = subst (λ (calls : List Called). ComesBy calls left) is comes

pub let_true : (version : ℕ) (old new : List Called) → new ≡ Compacted version ∷ old → AreTrue new → AreTrue old
let_true version old new is are = subst (λ (calls : List Called). AreTrue calls) is are

-- A CALL BEFORE IT, of which a crash leaves one thing alone
module _ {C : Type 0} (cluster : Cluster C) (counts : CountsNow cluster) (true_where : AreTrueWhere cluster) (by_calls : IsByCalls cluster) (version : ℕ)
    (old mid new : ClusterFile C) (working : mid.lost ≡ None) (begun : mid.has_begun ≡ true) (same : new ≡ record mid { cluster = new.cluster })
    (calls : cluster.calls new.cluster ≡ Compacted version ∷ cluster.calls mid.cluster) (seen : KeepsSeen cluster mid new)
    (first : GoesOn cluster old mid) (second : GoesOn cluster mid new) where
  -- what might be left before it might be left then
  stays_left : (left : List ℕ) → leaves cluster mid left → leaves cluster new left
  stays_left left is =
      let are : AreTrue (cluster.calls mid.cluster) = only_true_of cluster true_where mid left is in
      stands_old cluster by_calls new second.well (ap (λ (f : ClusterFile C). f.lost) same ∙ working) (subst (λ (made : List Called). AreTrue made) (sym calls) are) left
      (begun_only cluster by_calls mid first.well working begun left is ∙ sym seen.seen)

  pub goes_let : GoesOn cluster old new
  goes_let = record {
    well = second.well;
    truth = λ are. first.truth (second.truth are);
    time = elapses_on cluster old mid new first.time (λ left is. inr (stays_left left is)) counts second.time;
    lost = λ lost. second.lost (subst (λ (f : ClusterFile C). is_some f.lost ≡ true) (sym (first.lost lost)) lost) ∙ first.lost lost;
  }
