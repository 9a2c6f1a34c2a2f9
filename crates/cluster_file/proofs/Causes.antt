-- Why a call on a file failed.
use Rattle.std.proofs.Common.{◌⊎◌, inl, inr, ◌≤◌, ℕ, List, length, sym, subst, arith}
use Rattle.std.specs.Global.{Vec}
use Rattle.std.specs.Prelude.{Result, Ok, Err}
use Rattle.batch_file.specs.declared.device.DeviceFault.{DeviceFault}
use Rattle.etcd_cluster.specs.Again.{IsSettled}
use Rattle.etcd_cluster.specs.Calls.{Called}
use Rattle.etcd_cluster.specs.Stands.{ChangeFact}
use Rattle.etcd_cluster.specs.declared.cluster.Cluster.{Ghosts as Cluster}
use Rattle.etcd_cluster.specs.declared.settling.SettleFault.{SettleFault}
use Rattle.cluster_file.specs.Causes.{FailsAtChange, FailsFor, ToldOfChange}
use Rattle.cluster_file.specs.Devices.{Proceeds}
use Rattle.cluster_file.specs.Moments.{CountsCalls}
use Rattle.cluster_file.specs.declared.file.ClusterFile.{ClusterFile}

-- what was told of a change that was sent
pub settled_told : (more : ℕ) (change : ChangeFact) (reason : SettleFault) (old new : List Called) → IsSettled more change (Err reason) old new → ToldOfChange new reason
settled_told more change reason old new settled = subst (λ (calls : List Called). ToldOfChange calls reason) (sym settled.asked.calls) (sym settled.by)

-- no call is forgotten in a part of a call
pub longer_by : {C : Type 0} (cluster : Cluster C) → CountsCalls cluster → (old new : ClusterFile C) → Proceeds cluster old new
    → length (cluster.calls old.cluster) ≤ length (cluster.calls new.cluster)
longer_by cluster counts old new proceeds =
    let was = counts old.cluster in
    let is = counts new.cluster in
    let later = proceeds.time.later in
    omega (arith, was, is, later)

-- a part of a call failed, behind others
pub fails_at : {C : Type 0} (cluster : Cluster C) (old mid new : ClusterFile C) (fault : DeviceFault) → length (cluster.calls old.cluster) ≤ length (cluster.calls mid.cluster)
    → FailsAtChange cluster mid new fault → FailsAtChange cluster old new fault
fails_at cluster old mid new fault longer fails = record {
  reason = fails.reason;
  lost = fails.lost;
  is = fails.is;
  sent = (let sent = fails.sent in omega (arith, longer, sent));
  told = fails.told;
}

pub only_at : {C : Type 0} (cluster : Cluster C) (old new : ClusterFile C) (fault : DeviceFault) → FailsAtChange cluster old new fault ⊎ ⊥ → FailsAtChange cluster old new fault
only_at cluster old new fault (inl at) = at
only_at cluster old new fault (inr never) = absurd never

pub fails_then : {T C : Type 0} (cluster : Cluster C) (Other Whole : Type 0) (old mid new : ClusterFile C) (result : Result T DeviceFault)
    → length (cluster.calls old.cluster) ≤ length (cluster.calls mid.cluster) → (Other → Whole) → FailsFor cluster Other result mid new → FailsFor cluster Whole result old new
fails_then cluster Other Whole old mid new (Ok given) longer so fails = tt
fails_then cluster Other Whole old mid new (Err fault) longer so fails = λ failure. by_cause (fails failure)
  where
    by_cause : FailsAtChange cluster mid new fault ⊎ Other → FailsAtChange cluster old new fault ⊎ Whole
    by_cause (inl at) = inl (fails_at cluster old mid new fault longer at)
    by_cause (inr other) = inr (so other)

-- what was written and is in no piece tells nothing of it
pub fails_beside : {T C : Type 0} (cluster : Cluster C) (Other : Type 0) (old new : ClusterFile C) (unsynced : Vec ℕ) (room : ℕ) (result : Result T DeviceFault)
    → FailsFor cluster Other result old new → FailsFor cluster Other result old (record new { unsynced = unsynced; room = room })
fails_beside cluster Other old new unsynced room (Ok given) fails = tt
fails_beside cluster Other old new unsynced room (Err fault) fails = λ failure. by_cause (fails failure)
  where
    by_cause : FailsAtChange cluster old new fault ⊎ Other → FailsAtChange cluster old (record new { unsynced = unsynced; room = room }) fault ⊎ Other
    by_cause (inl at) = inl (record { reason = at.reason; lost = at.lost; is = at.is; sent = at.sent; told = at.told })
    by_cause (inr other) = inr other
