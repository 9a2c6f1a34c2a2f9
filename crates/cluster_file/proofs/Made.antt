-- What a file is once a change was made.
use Rattle.std.proofs.Common.{◌≡◌, ◌≢◌, ◌<◌, ◌∙◌, ℕ, Bool, true, false, List, sym, ap, arith}
use Rattle.batch_file.specs.Crashes.{IsFailure, IsReplaceFailure, IsUnplaced}
use Rattle.batch_file.specs.declared.device.ReplaceFault.{ReplaceFault}
use Rattle.batch_file.specs.declared.device.ReplaceFault.TheVariants as replacing
use Rattle.etcd_cluster.specs.Knowing.{Knows}
use Rattle.etcd_cluster.specs.Sides.{IsFresh}
use Rattle.etcd_cluster.specs.Stands.{WriteFact}
use Rattle.etcd_cluster.specs.declared.change.Head.{Head}
use Rattle.etcd_cluster.specs.declared.cluster.Cluster.{Ghosts as Cluster}
use Rattle.etcd_cluster.specs.declared.settling.SettleFault.{SettleFault}
use Rattle.etcd_cluster.specs.declared.settling.SettleFault.TheVariants as settle
use Rattle.cluster_file.specs.Devices.{failed_by}
use Rattle.cluster_file.specs.Files.{AsServer, IsSound, MayMake, change_of}
use Rattle.cluster_file.specs.declared.file.ClusterFile.{ClusterFile}

-- a head of another turn than the one that is known to stand there
pub fresh_by : {C : Type 0} (cluster : Cluster C) (file : ClusterFile C) (head : Head) → (cluster.stand file.cluster).head ≡ file.standing.head
    → Knows cluster file.cluster → file.standing.head.turn ≢ head.turn → IsFresh cluster file.cluster head
fresh_by cluster file head known knows other w may none same =
    other (ap (λ (h : Head). h.turn) (sym known ∙ sym (knows w may none).head ∙ same))

may_make_as : {C : Type 0} (cluster : Cluster C) (file : ClusterFile C) (head : Head) (writes : List WriteFact) → IsSound cluster file → file.standing.head.turn ≢ head.turn
    → (begun : Bool) → AsServer cluster file begun → MayMake cluster file.cluster (change_of file head writes) begun
may_make_as cluster file head writes sound other true so = (so.0, fresh_by cluster file head sound.head so.1 other, so.1)
may_make_as cluster file head writes sound other false so = (so.0, so.1, sound.version)

-- a server may make it that knows what stands there
pub may_make : {C : Type 0} (cluster : Cluster C) (file : ClusterFile C) (head : Head) (writes : List WriteFact) → IsSound cluster file → file.standing.head.turn ≢ head.turn
    → MayMake cluster file.cluster (change_of file head writes) file.has_begun
may_make cluster file head writes sound other = may_make_as cluster file head writes sound other file.has_begun sound.so

read_before_as : {C : Type 0} (cluster : Cluster C) (file : ClusterFile C) (version : ℕ) → file.standing.version < version → (begun : Bool) → AsServer cluster file begun → file.read < version
read_before_as cluster file version later true so = let before = so.3 in omega (arith, later, before)
read_before_as cluster file version later false so = let is = so.2 in omega (arith, later, is)

-- what was read is of an earlier version
pub read_before : {C : Type 0} (cluster : Cluster C) (file : ClusterFile C) (version : ℕ) → IsSound cluster file → file.standing.version < version → file.read < version
read_before cluster file version sound later = read_before_as cluster file version later file.has_begun sound.so

-- a fault that is told of a file that is lost is a failure
pub failed_is : (fault : SettleFault) → IsFailure (failed_by fault)
failed_is settle.Overtaken = tt
failed_is settle.Unclear = tt
failed_is settle.Refused = tt

-- where nothing was put in its place that is no failure
pub not_both : (fault : ReplaceFault) → IsReplaceFailure fault → IsUnplaced fault → ⊥
not_both (replacing.Failed reason) failed unplaced = unplaced
not_both (replacing.Unplaced reason) failed unplaced = failed
not_both replacing.Memory failed unplaced = failed
