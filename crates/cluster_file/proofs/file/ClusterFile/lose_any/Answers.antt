use Rattle.std.proofs.Common.{◌≡◌, refl, sym, ap, subst}
use Rattle.std.specs.Prelude.{is_some}
use Rattle.batch_file.specs.Crashes.{IsFailure}
use Rattle.batch_file.specs.declared.device.DeviceFault.{DeviceFault}
use Rattle.etcd_cluster.specs.declared.settling.SettleFault.TheVariants.{Refused}
use Rattle.cluster_file.specs.declared.file.ClusterFile.{ClusterFile}
use Rattle.cluster_file.proofs.Made.{failed_is}
use Rattle.cluster_file.proofs.file.ClusterFile.lose_any.Goals as goal

pub returns-in-Some-clause-failed : goal.returns-in-Some-clause-failed
returns-in-Some-clause-failed g c = subst (λ (f : DeviceFault). IsFailure f) (sym c.failed_of.ensures) (failed_is c.in-Some.reason)

pub returns-in-None-clause-lost : goal.returns-in-None-clause-lost
returns-in-None-clause-lost g c = ap (λ (x : ClusterFile _). is_some x.lost) c.lose.ensures.lost

pub returns-in-None-clause-same : goal.returns-in-None-clause-same
returns-in-None-clause-same g c = subst (λ (x : ClusterFile _). x ≡ record c.args.self.now { lost = x.lost }) (sym c.lose.ensures.lost) refl

pub returns-in-None-clause-failed : goal.returns-in-None-clause-failed
returns-in-None-clause-failed g c = subst (λ (f : DeviceFault). IsFailure f) (sym c.lose.ensures.told) (failed_is Refused)
