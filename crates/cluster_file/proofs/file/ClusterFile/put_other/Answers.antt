use Rattle.std.proofs.Common.{◌≡◌, ◌∙◌, sym, subst, rules}
use Rattle.std.specs.Prelude.{None}
use Rattle.batch_file.specs.Crashes.{ComesOfStep, Swapped}
use Rattle.cluster_file.specs.Devices.{GoesOn, leaves}
use Rattle.cluster_file.specs.declared.file.ClusterFile.{ClusterFile}
use Rattle.cluster_file.proofs.Dropping.{swapped_none}
use Rattle.cluster_file.proofs.Going.{goes_same}
use Rattle.cluster_file.proofs.Nexts.{goes_give}
use Rattle.cluster_file.proofs.Written.{lose_leaves}
use Rattle.cluster_file.proofs.file.ClusterFile.put_other.Goals as goal

pub returns-then-is_some-clause-crash : goal.returns-then-is_some-clause-crash
returns-then-is_some-clause-crash g c =
    swapped_none g.C.Cluster c.args.self.now c.args.self.now c.args.bytes.now (λ left is. is)

pub returns-then-is_some-clause-loses : goal.returns-then-is_some-clause-loses
returns-then-is_some-clause-loses g c =
    sym c.is_some.ensures ∙ c.if-is_some.true

pub returns-then-is_some-clause-goes_on : goal.returns-then-is_some-clause-goes_on
returns-then-is_some-clause-goes_on g c =
    goes_same g.C.Cluster c.args.self.now c.requires

pub returns-in-Err-clause-crash : goal.returns-in-Err-clause-crash
returns-in-Err-clause-crash g c =
    let D = g.C.Cluster in
    let old = c.args.self.now in
    let mid = c.put_by_next.new.self in
    let working : old.lost ≡ None = search rules in
    subst (λ (x : ClusterFile _). ComesOfStep (Swapped c.args.bytes.now) (leaves D old) (leaves D x)) (sym c.lose_any.ensures.same)
    (λ left is. c.put_by_next.ensures.crash left (lose_leaves D mid c.lose_any.new.self.lost left is))

pub returns-in-Err-clause-goes_on : goal.returns-in-Err-clause-goes_on
returns-in-Err-clause-goes_on g c =
    let D = g.C.Cluster in
    let old = c.args.self.now in
    let mid = c.put_by_next.new.self in
    let working : old.lost ≡ None = search rules in
    subst (λ (x : ClusterFile _). GoesOn D old x) (sym c.lose_any.ensures.same)
    (goes_give D old mid c.lose_any.new.self.lost working c.put_by_next.ensures.goes_on c.lose_any.ensures.lost)
