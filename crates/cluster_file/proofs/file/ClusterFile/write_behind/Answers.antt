use Rattle.std.proofs.Common.{◌≡◌, refl, sym, ap, subst, arith, rules}
use Rattle.std.specs.Prelude.{is_some}
use Rattle.cluster_file.specs.declared.file.ClusterFile.{ClusterFile}
use Rattle.cluster_file.proofs.Written.{written_behind}
use Rattle.cluster_file.proofs.file.ClusterFile.write_behind.Goals as goal

pub returns-then-at-end-clause-not : goal.returns-then-at-end-clause-not
returns-then-at-end-clause-not g c = subst (λ (x : ClusterFile _). x ≡ record c.args.self.now { lost = x.lost }) (sym c.lose.ensures.lost) refl

pub returns-then-at-end-clause-loses : goal.returns-then-at-end-clause-loses
returns-then-at-end-clause-loses g c = λ failure. ap (λ (x : ClusterFile _). is_some x.lost) c.lose.ensures.lost

pub returns-clause-written : goal.returns-clause-written
returns-clause-written g c =
    let D = g.C.Cluster in
    let old = c.args.self.now in
    written_behind D old c.requires.whole.0 c.requires.whole.1 c.requires.synced c.args.at c.args.bytes.now c.extend_from_slice.new.self _ (omega arith) c.requires.within
    (search rules) (search rules)
