use Rattle.std.proofs.Common.{◌≡◌, ◌∷◌, ◌∙◌, ap, sym, subst}
use Rattle.etcd_cluster.specs.Calls.{Compacted}
use Rattle.cluster_file.specs.declared.file.ClusterFile.{ClusterFile}
use Rattle.cluster_file.proofs.LetGo.{goes_let}
use Rattle.cluster_file.proofs.file.ClusterFile.place_and_compact.Goals as goal

pub compact-requires-clause-well : goal.compact-requires-clause-well
compact-requires-clause-well g c = c.place.ensures.goes_on.well

pub returns-clause-replaced : goal.returns-clause-replaced
returns-clause-replaced g c = c.compact.ensures.seen.seen ∙ c.in_ok-place.ensures.replaced

pub returns-clause-durable : goal.returns-clause-durable
returns-clause-durable g c = λ left is. c.in_ok-place.ensures.durable left (c.compact.ensures.seen.crash left is)

pub returns-clause-crash : goal.returns-clause-crash
returns-clause-crash g c = λ left is. c.place.ensures.crash left (c.compact.ensures.seen.crash left is)

pub returns-clause-compacted : goal.returns-clause-compacted
returns-clause-compacted g c =
    let D = g.C.Cluster in
    let mid = c.place.new.self in
    let new = c.compact.new.self in
    let version = ap (λ (f : ClusterFile _). f.standing.version) c.compact.ensures.same in
    (D.calls mid.cluster, subst (λ n. D.calls new.cluster ≡ Compacted n ∷ D.calls mid.cluster) (sym version) c.compact.ensures.called)

pub returns-clause-goes_on : goal.returns-clause-goes_on
returns-clause-goes_on g c =
    let D = g.C.Cluster in
    let L = g.met.C.Cluster in
    let mid = c.place.new.self in
    goes_let D L.counts_now L.true_calls L.by_calls mid.standing.version c.args.self.now mid c.compact.new.self c.in_ok-place.ensures.working c.in_ok-place.ensures.begun
    c.compact.ensures.same c.compact.ensures.called c.compact.ensures.seen c.place.ensures.goes_on c.compact.ensures.goes_on
