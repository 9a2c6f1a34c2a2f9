use Rattle.std.proofs.Common.{◌≡◌, ◌∙◌, ◌+◌, List, ℕ, take, sym, ap, subst, arith, rules}
use Rattle.etcd_cluster.specs.declared.change.Head.{Head}
use Rattle.etcd_cluster.specs.declared.settling.SettleFault.TheVariants.{Refused}
use Rattle.cluster_file.specs.Devices.{GoesOn, KeepsSeen}
use Rattle.cluster_file.specs.declared.beside.NextFile.{NextFile}
use Rattle.cluster_file.specs.declared.file.ClusterFile.{ClusterFile}
use Rattle.cluster_file.proofs.Going.{gives_seen, gives_up, goes_same, keeps_same}
use Rattle.cluster_file.proofs.Nexts.{laid_begun, laid_same}
use Rattle.cluster_file.proofs.file.ClusterFile.lay_beside.Goals as goal

pub returns-in_default-clause-seen : goal.returns-in_default-clause-seen
returns-in_default-clause-seen g c =
    subst (λ (x : ClusterFile _). KeepsSeen g.C.Cluster c.args.self.now x) (sym c.lose.ensures.lost) (gives_seen g.C.Cluster c.args.self.now c.requires.well c.requires.working Refused)

pub returns-in_default-clause-goes_on : goal.returns-in_default-clause-goes_on
returns-in_default-clause-goes_on g c =
    subst (λ (x : ClusterFile _). GoesOn g.C.Cluster c.args.self.now x) (sym c.lose.ensures.lost) (gives_up g.C.Cluster c.args.self.now c.requires.well c.requires.working Refused)

pub returns-in_default-clause-none : goal.returns-in_default-clause-none
returns-in_default-clause-none g c =
    ap (λ (x : ClusterFile _). x.next) c.lose.ensures.lost ∙ c.requires.none

pub returns-in_default-checked_add-clause-seen : goal.returns-in_default-checked_add-clause-seen
returns-in_default-checked_add-clause-seen g c =
    subst (λ (x : ClusterFile _). KeepsSeen g.C.Cluster c.args.self.now x) (sym c.lose-in_default-checked_add.ensures.lost)
    (gives_seen g.C.Cluster c.args.self.now c.requires.well c.requires.working Refused)

pub returns-in_default-checked_add-clause-goes_on : goal.returns-in_default-checked_add-clause-goes_on
returns-in_default-checked_add-clause-goes_on g c =
    subst (λ (x : ClusterFile _). GoesOn g.C.Cluster c.args.self.now x) (sym c.lose-in_default-checked_add.ensures.lost)
    (gives_up g.C.Cluster c.args.self.now c.requires.well c.requires.working Refused)

pub returns-in_default-checked_add-clause-none : goal.returns-in_default-checked_add-clause-none
returns-in_default-checked_add-clause-none g c =
    ap (λ (x : ClusterFile _). x.next) c.lose-in_default-checked_add.ensures.lost ∙ c.requires.none

pub returns-in_err-push_one-clause-seen : goal.returns-in_err-push_one-clause-seen
returns-in_err-push_one-clause-seen g c =
    keeps_same g.C.Cluster c.args.self.now

pub returns-in_err-push_one-clause-goes_on : goal.returns-in_err-push_one-clause-goes_on
returns-in_err-push_one-clause-goes_on g c =
    goes_same g.C.Cluster c.args.self.now c.requires.well

pub change_beside-requires-clause-beside : goal.change_beside-requires-clause-beside
change_beside-requires-clause-beside g c =
    let is = c.in-Some.ensures in
    λ same. omega (arith, is, same)

pub returns-clause-begun : goal.returns-clause-begun
returns-clause-begun g c =
    let D = g.C.Cluster in
    let old = c.args.self.now in
    let new = c.change_beside.new.self in
    let next = c.args.next.now in
    let more : NextFile = record { laid = c.in-Some-checked_add.to; starts = c.push_one.new.items; rest = c.take_front.new.bytes } in
    let rest : c.deref.result.now ≡ next.rest.items = search rules in
    let piece : List ℕ = take c.args.size c.deref.result.now in
    let is : piece ≡ take c.args.size next.rest.items = ap (λ (l : List ℕ). take c.args.size l) rest in
    let head = ap (λ (h : Head). h.generation + 1) (c.requires.well.sound c.requires.working).head in
    let generation = c.in-Some.ensures ∙ sym head in
    laid_begun D old new next more c.requires.begun c.in-Some.generation c.args.size generation c.requires.within c.requires.some piece is c.in_ok-change_beside.ensures.written
    (search rules) c.in_ok-push_one.ensures.ok (search rules)

pub returns-clause-same : goal.returns-clause-same
returns-clause-same g c =
    let D = g.C.Cluster in
    let old = c.args.self.now in
    let new = c.change_beside.new.self in
    let next = c.args.next.now in
    let more : NextFile = record { laid = c.in-Some-checked_add.to; starts = c.push_one.new.items; rest = c.take_front.new.bytes } in
    let rest : c.deref.result.now ≡ next.rest.items = search rules in
    let piece : List ℕ = take c.args.size c.deref.result.now in
    let is : piece ≡ take c.args.size next.rest.items = ap (λ (l : List ℕ). take c.args.size l) rest in
    let head = ap (λ (h : Head). h.generation + 1) (c.requires.well.sound c.requires.working).head in
    let generation = c.in-Some.ensures ∙ sym head in
    laid_same D old new next more c.requires.begun c.in-Some.generation c.args.size generation c.requires.within c.requires.some piece is c.in_ok-change_beside.ensures.written
    (search rules) c.in_ok-push_one.ensures.ok (search rules)
