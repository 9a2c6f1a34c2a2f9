use Rattle.std.proofs.Common.{◌≡◌, Bool, subst, sym}
use Rattle.std.specs.Prelude.{IfOk, OnErr}
use Rattle.etcd_cluster.specs.Knowing.{HasRead, Knows}
use Rattle.etcd_cluster.specs.Stands.{ChangeFact, change_fact}
use Rattle.cluster_file.specs.Files.{IsMadeBy, MayBeMadeBy, MayHaveMade, MayMake}
use Rattle.cluster_file.proofs.Kept.{ok_then}
use Rattle.cluster_file.proofs.file.make.Goals as goal

pub settle-requires-clause-leads : goal.settle-requires-clause-leads
settle-requires-clause-leads g c =
    (subst (λ (b : Bool). MayMake g.C.Cluster c.args.cluster.now (change_fact c.args.change.now) b) c.if-has_begun.true c.requires.may).0

pub settle-requires-clause-fresh : goal.settle-requires-clause-fresh
settle-requires-clause-fresh g c =
    (subst (λ (b : Bool). MayMake g.C.Cluster c.args.cluster.now (change_fact c.args.change.now) b) c.if-has_begun.true c.requires.may).1

pub begin-requires-clause-unbegun : goal.begin-requires-clause-unbegun
begin-requires-clause-unbegun g c =
    (subst (λ (b : Bool). MayMake g.C.Cluster c.args.cluster.now (change_fact c.args.change.now) b) c.if-has_begun.false c.requires.may).0

pub returns-then-has_begun-clause-made : goal.returns-then-has_begun-clause-made
returns-then-has_begun-clause-made g c =
    let D = g.C.Cluster in
    let change : ChangeFact = change_fact c.args.change.now in
    subst (λ (b : Bool). IfOk c.settle.result (λ version. IsMadeBy D c.args.cluster.now c.settle.new.cluster version change b)) (sym c.if-has_begun.true) c.settle.ensures.done

pub returns-then-has_begun-clause-may_be : goal.returns-then-has_begun-clause-may_be
returns-then-has_begun-clause-may_be g c =
    let D = g.C.Cluster in
    let change : ChangeFact = change_fact c.args.change.now in
    subst (λ (b : Bool). OnErr c.settle.result (MayBeMadeBy D c.args.cluster.now c.settle.new.cluster change b)) (sym c.if-has_begun.true) c.settle.ensures.pending

pub returns-then-has_begun-clause-knows : goal.returns-then-has_begun-clause-knows
returns-then-has_begun-clause-knows g c =
    let D = g.C.Cluster in
    let may = subst (λ (b : Bool). MayMake D c.args.cluster.now (change_fact c.args.change.now) b) c.if-has_begun.true c.requires.may in
    ok_then c.settle.result (Knows D c.args.cluster.now → Knows D c.settle.new.cluster) (Knows D c.settle.new.cluster) c.settle.ensures.knows (λ then_so. then_so may.2)

pub returns-then-has_begun-clause-meanwhile : goal.returns-then-has_begun-clause-meanwhile
returns-then-has_begun-clause-meanwhile g c =
    let D = g.C.Cluster in
    let change : ChangeFact = change_fact c.args.change.now in
    subst (λ (b : Bool). MayHaveMade D c.args.cluster.now c.settle.new.cluster change b) (sym c.if-has_begun.true) c.settle.ensures.meanwhile

pub returns-else-has_begun-clause-made : goal.returns-else-has_begun-clause-made
returns-else-has_begun-clause-made g c =
    let D = g.C.Cluster in
    let change : ChangeFact = change_fact c.args.change.now in
    subst (λ (b : Bool). IfOk c.begin.result (λ version. IsMadeBy D c.args.cluster.now c.begin.new.cluster version change b)) (sym c.if-has_begun.false) c.begin.ensures.begun

pub returns-else-has_begun-clause-may_be : goal.returns-else-has_begun-clause-may_be
returns-else-has_begun-clause-may_be g c =
    let D = g.C.Cluster in
    let change : ChangeFact = change_fact c.args.change.now in
    subst (λ (b : Bool). OnErr c.begin.result (MayBeMadeBy D c.args.cluster.now c.begin.new.cluster change b)) (sym c.if-has_begun.false) c.begin.ensures.pending

pub returns-else-has_begun-clause-knows : goal.returns-else-has_begun-clause-knows
returns-else-has_begun-clause-knows g c =
    let D = g.C.Cluster in
    let change : ChangeFact = change_fact c.args.change.now in
    let may = subst (λ (b : Bool). MayMake D c.args.cluster.now change b) c.if-has_begun.false c.requires.may in
    ok_then c.begin.result (HasRead D c.args.cluster.now → (D.stand c.args.cluster.now).version ≡ change.after → Knows D c.begin.new.cluster) (Knows D c.begin.new.cluster)
    c.begin.ensures.knows (λ then_so. then_so may.1 may.2)

pub returns-else-has_begun-clause-meanwhile : goal.returns-else-has_begun-clause-meanwhile
returns-else-has_begun-clause-meanwhile g c =
    let D = g.C.Cluster in
    let change : ChangeFact = change_fact c.args.change.now in
    subst (λ (b : Bool). MayHaveMade D c.args.cluster.now c.begin.new.cluster change b) (sym c.if-has_begun.false) c.begin.ensures.meanwhile
