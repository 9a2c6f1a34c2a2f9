use Rattle.std.proofs.Common.{◌≢◌, ℕ, sym, subst}
use Rattle.etcd_cluster.specs.Knowing.{Agrees}
use Rattle.etcd_cluster.specs.Stands.{Stand}
use Rattle.etcd_cluster.proofs.Forgotten.{agrees_less, leads_less, read_less}
use Rattle.etcd_cluster.proofs.settling.forget_pieces.Goals as goal

pub returns-clause-leads : goal.returns-clause-leads
returns-clause-leads g c =
    let D = g.C.Cluster in
    let old = c.args.cluster.now in
    let new = c.forget.new.self in
    λ version led.
    leads_less (D.server old) (D.server new) version (D.sent old) (D.sent new) (D.may_be old) (D.may_be new) c.forget.ensures.server c.forget.ensures.sent
    c.forget.ensures.follows led

pub returns-clause-unbegun : goal.returns-clause-unbegun
returns-clause-unbegun g c =
    let D = g.C.Cluster in
    let old = c.args.cluster.now in
    let new = c.forget.new.self in
    λ version unbegun. record {
      spent = λ one is. unbegun.spent one (c.forget.ensures.sent one is);
      no_older = λ w may. unbegun.no_older w (c.forget.ensures.follows w may);
      foreign = λ w may some. subst (λ (s : ℕ). w.stand.head.server ≢ s) (sym c.forget.ensures.server) (unbegun.foreign w (c.forget.ensures.follows w may) some);
    }

pub returns-clause-read : goal.returns-clause-read
returns-clause-read g c =
    let D = g.C.Cluster in
    let old = c.args.cluster.now in
    let new = c.forget.new.self in
    λ read.
    let known = read_less (D.stand old) (D.stand new) (D.may_be old) (D.may_be new) c.forget.ensures.stand c.forget.ensures.follows
    (record { no_older = read.no_older; head = read.head; pieces = read.pieces }) in
    record { no_older = known.no_older; head = known.head; pieces = known.pieces }

pub returns-clause-knows : goal.returns-clause-knows
returns-clause-knows g c =
    let D = g.C.Cluster in
    let old = c.args.cluster.now in
    λ knows w may none.
    subst (λ (s : Stand). Agrees s w.stand) (sym c.forget.ensures.stand) (agrees_less (D.stand old) w.stand (knows w (c.forget.ensures.follows w may) none))
