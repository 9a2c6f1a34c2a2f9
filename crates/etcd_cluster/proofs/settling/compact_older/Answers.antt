use Rattle.std.proofs.Common.{◌≤◌, ℕ, inl, refl, sym, subst, arith}
use Rattle.etcd_cluster.specs.Knowing.{Agrees}
use Rattle.etcd_cluster.specs.Leading.{Leads, StaysSo}
use Rattle.etcd_cluster.specs.Moves.{Moves, rests}
use Rattle.etcd_cluster.specs.Sides.{IsSilent, side_of}
use Rattle.etcd_cluster.specs.Stands.{Stand}
use Rattle.etcd_cluster.proofs.Moved.{stays_moves}
use Rattle.etcd_cluster.proofs.Settled.{knows_stays, leads_still, stays_silent}
use Rattle.etcd_cluster.proofs.Waited.{meanwhile_as, meanwhile_on, moved_silent}
use Rattle.etcd_cluster.proofs.settling.compact_older.Goals as goal

pub returns-clause-stays : goal.returns-clause-stays
returns-clause-stays g c =
    let D = g.C.Cluster in
    let old = c.args.cluster.now in
    let new = c.compact.new.self in
    let le : D.moment old ≤ D.moment old = omega arith in
    let moved : IsSilent D old new =
    moved_silent (D.server old) (D.moment old) (D.sent old) (D.may_be old) (D.may_be old) (D.may_be new) (λ w may. (w, may, rests)) (side_of D old) refl le
    (λ one is. is) c.compact.ensures.follows in
    λ version led. stays_silent (D.server old) (D.moment old) version (D.sent old) led.spent (D.may_be old) led.each (D.may_be new) moved

pub returns-clause-leads : goal.returns-clause-leads
returns-clause-leads g c =
    let D = g.C.Cluster in
    let old = c.args.cluster.now in
    let new = c.compact.new.self in
    let le : D.moment old ≤ D.moment old = omega arith in
    let moved : IsSilent D old new =
    moved_silent (D.server old) (D.moment old) (D.sent old) (D.may_be old) (D.may_be old) (D.may_be new) (λ w may. (w, may, rests)) (side_of D old) refl le
    (λ one is. is) c.compact.ensures.follows in
    λ version led.
    subst (λ (s : ℕ). Leads s version (D.sent new) (D.may_be new)) (sym c.compact.ensures.server)
    (leads_still (D.server old) (D.moment old) version (D.sent old) led.spent (D.may_be old) led.each (D.may_be new) (D.sent old) (D.sent new) led.spent c.compact.ensures.sent
    (stays_silent (D.server old) (D.moment old) version (D.sent old) led.spent (D.may_be old) led.each (D.may_be new) moved))

pub returns-clause-knows : goal.returns-clause-knows
returns-clause-knows g c =
    let D = g.C.Cluster in
    let old = c.args.cluster.now in
    let new = c.compact.new.self in
    let le : D.moment old ≤ D.moment old = omega arith in
    let moved : IsSilent D old new =
    moved_silent (D.server old) (D.moment old) (D.sent old) (D.may_be old) (D.may_be old) (D.may_be new) (λ w may. (w, may, rests)) (side_of D old) refl le
    (λ one is. is) c.compact.ensures.follows in
    λ version led knows w may none.
    let it = stays_silent (D.server old) (D.moment old) version (D.sent old) led.spent (D.may_be old) led.each (D.may_be new) moved w may in
    subst (λ (s : Stand). Agrees s w.stand) (sym c.compact.ensures.stand)
    (knows_stays (D.server old) (D.moment old) version (D.stand old) it.0 w none (knows it.0 it.1) it.2)

pub returns-clause-meanwhile : goal.returns-clause-meanwhile
returns-clause-meanwhile g c =
    let D = g.C.Cluster in
    let old = c.args.cluster.now in
    let new = c.compact.new.self in
    let le : D.moment old ≤ D.moment old = omega arith in
    let moved : IsSilent D old new =
    moved_silent (D.server old) (D.moment old) (D.sent old) (D.may_be old) (D.may_be old) (D.may_be new) (λ w may. (w, may, rests)) (side_of D old) refl le
    (λ one is. is) c.compact.ensures.follows in
    λ version led.
    meanwhile_as (D.moment old) (D.may_be old) (D.been_since old) (D.been_since new) (Moves (D.server old) (D.moment old) (D.sent old))
    (StaysSo (D.server old) (D.moment old) version)
    (meanwhile_on (D.moment old) (D.moment old) (D.may_be old) (D.been_since old) (D.been_since old) (D.been_since new) (D.may_be new)
    (Moves (D.server old) (D.moment old) (D.sent old)) le (record { nothing_else = λ t w le was. inl was; keeps = λ t w le was. was }) c.compact.ensures.time moved)
    (λ first w was by. stays_moves (D.server old) (D.moment old) version (D.sent old) first w led.spent (led.each first was) by)
