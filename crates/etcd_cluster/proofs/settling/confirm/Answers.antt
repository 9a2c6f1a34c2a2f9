use Rattle.std.proofs.Common.{◌≡◌, ◌∙◌, ℕ, sym, subst, arith}
use Rattle.etcd_cluster.specs.Knowing.{Agrees, Knows}
use Rattle.etcd_cluster.specs.Leading.{Leads, StaysSo}
use Rattle.etcd_cluster.specs.Sides.{IsSole}
use Rattle.etcd_cluster.specs.Stands.{Stand}
use Rattle.etcd_cluster.specs.Worlds.{IsHeadOf}
use Rattle.etcd_cluster.proofs.Settled.{knows_stays, leads_still, sole_by, stays_by}
use Rattle.etcd_cluster.proofs.Told.{both_ok, head_some, told_keeps}
use Rattle.etcd_cluster.specs.Moves.{Moves}
use Rattle.etcd_cluster.proofs.Moved.{stays_moves}
use Rattle.etcd_cluster.proofs.Waited.{meanwhile_as}
use Rattle.etcd_cluster.proofs.settling.confirm.Goals as goal

pub returns-clause-sole : goal.returns-clause-sole
returns-clause-sole g c =
    let D = g.C.Cluster in
    let old = c.args.cluster.now in
    let new = c.ask_head-told.new.cluster in
    both_ok c.is_of.result (IsHeadOf c.args.version c.ask_head-told.result) (IsSole D old new) c.is_of.ensures.is
    (λ is. sole_by (D.server old) (D.moment old) c.args.version (D.sent old) c.requires.spent (D.may_be old) c.requires.each (D.may_be new)
    c.ask_head-told.result is c.ask_head-told.ensures.told)

pub returns-clause-stays : goal.returns-clause-stays
returns-clause-stays g c =
    let D = g.C.Cluster in
    let old = c.args.cluster.now in
    stays_by (D.server old) (D.moment old) c.args.version (D.sent old) c.requires.spent (D.may_be old) c.requires.each (D.may_be c.ask_head-told.new.cluster)
    c.ask_head-told.result c.ask_head-told.ensures.told c.ask_head-told.ensures.silent

pub returns-clause-leads : goal.returns-clause-leads
returns-clause-leads g c =
    let D = g.C.Cluster in
    let old = c.args.cluster.now in
    let new = c.ask_head-told.new.cluster in
    subst (λ (s : ℕ). Leads s c.args.version (D.sent new) (D.may_be new)) (sym c.ask_head-told.ensures.server)
    (leads_still (D.server old) (D.moment old) c.args.version (D.sent old) c.requires.spent (D.may_be old) c.requires.each (D.may_be new) (D.sent old) (D.sent new)
    c.requires.spent c.ask_head-told.ensures.sent
    (stays_by (D.server old) (D.moment old) c.args.version (D.sent old) c.requires.spent (D.may_be old) c.requires.each (D.may_be new)
    c.ask_head-told.result c.ask_head-told.ensures.told c.ask_head-told.ensures.silent))

pub returns-clause-stand : goal.returns-clause-stand
returns-clause-stand g c =
    let D = g.C.Cluster in
    let old = c.args.cluster.now in
    λ some. c.ask_head-told.ensures.stand ∙ told_keeps c.ask_head-told.result (D.stand old) some

pub returns-clause-knows : goal.returns-clause-knows
returns-clause-knows g c =
    let D = g.C.Cluster in
    let old = c.args.cluster.now in
    let new = c.ask_head-told.new.cluster in
    both_ok c.is_of.result (IsHeadOf c.args.version c.ask_head-told.result) (Knows D old → (D.stand old).version ≡ c.args.version → Knows D new) c.is_of.ensures.is
    (λ is knows of w may none.
    let it = stays_by (D.server old) (D.moment old) c.args.version (D.sent old) c.requires.spent (D.may_be old) c.requires.each (D.may_be new)
    c.ask_head-told.result c.ask_head-told.ensures.told c.ask_head-told.ensures.silent w may in
    let some = head_some c.args.version c.ask_head-told.result is c.ask_head-told.ensures.some in
    let stand : D.stand new ≡ D.stand old = c.ask_head-told.ensures.stand ∙ told_keeps c.ask_head-told.result (D.stand old) (omega (arith, some, of)) in
    subst (λ (s : Stand). Agrees s w.stand) (sym stand)
    (knows_stays (D.server old) (D.moment old) c.args.version (D.stand old) it.0 w none (knows it.0 it.1) it.2))

pub returns-clause-meanwhile : goal.returns-clause-meanwhile
returns-clause-meanwhile g c =
    let D = g.C.Cluster in
    let old = c.args.cluster.now in
    let new = c.ask_head-told.new.cluster in
    meanwhile_as (D.moment old) (D.may_be old) (D.been_since old) (D.been_since new) (Moves (D.server old) (D.moment old) (D.sent old))
    (StaysSo (D.server old) (D.moment old) c.args.version) c.ask_head-told.ensures.meanwhile
    (λ first w was moved. stays_moves (D.server old) (D.moment old) c.args.version (D.sent old) first w c.requires.spent (c.requires.each first was) moved)

pub returns-clause-asked : goal.returns-clause-asked
returns-clause-asked g c = record {
  told = c.ask_head-told.result;
  asked = c.ask_head-told.ensures.asked;
  by = c.is_of.ensures;
}
