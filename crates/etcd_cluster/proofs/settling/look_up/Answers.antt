use Rattle.std.proofs.Common.{◌∙◌, ℕ, sym, subst}
use Rattle.etcd_cluster.specs.Knowing.{Agrees}
use Rattle.etcd_cluster.specs.Leading.{Leads, StaysSo}
use Rattle.etcd_cluster.specs.Stands.{Stand}
use Rattle.etcd_cluster.specs.Worlds.{seen_pieces}
use Rattle.etcd_cluster.proofs.Looked.{seen_agrees, there_by}
use Rattle.etcd_cluster.proofs.Settled.{knows_stays, leads_still, stays_silent}
use Rattle.etcd_cluster.specs.Moves.{Moves}
use Rattle.etcd_cluster.proofs.Moved.{stays_moves}
use Rattle.etcd_cluster.proofs.Waited.{meanwhile_as}
use Rattle.etcd_cluster.proofs.settling.look_up.Goals as goal

pub returns-clause-stays : goal.returns-clause-stays
returns-clause-stays g c =
    let D = g.C.Cluster in
    let old = c.args.cluster.now in
    let led = c.requires.leads in
    stays_silent (D.server old) (D.moment old) c.args.wanted.version (D.sent old) led.spent (D.may_be old) led.each (D.may_be c.look_again.new.cluster) c.look_again.ensures.silent

pub returns-clause-leads : goal.returns-clause-leads
returns-clause-leads g c =
    let D = g.C.Cluster in
    let old = c.args.cluster.now in
    let new = c.look_again.new.cluster in
    let led = c.requires.leads in
    let version = c.args.wanted.version in
    subst (λ (s : ℕ). Leads s version (D.sent new) (D.may_be new)) (sym c.look_again.ensures.server)
    (leads_still (D.server old) (D.moment old) version (D.sent old) led.spent (D.may_be old) led.each (D.may_be new) (D.sent old) (D.sent new)
    led.spent c.look_again.ensures.sent
    (stays_silent (D.server old) (D.moment old) version (D.sent old) led.spent (D.may_be old) led.each (D.may_be new) c.look_again.ensures.silent))

pub returns-clause-knows : goal.returns-clause-knows
returns-clause-knows g c =
    let D = g.C.Cluster in
    let old = c.args.cluster.now in
    let new = c.look_again.new.cluster in
    let led = c.requires.leads in
    let wanted = c.args.wanted in
    λ w may none.
    let it = stays_silent (D.server old) (D.moment old) wanted.version (D.sent old) led.spent (D.may_be old) led.each (D.may_be new) c.look_again.ensures.silent w may in
    let agrees = knows_stays (D.server old) (D.moment old) wanted.version (D.stand old) it.0 w none (c.requires.knows it.0 it.1) it.2 in
    let there = there_by (D.server old) (D.moment old) (D.sent old) wanted (D.may_be old) (D.may_be new) c.look_again.result c.look_again.ensures.told w may
    (agrees.version ∙ c.requires.version) in
    subst (λ (s : Stand). Agrees s w.stand) (sym c.look_again.ensures.stand)
    (seen_agrees (D.server old) (D.moment old) (D.sent old) wanted (seen_pieces c.look_again.result) (D.stand old) there.0 w led.spent c.requires.version agrees
    there.1 there.2 there.3)

pub returns-clause-meanwhile : goal.returns-clause-meanwhile
returns-clause-meanwhile g c =
    let D = g.C.Cluster in
    let old = c.args.cluster.now in
    let new = c.look_again.new.cluster in
    meanwhile_as (D.moment old) (D.may_be old) (D.been_since old) (D.been_since new) (Moves (D.server old) (D.moment old) (D.sent old))
    (StaysSo (D.server old) (D.moment old) c.args.wanted.version) c.look_again.ensures.meanwhile
    (λ first w was moved. stays_moves (D.server old) (D.moment old) c.args.wanted.version (D.sent old) first w c.requires.leads.spent (c.requires.leads.each first was) moved)
