use Rattle.std.proofs.Common.{◌≡◌, ◌<◌, ◌∙◌, ℕ, sym, subst}
use Rattle.std.specs.Prelude.{Some, None}
use Rattle.etcd_cluster.specs.Knowing.{Agrees, HasRead, Knows}
use Rattle.etcd_cluster.specs.Leading.{IsBeginning, Leads}
use Rattle.etcd_cluster.specs.Sides.{Begins, IsLeading, MayBegin, may_come}
use Rattle.etcd_cluster.specs.Stands.{ChangeFact, Stand, change_fact, done_at}
use Rattle.etcd_cluster.specs.Worlds.{version_told}
use Rattle.etcd_cluster.proofs.Settled.{begins_none, begun_by, knows_done, leads_then, this_or_spent}
use Rattle.etcd_cluster.proofs.Told.{both_err, done_by, if_ok, later_by, on_ok, stand_done, stand_same, told_err, told_ok}
use Rattle.etcd_cluster.specs.Moves.{Moves}
use Rattle.etcd_cluster.proofs.Moved.{begin_moves}
use Rattle.etcd_cluster.proofs.Waited.{meanwhile_as}
use Rattle.etcd_cluster.proofs.settling.begin.Goals as goal

pub returns-clause-begun : goal.returns-clause-begun
returns-clause-begun g c =
    let D = g.C.Cluster in
    let old = c.args.cluster.now in
    let new = c.send_again-told.new.cluster in
    let told = c.send_again-told.result in
    let change : ChangeFact = change_fact c.args.change.now in
    if_ok c.version_told.result (λ version. version_told change told ≡ Some version) (λ version. Begins D old new version change)
    (told_ok change told c.version_told.result c.version_told.ensures.version)
    (λ version is. let by = done_by change told version is in
    begun_by (D.server old) (D.moment old) (may_come D old change) change (this_or_spent change (D.sent old) c.requires.unbegun.spent)
    (D.may_be old) c.requires.unbegun.no_older c.requires.unbegun.foreign (D.may_be new) told version c.requires.mine
    (later_by change told version by c.send_again-told.ensures.later) by c.send_again-told.ensures.told)

pub returns-clause-leads : goal.returns-clause-leads
returns-clause-leads g c =
    let D = g.C.Cluster in
    let old = c.args.cluster.now in
    let new = c.send_again-told.new.cluster in
    let told = c.send_again-told.result in
    let change : ChangeFact = change_fact c.args.change.now in
    if_ok c.version_told.result (λ version. version_told change told ≡ Some version) (λ version. IsLeading D new version)
    (told_ok change told c.version_told.result c.version_told.ensures.version)
    (λ version is.
    let by = done_by change told version is in
    subst (λ (s : ℕ). Leads s version (D.sent new) (D.may_be new)) (sym c.send_again-told.ensures.server)
    (leads_then (D.server old) (D.moment old) version change (D.may_be new) (D.sent old) (D.sent new) (later_by change told version by c.send_again-told.ensures.later)
    c.requires.unbegun.spent c.send_again-told.ensures.sent
    (λ w may. let it = begun_by (D.server old) (D.moment old) (may_come D old change) change (this_or_spent change (D.sent old) c.requires.unbegun.spent)
    (D.may_be old) c.requires.unbegun.no_older c.requires.unbegun.foreign (D.may_be new) told version c.requires.mine
    (later_by change told version by c.send_again-told.ensures.later) by c.send_again-told.ensures.told w may in
    ((it.0).stand, it.3))))

pub returns-clause-pending : goal.returns-clause-pending
returns-clause-pending g c =
    let D = g.C.Cluster in
    let old = c.args.cluster.now in
    let new = c.send_again-told.new.cluster in
    let told = c.send_again-told.result in
    let change : ChangeFact = change_fact c.args.change.now in
    both_err c.version_told.result (version_told change told ≡ None) (MayBegin D old new change) (told_err change told c.version_told.result c.version_told.ensures.version)
    (λ is. begins_none (D.server old) (D.moment old) (may_come D old change) change (this_or_spent change (D.sent old) c.requires.unbegun.spent)
    (D.may_be old) c.requires.unbegun.no_older c.requires.unbegun.foreign (D.may_be new) told is c.send_again-told.ensures.told c.send_again-told.ensures.untold)

pub returns-clause-later : goal.returns-clause-later
returns-clause-later g c =
    let told = c.send_again-told.result in
    let change : ChangeFact = change_fact c.args.change.now in
    if_ok c.version_told.result (λ version. version_told change told ≡ Some version) (λ version. change.after < version)
    (told_ok change told c.version_told.result c.version_told.ensures.version)
    (λ version is. later_by change told version (done_by change told version is) c.send_again-told.ensures.later)

pub returns-clause-stand : goal.returns-clause-stand
returns-clause-stand g c =
    let D = g.C.Cluster in
    let told = c.send_again-told.result in
    let change : ChangeFact = change_fact c.args.change.now in
    if_ok c.version_told.result (λ version. version_told change told ≡ Some version)
    (λ version. D.stand c.send_again-told.new.cluster ≡ done_at version change (D.stand c.args.cluster.now))
    (told_ok change told c.version_told.result c.version_told.ensures.version)
    (λ version is. c.send_again-told.ensures.stand ∙ stand_done change told (D.stand c.args.cluster.now) version is)

pub returns-clause-stays : goal.returns-clause-stays
returns-clause-stays g c =
    let D = g.C.Cluster in
    let told = c.send_again-told.result in
    let change : ChangeFact = change_fact c.args.change.now in
    both_err c.version_told.result (version_told change told ≡ None) (D.stand c.send_again-told.new.cluster ≡ D.stand c.args.cluster.now)
    (told_err change told c.version_told.result c.version_told.ensures.version)
    (λ is. c.send_again-told.ensures.stand ∙ stand_same change told (D.stand c.args.cluster.now) is)

pub returns-clause-knows : goal.returns-clause-knows
returns-clause-knows g c =
    let D = g.C.Cluster in
    let old = c.args.cluster.now in
    let new = c.send_again-told.new.cluster in
    let told = c.send_again-told.result in
    let change : ChangeFact = change_fact c.args.change.now in
    on_ok c.version_told.result (λ version. version_told change told ≡ Some version) (HasRead D old → (D.stand old).version ≡ change.after → Knows D new)
    (told_ok change told c.version_told.result c.version_told.ensures.version)
    (λ version is read of w may none.
    let by = done_by change told version is in
    let it = begun_by (D.server old) (D.moment old) (may_come D old change) change (this_or_spent change (D.sent old) c.requires.unbegun.spent)
    (D.may_be old) c.requires.unbegun.no_older c.requires.unbegun.foreign (D.may_be new) told version c.requires.mine
    (later_by change told version by c.send_again-told.ensures.later) by c.send_again-told.ensures.told w may in
    let stand : D.stand new ≡ done_at version change (D.stand old) = c.send_again-told.ensures.stand ∙ stand_done change told (D.stand old) version is in
    subst (λ (s : Stand). Agrees s w.stand) (sym stand)
    (knows_done (D.server old) (D.moment old) version change (D.stand old) (it.0).stand w none (read.pieces it.0 it.1 (it.2 ∙ sym of)) it.3))

pub returns-clause-meanwhile : goal.returns-clause-meanwhile
returns-clause-meanwhile g c =
    let D = g.C.Cluster in
    let old = c.args.cluster.now in
    let new = c.send_again-told.new.cluster in
    let change : ChangeFact = change_fact c.args.change.now in
    meanwhile_as (D.moment old) (D.may_be old) (D.been_since old) (D.been_since new) (Moves (D.server old) (D.moment old) (may_come D old change))
    (IsBeginning (D.server old) (D.moment old) change) c.send_again-told.ensures.meanwhile
    (λ first w was moved. begin_moves (D.server old) (D.moment old) (may_come D old change) change first w (this_or_spent change (D.sent old) c.requires.unbegun.spent) (c.requires.unbegun.no_older first was) moved)

pub returns-clause-asked : goal.returns-clause-asked
returns-clause-asked g c = record {
  told = c.send_again-told.result;
  asked = c.send_again-told.ensures.asked;
  by = c.version_told.ensures.settled;
}
