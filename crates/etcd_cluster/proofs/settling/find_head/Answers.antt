use Rattle.std.proofs.Common.{◌≡◌, ◌≢◌, ℕ, sym, subst}
use Rattle.etcd_cluster.specs.Knowing.{HasRead, IsForeignTo, stand_found, version_of}
use Rattle.etcd_cluster.specs.Sides.{IsHeadTold, IsNew}
use Rattle.etcd_cluster.specs.Stands.{Stand}
use Rattle.etcd_cluster.proofs.Looked.{IsKnownAll, found_known, found_no_own, found_older, stand_told_then}
use Rattle.etcd_cluster.proofs.Told.{if_ok, if_ok_both}
use Rattle.etcd_cluster.proofs.settling.find_head.Goals as goal

pub returns-clause-found : goal.returns-clause-found
returns-clause-found g c =
    let D = g.C.Cluster in
    let old = c.args.cluster.now in
    let new = c.ask_head.new.cluster in
    let same = c.ask_head.ensures.server in
    if_ok c.ask_head.result (IsHeadTold D old new) (λ found. IsForeignTo (D.server new) found → IsNew D new (version_of found)) c.ask_head.ensures.told
    (λ found told foreign. record {
      spent = λ one is. absurd (c.requires.none_sent one (c.ask_head.ensures.sent one is));
      no_older = λ w may. found_older (D.server old) (D.moment old) (D.sent old) c.requires.none_sent (D.may_be old) found w (told w may);
      foreign = λ w may some. subst (λ (s : ℕ). w.stand.head.server ≢ s) (sym same)
          (found_no_own (D.server old) (D.moment old) (D.sent old) c.requires.none_sent (D.may_be old) found w (subst (λ (s : ℕ). IsForeignTo s found) same foreign) (told w may) some);
    })

pub returns-clause-read : goal.returns-clause-read
returns-clause-read g c =
    let D = g.C.Cluster in
    let old = c.args.cluster.now in
    let new = c.ask_head.new.cluster in
    if_ok_both c.ask_head.result (IsHeadTold D old new) (λ found. D.stand new ≡ stand_found found) (λ found. IsForeignTo (D.server new) found → HasRead D new)
    c.ask_head.ensures.told (stand_told_then c.ask_head.result (D.stand new) (D.stand old) c.requires.none_known c.ask_head.ensures.some c.ask_head.ensures.stand)
    (λ found told stand foreign.
    let known : IsKnownAll (D.stand new) (D.may_be new) =
    subst (λ (s : Stand). IsKnownAll s (D.may_be new)) (sym stand)
    (found_known (D.server old) (D.moment old) (D.sent old) c.requires.none_sent (D.may_be old) (D.may_be new) found told) in
    record { no_older = known.no_older; head = known.head; pieces = known.pieces })

pub returns-clause-stand : goal.returns-clause-stand
returns-clause-stand g c =
    let D = g.C.Cluster in
    stand_told_then c.ask_head.result (D.stand c.ask_head.new.cluster) (D.stand c.args.cluster.now) c.requires.none_known c.ask_head.ensures.some c.ask_head.ensures.stand
