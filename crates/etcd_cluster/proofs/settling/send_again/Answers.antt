use Rattle.std.proofs.Common.{◌<◌, ◌≡◌, inl, inr, ◌∙◌, ◌≤◌, refl, ap, arith}
use Rattle.std.specs.Prelude.{Err, Ok}
use Rattle.etcd_cluster.specs.Calls.{Sent}
use Rattle.etcd_cluster.specs.Moves.{Moves, rests}
use Rattle.etcd_cluster.specs.Sides.{IsToldOf, IsUntold, may_come, side_of}
use Rattle.etcd_cluster.specs.Stands.{ChangeFact, Stand, change_fact}
use Rattle.etcd_cluster.specs.Worlds.{stand_then}
use Rattle.etcd_cluster.specs.declared.change.CallFault.TheVariants.{Refused, Unclear}
use Rattle.etcd_cluster.proofs.Again.{last_asked, none_asked, one_more, refused_not, told_not}
use Rattle.etcd_cluster.proofs.Waited.{answered_come, change_told, change_untold, meanwhile_on, sent_more, sent_within}
use Rattle.etcd_cluster.proofs.settling.send_again.Goals as goal

pub sends-init : goal.sends-init
sends-init g c = record {
  moved = λ w may. (w, may, rests);
  meanwhile = record { nothing_else = λ t w le was. inl was; keeps = λ t w le was. was };
  sent = λ one is. inr is;
  asked = none_asked c.args.more (Sent (change_fact c.args.change.now) (Err Unclear)) (g.C.Cluster.calls c.args.cluster.now);
  stand = refl;
  server = refl;
  moment = omega arith;
}

-- nothing was told once more
pub sends-preserved : goal.sends-preserved
sends-preserved g c =
    let D = g.C.Cluster in
    let old = c.args.cluster.now in
    let at = c.sends.cluster in
    let new = c.send.new.self in
    let was = c.sends.invariant in
    let change : ChangeFact = change_fact c.args.change.now in
    let follows = rw c.in-Err-Unclear.field-0-is at c.in-Err-Unclear.ensures.follows in
    let moved : IsUntold D old new change =
    change_untold (D.server old) (D.moment old) (may_come D old change) (D.may_be old) (D.may_be at) (D.may_be new) was.moved
    change (side_of D at) was.server was.moment (sent_more change (D.sent old) (D.sent at) was.sent) (Err Unclear) follows in
    let stand = c.in-Err-Unclear.ensures.stand in
    let server : D.server new ≡ D.server old = c.send.ensures.server ∙ was.server in
    let before = was.moment in
    let later = c.send.ensures.moment in
    let moment : D.moment old ≤ D.moment new = omega (arith, before, later) in
    let called = rw c.in-Err-Unclear.field-0-is at c.in-Err-Unclear.ensures.called in
    let some : 0 < c.sends.left = omega arith in
    let asked = one_more c.args.more c.sends.left (Sent change (Err Unclear)) (D.calls old) (D.calls at) (D.calls new) was.asked some called in
    record {
      moved = rw c.pause.ensures moved;
      asked = rw c.pause.ensures asked;
      meanwhile = rw c.pause.ensures (meanwhile_on (D.moment old) (D.moment at) (D.may_be old) (D.been_since old) (D.been_since at) (D.been_since new) (D.may_be new)
          (Moves (D.server old) (D.moment old) (may_come D old change)) was.moment was.meanwhile c.send.ensures.time moved);
      sent = rw c.pause.ensures (λ one it. sent_more change (D.sent old) (D.sent at) was.sent one
          (sent_within change c.send.result (side_of D at) one (c.send.ensures.sent one it)));
      stand = rw c.pause.ensures (stand ∙ was.stand);
      server = rw c.pause.ensures server;
      moment = rw c.pause.ensures moment;
    }

-- too often
pub returns-then-left-eq0-clause-untold : goal.returns-then-left-eq0-clause-untold
returns-then-left-eq0-clause-untold g c =
    let D = g.C.Cluster in
    let old = c.args.cluster.now in
    let at = c.sends.cluster in
    let new = c.send.new.self in
    let was = c.sends.invariant in
    let change : ChangeFact = change_fact c.args.change.now in
    let follows = rw c.in-Err-Unclear.field-0-is at c.in-Err-Unclear.ensures.follows in
    let moved : IsUntold D old new change =
    change_untold (D.server old) (D.moment old) (may_come D old change) (D.may_be old) (D.may_be at) (D.may_be new) was.moved
    change (side_of D at) was.server was.moment (sent_more change (D.sent old) (D.sent at) was.sent) (Err Unclear) follows in
    moved

pub returns-then-left-eq0-clause-meanwhile : goal.returns-then-left-eq0-clause-meanwhile
returns-then-left-eq0-clause-meanwhile g c =
    let D = g.C.Cluster in
    let old = c.args.cluster.now in
    let at = c.sends.cluster in
    let new = c.send.new.self in
    let was = c.sends.invariant in
    let change : ChangeFact = change_fact c.args.change.now in
    let follows = rw c.in-Err-Unclear.field-0-is at c.in-Err-Unclear.ensures.follows in
    let moved : IsUntold D old new change =
    change_untold (D.server old) (D.moment old) (may_come D old change) (D.may_be old) (D.may_be at) (D.may_be new) was.moved
    change (side_of D at) was.server was.moment (sent_more change (D.sent old) (D.sent at) was.sent) (Err Unclear) follows in
    meanwhile_on (D.moment old) (D.moment at) (D.may_be old) (D.been_since old) (D.been_since at) (D.been_since new) (D.may_be new)
    (Moves (D.server old) (D.moment old) (may_come D old change)) was.moment was.meanwhile c.send.ensures.time moved

pub returns-then-left-eq0-clause-sent : goal.returns-then-left-eq0-clause-sent
returns-then-left-eq0-clause-sent g c =
    let D = g.C.Cluster in
    let at = c.sends.cluster in
    let change : ChangeFact = change_fact c.args.change.now in
    λ one is. sent_more change (D.sent c.args.cluster.now) (D.sent at) c.sends.invariant.sent one
    (sent_within change c.send.result (side_of D at) one (c.send.ensures.sent one is))

pub returns-then-left-eq0-clause-stand : goal.returns-then-left-eq0-clause-stand
returns-then-left-eq0-clause-stand g c =
    let stand = c.in-Err-Unclear.ensures.stand in
    stand ∙ c.sends.invariant.stand

pub returns-then-left-eq0-clause-asked : goal.returns-then-left-eq0-clause-asked
returns-then-left-eq0-clause-asked g c =
    let D = g.C.Cluster in
    let old = c.args.cluster.now in
    let at = c.sends.cluster in
    let new = c.send.new.self in
    let change : ChangeFact = change_fact c.args.change.now in
    let called = rw c.in-Err-Unclear.field-0-is at c.in-Err-Unclear.ensures.called in
    let none : c.sends.left ≡ 0 = omega arith in
    last_asked c.args.more c.sends.left (Sent change) (Err Unclear) (D.calls old) (D.calls at) (D.calls new) c.sends.invariant.asked (λ is. none) called

-- SOMETHING WAS TOLD

pub returns-in-Ok-clause-told : goal.returns-in-Ok-clause-told
returns-in-Ok-clause-told g c =
    let D = g.C.Cluster in
    let old = c.args.cluster.now in
    let at = c.sends.cluster in
    let new = c.send.new.self in
    let was = c.sends.invariant in
    let change : ChangeFact = change_fact c.args.change.now in
    let comes = sent_more change (D.sent old) (D.sent at) was.sent in
    let follows = c.in-Ok.ensures.follows in
    let told : IsToldOf D old new change c.in-Ok.answer =
    change_told (D.server old) (D.moment old) (may_come D old change) (D.may_be old) (D.may_be at) (D.may_be new) was.moved
    change (side_of D at) was.server was.moment comes (Ok c.in-Ok.answer) follows in
    told

pub returns-in-Ok-clause-meanwhile : goal.returns-in-Ok-clause-meanwhile
returns-in-Ok-clause-meanwhile g c =
    let D = g.C.Cluster in
    let old = c.args.cluster.now in
    let at = c.sends.cluster in
    let new = c.send.new.self in
    let was = c.sends.invariant in
    let change : ChangeFact = change_fact c.args.change.now in
    let comes = sent_more change (D.sent old) (D.sent at) was.sent in
    let follows = c.in-Ok.ensures.follows in
    let moved : IsUntold D old new change =
    λ w may. answered_come (D.server old) (D.moment old) (may_come D old change) (D.may_be old) change (inl refl) c.in-Ok.answer w
    (change_told (D.server old) (D.moment old) (may_come D old change) (D.may_be old) (D.may_be at) (D.may_be new) was.moved
    change (side_of D at) was.server was.moment comes (Ok c.in-Ok.answer) follows w may) in
    meanwhile_on (D.moment old) (D.moment at) (D.may_be old) (D.been_since old) (D.been_since at) (D.been_since new) (D.may_be new)
    (Moves (D.server old) (D.moment old) (may_come D old change)) was.moment was.meanwhile c.send.ensures.time moved

pub returns-in-Ok-clause-sent : goal.returns-in-Ok-clause-sent
returns-in-Ok-clause-sent g c =
    let D = g.C.Cluster in
    let at = c.sends.cluster in
    let change : ChangeFact = change_fact c.args.change.now in
    λ one is. sent_more change (D.sent c.args.cluster.now) (D.sent at) c.sends.invariant.sent one
    (sent_within change c.send.result (side_of D at) one (c.send.ensures.sent one is))

pub returns-in-Ok-clause-stand : goal.returns-in-Ok-clause-stand
returns-in-Ok-clause-stand g c =
    let D = g.C.Cluster in
    let change : ChangeFact = change_fact c.args.change.now in
    let stand : D.stand c.send.new.self ≡ stand_then change (Ok c.in-Ok.answer) (D.stand c.sends.cluster) = c.in-Ok.ensures.stand in
    stand ∙ ap (λ (s : Stand). stand_then change (Ok c.in-Ok.answer) s) c.sends.invariant.stand

pub returns-in-Ok-clause-asked : goal.returns-in-Ok-clause-asked
returns-in-Ok-clause-asked g c =
    let D = g.C.Cluster in
    let old = c.args.cluster.now in
    let at = c.sends.cluster in
    let new = c.send.new.self in
    let change : ChangeFact = change_fact c.args.change.now in
    let called = c.in-Ok.ensures.called in
    last_asked c.args.more c.sends.left (Sent change) (Ok c.in-Ok.answer) (D.calls old) (D.calls at) (D.calls new) c.sends.invariant.asked (λ is. told_not is) called

-- IT WAS REFUSED

pub returns-in-Err-Refused-clause-untold : goal.returns-in-Err-Refused-clause-untold
returns-in-Err-Refused-clause-untold g c =
    let D = g.C.Cluster in
    let old = c.args.cluster.now in
    let at = c.sends.cluster in
    let new = c.send.new.self in
    let was = c.sends.invariant in
    let change : ChangeFact = change_fact c.args.change.now in
    let comes = sent_more change (D.sent old) (D.sent at) was.sent in
    let follows = rw c.in-Err-Refused.field-0-is at c.in-Err-Refused.ensures.follows in
    let moved : IsUntold D old new change =
    change_untold (D.server old) (D.moment old) (may_come D old change) (D.may_be old) (D.may_be at) (D.may_be new) was.moved
    change (side_of D at) was.server was.moment comes (Err Refused) follows in
    moved

pub returns-in-Err-Refused-clause-meanwhile : goal.returns-in-Err-Refused-clause-meanwhile
returns-in-Err-Refused-clause-meanwhile g c =
    let D = g.C.Cluster in
    let old = c.args.cluster.now in
    let at = c.sends.cluster in
    let new = c.send.new.self in
    let was = c.sends.invariant in
    let change : ChangeFact = change_fact c.args.change.now in
    let comes = sent_more change (D.sent old) (D.sent at) was.sent in
    let follows = rw c.in-Err-Refused.field-0-is at c.in-Err-Refused.ensures.follows in
    let moved : IsUntold D old new change =
    change_untold (D.server old) (D.moment old) (may_come D old change) (D.may_be old) (D.may_be at) (D.may_be new) was.moved
    change (side_of D at) was.server was.moment comes (Err Refused) follows in
    meanwhile_on (D.moment old) (D.moment at) (D.may_be old) (D.been_since old) (D.been_since at) (D.been_since new) (D.may_be new)
    (Moves (D.server old) (D.moment old) (may_come D old change)) was.moment was.meanwhile c.send.ensures.time moved

pub returns-in-Err-Refused-clause-sent : goal.returns-in-Err-Refused-clause-sent
returns-in-Err-Refused-clause-sent g c =
    let D = g.C.Cluster in
    let at = c.sends.cluster in
    let change : ChangeFact = change_fact c.args.change.now in
    λ one is. sent_more change (D.sent c.args.cluster.now) (D.sent at) c.sends.invariant.sent one
    (sent_within change c.send.result (side_of D at) one (c.send.ensures.sent one is))

pub returns-in-Err-Refused-clause-stand : goal.returns-in-Err-Refused-clause-stand
returns-in-Err-Refused-clause-stand g c =
    let D = g.C.Cluster in
    let change : ChangeFact = change_fact c.args.change.now in
    let stand : D.stand c.send.new.self ≡ D.stand c.sends.cluster = c.in-Err-Refused.ensures.stand in
    stand ∙ c.sends.invariant.stand

pub returns-in-Err-Refused-clause-asked : goal.returns-in-Err-Refused-clause-asked
returns-in-Err-Refused-clause-asked g c =
    let D = g.C.Cluster in
    let old = c.args.cluster.now in
    let at = c.sends.cluster in
    let new = c.send.new.self in
    let change : ChangeFact = change_fact c.args.change.now in
    let called = rw c.in-Err-Refused.field-0-is at c.in-Err-Refused.ensures.called in
    last_asked c.args.more c.sends.left (Sent change) (Err Refused) (D.calls old) (D.calls at) (D.calls new) c.sends.invariant.asked (λ is. refused_not is) called
