use Rattle.std.proofs.Common.{◌<◌, ◌≡◌, inl, ◌∙◌, ◌≤◌, refl, ap, arith}
use Rattle.std.specs.Prelude.{map, Err, IfSome, Ok}
use Rattle.etcd_cluster.specs.Calls.{AskedPieces}
use Rattle.etcd_cluster.specs.Moves.{Moves, rests}
use Rattle.etcd_cluster.specs.Sides.{ArePiecesTold, IsSilent, side_of}
use Rattle.etcd_cluster.specs.Stands.{Stand, piece_fact}
use Rattle.etcd_cluster.specs.Worlds.{seen_pieces, stand_seen}
use Rattle.etcd_cluster.specs.declared.change.CallFault.TheVariants.{Refused, Unclear}
use Rattle.etcd_cluster.proofs.Again.{last_asked, none_asked, one_more, refused_not, told_not}
use Rattle.etcd_cluster.proofs.Waited.{meanwhile_on, pieces_silent, pieces_told}
use Rattle.etcd_cluster.proofs.settling.look_again.Goals as goal

pub looks-init : goal.looks-init
looks-init g c = record {
  moved = λ w may. (w, may, rests);
  meanwhile = record { nothing_else = λ t w le was. inl was; keeps = λ t w le was. was };
  sent = λ one is. is;
  asked = none_asked c.args.more (AskedPieces c.args.wanted (Err Unclear)) (g.C.Cluster.calls c.args.cluster.now);
  stand = refl;
  server = refl;
  moment = omega arith;
}

-- nothing was told once more
pub looks-preserved : goal.looks-preserved
looks-preserved g c =
    let D = g.C.Cluster in
    let old = c.args.cluster.now in
    let at = c.looks.cluster in
    let new = c.look.new.self in
    let was = c.looks.invariant in
    let follows = c.in-Err-Unclear.ensures.follows in
    let moved : IsSilent D old new =
    pieces_silent (D.server old) (D.moment old) (D.sent old) (D.may_be old) (D.may_be at) (D.may_be new) was.moved
    c.args.wanted (side_of D at) was.server was.moment was.sent (Err Unclear) follows in
    let stand = c.in-Err-Unclear.ensures.stand in
    let server : D.server new ≡ D.server old = c.look.ensures.server ∙ was.server in
    let before = was.moment in
    let later = c.look.ensures.moment in
    let moment : D.moment old ≤ D.moment new = omega (arith, before, later) in
    let called = rw c.in-Err-Unclear.field-0-is at c.in-Err-Unclear.ensures.called in
    let some : 0 < c.looks.left = omega arith in
    let asked = one_more c.args.more c.looks.left (AskedPieces c.args.wanted (Err Unclear)) (D.calls old) (D.calls at) (D.calls new) was.asked some called in
    record {
      moved = rw c.pause.ensures moved;
      asked = rw c.pause.ensures asked;
      meanwhile = rw c.pause.ensures (meanwhile_on (D.moment old) (D.moment at) (D.may_be old) (D.been_since old) (D.been_since at) (D.been_since new) (D.may_be new)
          (Moves (D.server old) (D.moment old) (D.sent old)) was.moment was.meanwhile c.look.ensures.time moved);
      sent = rw c.pause.ensures (λ one it. was.sent one (c.look.ensures.sent one it));
      stand = rw c.pause.ensures (stand ∙ was.stand);
      server = rw c.pause.ensures server;
      moment = rw c.pause.ensures moment;
    }

-- too often
pub returns-then-left-eq0-clause-silent : goal.returns-then-left-eq0-clause-silent
returns-then-left-eq0-clause-silent g c =
    let D = g.C.Cluster in
    let old = c.args.cluster.now in
    let at = c.looks.cluster in
    let new = c.look.new.self in
    let was = c.looks.invariant in
    let follows = c.in-Err-Unclear.ensures.follows in
    let moved : IsSilent D old new =
    pieces_silent (D.server old) (D.moment old) (D.sent old) (D.may_be old) (D.may_be at) (D.may_be new) was.moved
    c.args.wanted (side_of D at) was.server was.moment was.sent (Err Unclear) follows in
    moved

pub returns-then-left-eq0-clause-meanwhile : goal.returns-then-left-eq0-clause-meanwhile
returns-then-left-eq0-clause-meanwhile g c =
    let D = g.C.Cluster in
    let old = c.args.cluster.now in
    let at = c.looks.cluster in
    let new = c.look.new.self in
    let was = c.looks.invariant in
    let follows = c.in-Err-Unclear.ensures.follows in
    let moved : IsSilent D old new =
    pieces_silent (D.server old) (D.moment old) (D.sent old) (D.may_be old) (D.may_be at) (D.may_be new) was.moved
    c.args.wanted (side_of D at) was.server was.moment was.sent (Err Unclear) follows in
    meanwhile_on (D.moment old) (D.moment at) (D.may_be old) (D.been_since old) (D.been_since at) (D.been_since new) (D.may_be new)
    (Moves (D.server old) (D.moment old) (D.sent old)) was.moment was.meanwhile c.look.ensures.time moved

pub returns-then-left-eq0-clause-sent : goal.returns-then-left-eq0-clause-sent
returns-then-left-eq0-clause-sent g c = λ one is. c.looks.invariant.sent one (c.look.ensures.sent one is)

pub returns-then-left-eq0-clause-stand : goal.returns-then-left-eq0-clause-stand
returns-then-left-eq0-clause-stand g c =
    let stand = c.in-Err-Unclear.ensures.stand in
    stand ∙ c.looks.invariant.stand

pub returns-then-left-eq0-clause-asked : goal.returns-then-left-eq0-clause-asked
returns-then-left-eq0-clause-asked g c =
    let D = g.C.Cluster in
    let old = c.args.cluster.now in
    let at = c.looks.cluster in
    let new = c.look.new.self in
    let called = rw c.in-Err-Unclear.field-0-is at c.in-Err-Unclear.ensures.called in
    let none : c.looks.left ≡ 0 = omega arith in
    last_asked c.args.more c.looks.left (AskedPieces c.args.wanted) (Err Unclear) (D.calls old) (D.calls at) (D.calls new) c.looks.invariant.asked (λ is. none) called

-- SOMETHING WAS TOLD

pub returns-in-Ok-clause-told : goal.returns-in-Ok-clause-told
returns-in-Ok-clause-told g c =
    let D = g.C.Cluster in
    let old = c.args.cluster.now in
    let at = c.looks.cluster in
    let new = c.look.new.self in
    let was = c.looks.invariant in
    let follows = c.in-Ok.ensures.follows in
    let told : IfSome c.in-Ok.found (λ pieces. ArePiecesTold D old new c.args.wanted (map piece_fact pieces.items)) =
    pieces_told (D.server old) (D.moment old) (D.sent old) (D.may_be old) (D.may_be at) (D.may_be new) was.moved
    c.args.wanted (side_of D at) was.server was.moment was.sent (Ok c.in-Ok.found) follows in
    told

pub returns-in-Ok-clause-silent : goal.returns-in-Ok-clause-silent
returns-in-Ok-clause-silent g c =
    let D = g.C.Cluster in
    let old = c.args.cluster.now in
    let at = c.looks.cluster in
    let new = c.look.new.self in
    let was = c.looks.invariant in
    let follows = c.in-Ok.ensures.follows in
    let moved : IsSilent D old new =
    pieces_silent (D.server old) (D.moment old) (D.sent old) (D.may_be old) (D.may_be at) (D.may_be new) was.moved
    c.args.wanted (side_of D at) was.server was.moment was.sent (Ok c.in-Ok.found) follows in
    moved

pub returns-in-Ok-clause-meanwhile : goal.returns-in-Ok-clause-meanwhile
returns-in-Ok-clause-meanwhile g c =
    let D = g.C.Cluster in
    let old = c.args.cluster.now in
    let at = c.looks.cluster in
    let new = c.look.new.self in
    let was = c.looks.invariant in
    let follows = c.in-Ok.ensures.follows in
    let moved : IsSilent D old new =
    pieces_silent (D.server old) (D.moment old) (D.sent old) (D.may_be old) (D.may_be at) (D.may_be new) was.moved
    c.args.wanted (side_of D at) was.server was.moment was.sent (Ok c.in-Ok.found) follows in
    meanwhile_on (D.moment old) (D.moment at) (D.may_be old) (D.been_since old) (D.been_since at) (D.been_since new) (D.may_be new)
    (Moves (D.server old) (D.moment old) (D.sent old)) was.moment was.meanwhile c.look.ensures.time moved

pub returns-in-Ok-clause-sent : goal.returns-in-Ok-clause-sent
returns-in-Ok-clause-sent g c = λ one is. c.looks.invariant.sent one (c.look.ensures.sent one is)

pub returns-in-Ok-clause-stand : goal.returns-in-Ok-clause-stand
returns-in-Ok-clause-stand g c =
    let D = g.C.Cluster in
    let stand : D.stand c.look.new.self ≡ stand_seen c.args.wanted (seen_pieces (Ok c.in-Ok.found)) (D.stand c.looks.cluster) = c.in-Ok.ensures.stand in
    stand ∙ ap (λ (s : Stand). stand_seen c.args.wanted (seen_pieces (Ok c.in-Ok.found)) s) c.looks.invariant.stand

pub returns-in-Ok-clause-asked : goal.returns-in-Ok-clause-asked
returns-in-Ok-clause-asked g c =
    let D = g.C.Cluster in
    let old = c.args.cluster.now in
    let at = c.looks.cluster in
    let new = c.look.new.self in
    let called = c.in-Ok.ensures.called in
    last_asked c.args.more c.looks.left (AskedPieces c.args.wanted) (seen_pieces (Ok c.in-Ok.found)) (D.calls old) (D.calls at) (D.calls new) c.looks.invariant.asked (λ is. told_not is) called

-- IT WAS REFUSED

pub returns-in-Err-Refused-clause-silent : goal.returns-in-Err-Refused-clause-silent
returns-in-Err-Refused-clause-silent g c =
    let D = g.C.Cluster in
    let old = c.args.cluster.now in
    let at = c.looks.cluster in
    let new = c.look.new.self in
    let was = c.looks.invariant in
    let follows = c.in-Err-Refused.ensures.follows in
    let moved : IsSilent D old new =
    pieces_silent (D.server old) (D.moment old) (D.sent old) (D.may_be old) (D.may_be at) (D.may_be new) was.moved
    c.args.wanted (side_of D at) was.server was.moment was.sent (Err Refused) follows in
    moved

pub returns-in-Err-Refused-clause-meanwhile : goal.returns-in-Err-Refused-clause-meanwhile
returns-in-Err-Refused-clause-meanwhile g c =
    let D = g.C.Cluster in
    let old = c.args.cluster.now in
    let at = c.looks.cluster in
    let new = c.look.new.self in
    let was = c.looks.invariant in
    let follows = c.in-Err-Refused.ensures.follows in
    let moved : IsSilent D old new =
    pieces_silent (D.server old) (D.moment old) (D.sent old) (D.may_be old) (D.may_be at) (D.may_be new) was.moved
    c.args.wanted (side_of D at) was.server was.moment was.sent (Err Refused) follows in
    meanwhile_on (D.moment old) (D.moment at) (D.may_be old) (D.been_since old) (D.been_since at) (D.been_since new) (D.may_be new)
    (Moves (D.server old) (D.moment old) (D.sent old)) was.moment was.meanwhile c.look.ensures.time moved

pub returns-in-Err-Refused-clause-sent : goal.returns-in-Err-Refused-clause-sent
returns-in-Err-Refused-clause-sent g c = λ one is. c.looks.invariant.sent one (c.look.ensures.sent one is)

pub returns-in-Err-Refused-clause-stand : goal.returns-in-Err-Refused-clause-stand
returns-in-Err-Refused-clause-stand g c =
    let D = g.C.Cluster in
    let stand : D.stand c.look.new.self ≡ D.stand c.looks.cluster = c.in-Err-Refused.ensures.stand in
    stand ∙ c.looks.invariant.stand

pub returns-in-Err-Refused-clause-asked : goal.returns-in-Err-Refused-clause-asked
returns-in-Err-Refused-clause-asked g c =
    let D = g.C.Cluster in
    let old = c.args.cluster.now in
    let at = c.looks.cluster in
    let new = c.look.new.self in
    let called = rw c.in-Err-Refused.field-0-is at c.in-Err-Refused.ensures.called in
    last_asked c.args.more c.looks.left (AskedPieces c.args.wanted) (Err Refused) (D.calls old) (D.calls at) (D.calls new) c.looks.invariant.asked (λ is. refused_not is) called
