use Rattle.std.proofs.Common.{◌≡◌, ◌+◌, [], ◌∷◌, ◌++◌, take, sym, ap, subst, ◌∙◌}
use Rattle.headline.proofs.Names.{take_all, take_more, outset_of, IsMade}
use Rattle.headline.proofs.Leading.{nothing_made, one_more}
use Rattle.headline.proofs.making.make_calls.Goals as goal

pub loop-call-init : goal.loop-call-init
loop-call-init g c =
    let outset = outset_of c.args.rules c.args.host in
    subst (λ upshots. IsMade g.H.HookHost outset [] upshots c.new-edge.result) (sym c.new-upshots.ensures.items)
    (nothing_made g.H.HookHost outset c.new-edge.result (c.new-edge.ensures.begun outset c.new.ensures.fits c.new.ensures.notes))

pub loop-call-preserved : goal.loop-call-preserved
loop-call-preserved g c =
    let outset = outset_of c.args.rules c.args.host in
    let i = c.loop-call.call-index in
    let calls = c.args.calls.now in
    let call = c.call-item.result in
    let edge = c.make_call-upshot.new.edge in
    let more : take (i + 1) calls ≡ take i calls ++ call ∷ [] =
    take_more calls i call c.loop-call-test.true ∙ ap (λ x. take i calls ++ x ∷ []) (sym c.call-item.is) in
    subst (λ cs. IsMade g.H.HookHost outset cs c.push.new.self.items edge) (sym more)
    (subst (λ upshots. IsMade g.H.HookHost outset (take i calls ++ call ∷ []) upshots edge) (sym c.in_ok-push.ensures.items)
    (one_more g.H.HookHost outset (take i calls) c.loop-call.upshots.items c.loop-call.edge edge c.loop-call.invariant call c.make_call-upshot.result c.make_call-upshot.ensures))

pub returns : goal.returns
returns g c =
    subst (λ cs. IsMade g.H.HookHost (outset_of c.args.rules c.args.host) cs c.loop-call.upshots.items c.loop-call.edge)
    (take_all c.loop-call.call-index c.args.calls.now c.loop-call-test.false) c.loop-call.invariant
