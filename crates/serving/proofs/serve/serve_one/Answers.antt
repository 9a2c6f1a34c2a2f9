use Rattle.std.proofs.Common.{refl}
use Rattle.serving.specs.Served.{Coming, serving_scene, stream_service, begins, goes, opens, denies, forgets}
use Rattle.serving.proofs.Following.{leads_on}
use Rattle.serving.proofs.Exchanging.{answers}
use Rattle.serving.proofs.serve.serve_one.Goals as goal

pub returns-in-Err-clause-served : goal.returns-in-Err-clause-served
returns-in-Err-clause-served g c = rw c.in-Err.ensures.err (goes begins (denies c.in-Err.fault c.in-Err.ensures.refused))

pub returns-in-Err-clause-reached : goal.returns-in-Err-clause-reached
returns-in-Err-clause-reached g c = leads_on (stream_service g.H.HookHost g.S.Stream.does c.args.c) g.C.Clock.tells _ _ (returns-in-Err-clause-served g c)

pub returns-clause-served : goal.returns-clause-served
returns-clause-served g c =
    goes
    (c.attend-result.ensures (serving_scene Coming c.args.edge.now c.args.stream.now c.args.clock.now c.args.rng.now) (goes begins (opens c.in_default.ensures.done)))
    (forgets _ c.forget.ensures.forgotten c.forget.ensures.gone)

pub returns-clause-reached : goal.returns-clause-reached
returns-clause-reached g c = leads_on (stream_service g.H.HookHost g.S.Stream.does c.args.c) g.C.Clock.tells _ _ (returns-clause-served g c)

pub returns-in-Err-clause-written : goal.returns-in-Err-clause-written
returns-in-Err-clause-written g c = answers (stream_service g.H.HookHost g.S.Stream.does c.args.c) g.C.Clock.tells _ _ _ (returns-in-Err-clause-served g c) refl refl

pub returns-clause-written : goal.returns-clause-written
returns-clause-written g c = answers (stream_service g.H.HookHost g.S.Stream.does c.args.c) g.C.Clock.tells _ _ _ (returns-clause-served g c) refl refl
