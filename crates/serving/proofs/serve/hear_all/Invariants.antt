use Rattle.serving.specs.Served.{Reading, serving_scene, stream_service}
use Rattle.serving.specs.ServedParts.{Goes}
use Rattle.serving.proofs.serve.hear_all.Given as goal

abbrev pub invariant-loop-pieces : goal.invariant-loop-pieces
invariant-loop-pieces g l =
    Goes (stream_service g.H.HookHost g.S.Stream.does l.c) g.C.Clock.tells (serving_scene (Reading 0) l.fn.edge l.fn.stream l.fn.clock l.fn.rng) (serving_scene (Reading l.pieces) l.edge l.stream l.clock l.rng)
