use Rattle.std.specs.Prelude.{⊤}
use Rattle.serving.specs.Served.{stream_service}
use Rattle.serving.specs.Streams.{does_by}
use Rattle.daemon.specs.ByCount.{ServesEach, between}
use Rattle.daemon.proofs.by_count.serve_each.Given as goal

-- those that were served so far
abbrev pub invariant-loop-served : goal.invariant-loop-served
invariant-loop-served g l =
    ServesEach (stream_service g.H.HookHost (does_by g.R.Stream.Read.remaining g.R.Stream.Write.contents) 1) (λ _ _ _. ⊤)
    (between l.fn.edge l.fn.clock l.fn.rng) l.served (between l.edge l.clock l.rng)
