use Rattle.std.proofs.Common.{sym}
use Rattle.narrowing.proofs.OfLeft.{has_left}
use Rattle.narrowing.proofs.narrowed.narrow.Goals as goal

pub returns-clause-left : goal.returns-clause-left
returns-clause-left g c =
    let bytes = c.args.bytes.now in
    let found = c.in_ok-found.found in
    let left = c.in_ok-left.ensures.left bytes (sym c.in_ok-found.ensures.batches) (sym c.in_ok-found.ensures.torn) in
    has_left g.H.HookHost bytes c.args.host c.args.registry.now (record { frames = c.in_ok-left.left.0; ended = c.in_ok-left.left.1; torn = found.torn }) left.0 left.1

pub returns-clause-until : goal.returns-clause-until
returns-clause-until g c = (c.in_ok-left.ensures.left c.args.bytes.now (sym c.in_ok-found.ensures.batches) (sym c.in_ok-found.ensures.torn)).1.until_is
