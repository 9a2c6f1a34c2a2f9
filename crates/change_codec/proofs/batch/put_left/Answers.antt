use Rattle.std.proofs.Common.{◌-◌, ◌+◌, ◌≡◌, ℕ, List, ap, sym, subst, ◌∙◌, arith}
use Rattle.std.specs.List.{AllByRecursion}
use Rattle.change_codec.specs.Spelling.{dated_format}
use Rattle.wire.specs.Lists.{each_onto}
use Rattle.change_codec.proofs.Leaving.{withdrawn_from, withdrawn_first}
use Rattle.change_codec.proofs.batch.put_left.Goals as goal

pub loop-seen-preserved : goal.loop-seen-preserved
unfolding each_onto
loop-seen-preserved c =
    let before = c.loop-seen.invariant in
    let m = c.args.moment in
    let owner = c.args.owner in
    let seen = c.loop-seen.seen in
    let clients = c.args.clients in
    let parts = withdrawn_first m owner seen clients c.loop-seen-test.true in
    let old = c.loop-seen.out.items in
    let rest = withdrawn_from m owner (seen + 1 + 1) (clients - (seen + 1)) in
    record {
      inside = omega (arith, c.loop-seen-test.true);
      written = ap (λ (t : List ℕ). each_onto dated_format t rest) c.in_ok-put_withdrawal.ensures.written
          ∙ ap (each_onto dated_format old) (sym parts)
          ∙ before.written;
      fits = λ later. before.fits (subst (AllByRecursion dated_format.Fits) (sym parts) (c.in_ok-put_withdrawal.ensures.fits, later));
    }
