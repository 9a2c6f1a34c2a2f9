use Rattle.std.proofs.Common.{[], ◌∷◌, sym, subst, ◌∙◌, arith}
use Rattle.headline.specs.declared.call.Upshot.{Upshot}
use Rattle.transcript.proofs.Names.{AreDone}
use Rattle.transcript.proofs.Stated.{done_on, refused_at}
use Rattle.transcript.proofs.running.first_refusal.Goals as goal

pub returns-in-Refused-clause-refused : goal.returns-in-Refused-clause-refused
returns-in-Refused-clause-refused c =
    refused_at c.args.upshots.now c.loop-upshot.upshot-index c.upshot-item.result c.in-Refused.fault _ c.of_event.result c.loop-upshot-test.true c.loop-upshot.invariant.0 (sym c.upshot-item.is ∙ c.in-Refused.is) c.of_event.ensures (omega (arith, c.loop-upshot.invariant.1))

pub loop-upshot-preserved : goal.loop-upshot-preserved
loop-upshot-preserved c = (
  done_on c.args.upshots.now c.loop-upshot.upshot-index c.upshot-item.result c.loop-upshot-test.true (subst (λ (u : Upshot). AreDone (u ∷ [])) (sym c.in_default.is ∙ c.upshot-item.is) (tt {0})) c.loop-upshot.invariant.0,
  omega (arith, c.loop-upshot.invariant.1),
)
