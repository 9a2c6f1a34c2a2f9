use Rattle.std.proofs.Common.{◌∙◌}
use Rattle.token_store.proofs.store.Store.settle.Goals as goal

pub returns-clause-fits : goal.returns-clause-fits
returns-clause-fits c = rw (← c.self.view_is) (λ list m fits. record {
  kept = rw c.settle.ensures.same fits.store.kept;
  last = c.settle.ensures.last ∙ fits.store.last;
})
