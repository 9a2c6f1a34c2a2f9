use Rattle.std.proofs.Common.{◌∙◌}
use Rattle.token_store.proofs.Names.{kept_of}
use Rattle.token_store.proofs.Telling.{fits_same}
use Rattle.token_store.proofs.store.Store.reserve.Goals as goal

pub returns-clause-fits : goal.returns-clause-fits
returns-clause-fits c = rw (← c.self.view_is) (λ history m fits. record {
  kept = fits_same (kept_of c.self.inside.tables) c.reserve.new.self history m c.reserve.ensures.tied (c.reserve.ensures.same m) fits.kept;
  last = c.reserve.ensures.last ∙ fits.last;
})
