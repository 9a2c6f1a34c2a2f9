use Rattle.std.proofs.Common.{◌∙◌}
use Rattle.token_store.proofs.Names.{kept_of}
use Rattle.token_store.proofs.Counting.{same_refusal}
use Rattle.token_store.proofs.store.Store.refusal.Goals as goal

pub returns : goal.returns
returns c = rw (← c.self.view_is) (λ history fits.
    c.refusal.ensures ∙ same_refusal c.args.quota.now (kept_of c.self.inside.tables) history c.args.moment c.args.digests.now fits.kept)
