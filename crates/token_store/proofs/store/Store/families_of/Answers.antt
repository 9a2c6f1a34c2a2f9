use Rattle.std.proofs.Common.{◌∙◌}
use Rattle.token_store.proofs.Owning.{families_counted}
use Rattle.token_store.proofs.store.Store.families_of.Goals as goal

pub returns : goal.returns
returns c = rw (← c.self.view_is) (λ history fits.
    let e = c.families_of.ensures in
    e.count ∙ families_counted c.self.inside.tables history c.args.moment c.args.owner c.self.invariant fits.kept e.unique)
