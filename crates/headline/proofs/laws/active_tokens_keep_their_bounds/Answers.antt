use Rattle.headline.proofs.Active.{tells_within}
use Rattle.headline.proofs.laws.active_tokens_keep_their_bounds.Goals as goal

pub returns : goal.returns
returns g c = λ server outset history m occasion fits later.
    tells_within outset.rules history m fits.store.kept.is_history fits.right occasion later
