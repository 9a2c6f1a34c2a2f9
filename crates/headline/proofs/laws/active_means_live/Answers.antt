use Rattle.headline.proofs.Active.{active_where_live}
use Rattle.headline.proofs.laws.active_means_live.Goals as goal

pub returns : goal.returns
returns g c = λ server outset history m occasion fits later.
    active_where_live outset.rules history m fits.store.kept.is_history fits.right occasion later
