use Rattle.headline.proofs.Leaving.{ends_owner}
use Rattle.headline.proofs.laws.an_owner_who_left_leaves_nothing.Goals as goal

pub returns : goal.returns
returns g c = λ server outset history m occasion fits later. ends_owner outset.rules history m fits.store.kept.is_history fits.right occasion
