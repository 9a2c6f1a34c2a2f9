use Rattle.headline.proofs.Bearing.{isolated}
use Rattle.headline.proofs.laws.clients_are_isolated.Goals as goal

pub returns : goal.returns
returns g c = λ server outset history m occasion fits later. isolated history m fits.store.kept.is_history outset.rules occasion
