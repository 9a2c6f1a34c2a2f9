use Rattle.headline.proofs.Bearing.{authorized}
use Rattle.headline.proofs.laws.nothing_happens_without_authority.Goals as goal

pub returns : goal.returns
returns g c = λ server outset history m occasion fits later. authorized history m fits.store.kept.is_history outset.rules occasion
