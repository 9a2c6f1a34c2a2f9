use Rattle.endpoints.specs.BoundedLaws.{tokens_keep_their_bounds}
use Rattle.endpoints.proofs.laws.codes_and_tokens_keep_their_bounds.Goals as goal

pub returns : goal.returns
returns g c = λ server outset history m fits. tokens_keep_their_bounds outset.rules history m fits.store.kept.is_history fits.right
