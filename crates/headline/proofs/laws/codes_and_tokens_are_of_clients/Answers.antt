use Rattle.endpoints.specs.BoundedLaws.{tokens_keep_their_bounds}
use Rattle.headline.proofs.Bounding.{of_client}
use Rattle.headline.proofs.laws.codes_and_tokens_are_of_clients.Goals as goal

pub returns : goal.returns
returns g c = λ server outset history m fits digest moment token at.
    of_client outset.rules history digest moment token (tokens_keep_their_bounds outset.rules history m fits.store.kept.is_history fits.right) at
