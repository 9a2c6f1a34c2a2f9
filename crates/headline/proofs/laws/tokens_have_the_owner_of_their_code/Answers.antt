use Rattle.consent.specs.HistoryLaws.{code_terms-kin}
use Rattle.headline.proofs.laws.tokens_have_the_owner_of_their_code.Goals as goal

pub returns : goal.returns
returns g c = λ server outset history m fits digest moment token terms at of_code.
    code_terms-kin history digest moment token terms fits.store.kept.is_history.kin at of_code
