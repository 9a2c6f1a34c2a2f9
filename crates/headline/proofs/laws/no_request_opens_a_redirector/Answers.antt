use Rattle.headline.proofs.Redirecting.{no_redirector}
use Rattle.headline.proofs.laws.no_request_opens_a_redirector.Goals as goal

pub returns : goal.returns
returns c = no_redirector
