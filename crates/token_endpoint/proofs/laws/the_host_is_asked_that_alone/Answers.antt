use Rattle.token_endpoint.specs.AskLaws.{asked_alone}
use Rattle.token_endpoint.proofs.laws.the_host_is_asked_that_alone.Goals as goal

pub returns : goal.returns
returns c = asked_alone
