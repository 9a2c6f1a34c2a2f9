use Rattle.std.proofs.Common.{◌∙◌}
use Rattle.answers.proofs.endpoint.Endpoint.at.Goals as goal

pub returns : goal.returns
returns c = c.copied.ensures ∙ c.among.ensures
