use Rattle.endpoints.proofs.AnswerWhole.{answered}
use Rattle.headline.proofs.laws.each_outcome_is_the_answer.Goals as goal

pub returns : goal.returns
returns c = answered
