use Rattle.narrowing.specs.Left.{is_beyond_rules}
use Rattle.narrowing.specs.FormerLaws.{no_formers}
use Rattle.narrowing.specs.LeftLaws.{code_terms_left, consented_left, ended_left}
use Rattle.narrowing.specs.RightLaws.{all_right-left}
use Rattle.narrowing.proofs.laws.what_is_left_is_right.Goals as goal

pub returns-clause-right : goal.returns-clause-right
returns-clause-right c = λ old new clients history moment is all. all_right-left old new history moment clients is all

pub returns-clause-consents : goal.returns-clause-consents
returns-clause-consents c = λ under history owner client. consented_left under (is_beyond_rules under history) history owner client

pub returns-clause-families : goal.returns-clause-families
returns-clause-families c = λ under history moment is family stays. record {
  terms = code_terms_left under (is_beyond_rules under history) family stays history;
  ended = ended_left under (is_beyond_rules under history) family stays history (no_formers under family history (is.one_code family) stays);
}
