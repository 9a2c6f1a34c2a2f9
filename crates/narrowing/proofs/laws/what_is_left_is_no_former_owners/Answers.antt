use Rattle.narrowing.specs.FormerLaws.{no_former}
use Rattle.narrowing.proofs.laws.what_is_left_is_no_former_owners.Goals as goal

pub returns : goal.returns
returns c = λ old under history moment is all. no_former old under history is.one_code all
