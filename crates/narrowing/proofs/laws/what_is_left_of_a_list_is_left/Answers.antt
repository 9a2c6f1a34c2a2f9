use Rattle.narrowing.specs.Left.{is_beyond_rules}
use Rattle.narrowing.specs.LeftLaws.{last_left}
use Rattle.narrowing.specs.StandingLaws.{greatest_still, is_left_still}
use Rattle.narrowing.proofs.laws.what_is_left_of_a_list_is_left.Goals as goal

pub returns-clause-list : goal.returns-clause-list
returns-clause-list c = λ rules list history m of. is_left_still rules list history m of

pub returns-clause-greatest : goal.returns-clause-greatest
returns-clause-greatest c = λ rules list history same. greatest_still rules list history same

pub returns-clause-last : goal.returns-clause-last
returns-clause-last c = λ rules list. last_left rules (is_beyond_rules rules list) 0 list
