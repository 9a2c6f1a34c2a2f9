use Rattle.shortening.specs.StandingLaws.{left_of_itself, left-all, left-grown, left-happened, left-shortened, left-numbered, left-greatest, greatest-numbered}
use Rattle.shortening.proofs.laws.a_list_is_left_of_what_happened.Goals as goal

pub returns-clause-all : goal.returns-clause-all
returns-clause-all c = λ history goes. left-all history goes

pub returns-clause-itself : goal.returns-clause-itself
returns-clause-itself c = λ list m sound opens. left_of_itself list m sound opens

pub returns-clause-goes_on : goal.returns-clause-goes_on
returns-clause-goes_on c = λ list history events m left on. left-grown list history m events left on

pub returns-clause-shortened : goal.returns-clause-shortened
returns-clause-shortened c = λ list history m left. left-shortened list history m left

pub returns-clause-numbered : goal.returns-clause-numbered
returns-clause-numbered c = λ list history m n left le. left-numbered list history m n left le

pub returns-clause-greatest : goal.returns-clause-greatest
returns-clause-greatest c = λ list history m left. greatest-numbered list history m left

pub returns-clause-least : goal.returns-clause-least
returns-clause-least c = λ list history m left. left-greatest list history m left

pub returns-clause-happened : goal.returns-clause-happened
returns-clause-happened c = λ list history events after left happened. left-happened list history events after left happened
