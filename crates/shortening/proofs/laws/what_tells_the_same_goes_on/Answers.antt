use Rattle.shortening.specs.AlikeLaws.{can_follow-alike, live_grant-alike, alike-push, alike-trans}
use Rattle.shortening.specs.ShortenedLaws.{greatest_stays}
use Rattle.shortening.proofs.laws.what_tells_the_same_goes_on.Goals as goal

pub returns-clause-follows : goal.returns-clause-follows
returns-clause-follows c = λ history left m t change alike le can. can_follow-alike history left m alike t change le can

pub returns-clause-pushed : goal.returns-clause-pushed
returns-clause-pushed c = λ history left m t change first second le can alike. alike-push history left m t change first second le can alike

pub returns-clause-three : goal.returns-clause-three
returns-clause-three c = λ history left less m t le first second. alike-trans history left less m t le first second

pub returns-clause-greatest : goal.returns-clause-greatest
returns-clause-greatest c = λ history left m alike any. greatest_stays history left m alike any

pub returns-clause-live : goal.returns-clause-live
returns-clause-live c = λ history left digest m t alike le. live_grant-alike history left m alike digest t le
