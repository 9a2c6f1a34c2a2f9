use Rattle.rules_beside.specs.OwnersLaws.{is_one}
use Rattle.narrowing.proofs.laws.owners_are_who_they_were.Goals as goal

pub returns : goal.returns
returns c = λ owners history stay none owner from some was. is_one owners owner stay was (none owner from some)
