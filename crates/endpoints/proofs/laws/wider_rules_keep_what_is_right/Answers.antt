use Rattle.std.proofs.Common.{[]}
use Rattle.endpoints.specs.WideningLaws.{all_right-wider}
use Rattle.endpoints.proofs.laws.wider_rules_keep_what_is_right.Goals as goal

pub returns : goal.returns
returns c = λ old new history wider all. all_right-wider old new wider [] history all
