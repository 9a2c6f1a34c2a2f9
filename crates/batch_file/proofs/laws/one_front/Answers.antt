use Rattle.batch_file.specs.FramesLaws.{one_front}
use Rattle.batch_file.proofs.laws.one_front.Goals as goal

pub returns : goal.returns
returns c = λ xs ys file a b. (one_front xs ys file a b).0
