use Rattle.std.proofs.Common.{drop, length}
use Rattle.std.proofs.lemmas.Bool.Decides.{Decides-eqb}
use Rattle.std.proofs.lemmas.Slice.Eq.{starts_is}
use Rattle.desk.proofs.judging.begins_with.Goals as goal

pub returns : goal.returns
returns c =
    let both = starts_is Decides-eqb c.args.bytes.now c.args.front.now c.starts_with.result c.starts_with.ensures.value in
    ((λ yes. (drop (length c.args.front.now) c.args.bytes.now, both.0 yes)), (λ is. both.1 is.0 is.1))
