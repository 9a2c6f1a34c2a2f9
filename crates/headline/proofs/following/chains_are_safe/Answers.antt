use Rattle.std.proofs.Common.{[], refl}
use Rattle.std.proofs.lemmas.List.Elements.{All-nil}
use Rattle.headline.proofs.Chaining.{SafeNamed, run_safe}
use Rattle.headline.proofs.following.chains_are_safe.Goals as goal

pub returns : goal.returns
returns c = λ history chain run. record { hooks = run_safe [] chain history run (All-nil SafeNamed); answers = λ ask. refl }
