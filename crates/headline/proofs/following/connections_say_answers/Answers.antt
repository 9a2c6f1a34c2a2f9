use Rattle.http_edge.specs.Reached.{new_journey}
use Rattle.headline.proofs.Answering.{all_say_answers}
use Rattle.headline.proofs.Talking.{talks_run}
use Rattle.headline.proofs.following.connections_say_answers.Goals as goal

pub returns : goal.returns
returns g c = λ outset schedule world run.
    all_say_answers g.H.HookHost _ (talks_run g.H.HookHost (new_journey outset) schedule world run (λ d k here. absurd (cc)))
