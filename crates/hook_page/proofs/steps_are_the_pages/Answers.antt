use Rattle.hook_page.proofs.Runs.{steps_are_alike}
use Rattle.hook_page.proofs.steps_are_the_pages.Goals as goal

pub returns : goal.returns
returns c = steps_are_alike
