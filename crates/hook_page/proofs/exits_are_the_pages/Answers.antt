use Rattle.hook_page.proofs.Runs.{exits_are_alike}
use Rattle.hook_page.proofs.exits_are_the_pages.Goals as goal

pub returns : goal.returns
returns c = exits_are_alike
