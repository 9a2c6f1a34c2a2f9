use Rattle.hook_page.proofs.Runs.{safe_is_safe}
use Rattle.hook_page.proofs.safe_programs_are_safe_by_the_page.Goals as goal

pub returns : goal.returns
returns c = safe_is_safe
