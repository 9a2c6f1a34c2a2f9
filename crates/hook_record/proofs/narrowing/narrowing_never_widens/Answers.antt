use Rattle.hook_record.specs.NarrowingLaws.{met_narrows, narrowed_narrows}
use Rattle.hook_record.proofs.narrowing.narrowing_never_widens.Goals as goal

pub returns-clause-met : goal.returns-clause-met
returns-clause-met c = met_narrows

pub returns-clause-narrowed : goal.returns-clause-narrowed
returns-clause-narrowed c = narrowed_narrows
