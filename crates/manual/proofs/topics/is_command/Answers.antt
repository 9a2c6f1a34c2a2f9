use Rattle.manual.specs.Words.{command_names}
use Rattle.manual.proofs.topics.is_command.Goals as goal

pub returns : goal.returns
unfolding command_names
returns c = c.is_topic.ensures
