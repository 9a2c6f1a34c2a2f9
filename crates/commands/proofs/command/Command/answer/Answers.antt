use Rattle.std.proofs.Common.{subst}
use Rattle.hook_commands.specs.File.{File}
use Rattle.commands.specs.States.{IsFrontTold, IsStateTold}
use Rattle.commands.proofs.command.Command.answer.Goals as goal

pub returns-in-Explain : goal.returns-in-Explain
returns-in-Explain c = rw c.in-Explain.is c.explained.ensures

pub returns-in-State : goal.returns-in-State
returns-in-State c =
    rw c.in-State.is (subst (λ (f : File). IsStateTold c.in-State.path.now f c.args.now c.told_state.result) c.bytes_in-in-State.ensures c.told_state.ensures)

pub returns-in-StateFront : goal.returns-in-StateFront
returns-in-StateFront c =
    rw c.in-StateFront.is (subst (λ (f : File). IsFrontTold c.in-StateFront.path.now f c.args.now c.told_front.result) c.bytes_in-in-StateFront.ensures c.told_front.ensures)
