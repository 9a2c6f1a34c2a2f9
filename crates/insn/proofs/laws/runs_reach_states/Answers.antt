use Rattle.insn.specs.RunLaws.{reached_is_state}
use Rattle.insn.proofs.laws.runs_reach_states.Goals as goal

pub returns : goal.returns
returns c = λ layout program bytes n d fit fits at. reached_is_state layout program fit bytes n d fits at
