use Rattle.assembler.proofs.Jumps.{jump_if_draft}
use Rattle.assembler.proofs.draft.jump_if.Goals as goal

pub returns : goal.returns
returns c = jump_if_draft c.args.width c.args.cond c.in_ok-dst.dst c.in_ok-source.source c.args.dst.now c.args.source.now c.args.target.now c.in_ok-dst.ensures.some c.in_ok-source.ensures c.jump_to.result c.jump_to.ensures
