use Rattle.std.proofs.Common.{◌≤◌, get_or}
use Rattle.insn.specs.Instruction.{slots_of}
use Rattle.insn.specs.RunLaws.{passes}
use Rattle.insn.proofs.places.skip.Goals as goal

pub loop-rest-preserved : goal.loop-rest-preserved
loop-rest-preserved c =
    let fits : slots_of (get_or c.loop-rest.rest.now 0 _) ≤ c.loop-rest.left = rw c.slots-count.ensures.value at c.if-left-count.false in
    rw c.slots-count.ensures.value (passes c.args.insns.now c.args.slots c.loop-rest.rest.now _ c.loop-rest.left c.in-len1-up.len_at_least c.loop-rest.invariant fits)
