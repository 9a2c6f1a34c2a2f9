use Rattle.std.proofs.Common.{◌≡◌, ◌∙◌, sym, rules, refl, FitsSigned, w32, length}
use Rattle.std.proofs.lemmas.Int.{to_z-of_z}
use Rattle.machine.proofs.Runs.{stuck_here, stuck_behind, jumps_nowhere}
use Rattle.machine.proofs.Telling.{told_at_entry, told_exits, told_falls, told_jumps}
use Rattle.machine.proofs.trace.run_traced.Goals as goal

pub loop-rest-init : goal.loop-rest-init
loop-rest-init c = rw (c.insns-rest.ensures.value, c.new-frame.ensures c.args.bytes.now, c.new-steps.ensures.items) (told_at_entry c.args.layout c.args.program.now c.args.bytes.now)

pub loop-rest-preserved-in-Next : goal.loop-rest-preserved-in-Next
loop-rest-preserved-in-Next c =
    rw c.slots.ensures.value (told_falls _ _ _ _ _ _ _ _ c.in-len1-up.len_at_least c.loop-rest.invariant _ _ c.in-Next.ensures (rw (← c.written-written.ensures) c.in_ok-push-in-Next.ensures.items))

pub loop-rest-preserved : goal.loop-rest-preserved
loop-rest-preserved c =
    let fits : FitsSigned w32 c.in-Jump.distance = search rules in
    rw c.slots.ensures.value (told_jumps _ _ _ _ _ _ _ _ c.in-len1-up.len_at_least c.loop-rest.invariant c.in-Jump.distance _ c.in-Some.to.passed c.in-Some.to.rest.now _ c.in-Jump.ensures.0 (simp to_z-of_z at c.in-Some.ensures.found) c.in-Some.ensures.rest c.in_ok-push-in-Some.ensures.items)

pub returns-in-None : goal.returns-in-None
returns-in-None c =
    let fits : FitsSigned w32 c.in-Jump.distance = search rules in
    record {
      ends = jumps_nowhere _ c.in-len1-up.len_at_least c.loop-rest.invariant.at c.in-Jump.distance _ c.in-Jump.ensures.0 c.in-Jump.ensures.1 (simp to_z-of_z at c.in-None.ensures.found);
      steps_told = c.loop-rest.invariant.so_far;
      to_end = (_, c.loop-rest.invariant.at.reached, refl);
    }

pub returns-in-Exit : goal.returns-in-Exit
returns-in-Exit c =
    let told = told_exits _ _ _ _ _ _ _ _ c.in-len1-up.len_at_least c.loop-rest.invariant c.in-Exit.r0 _ _ c.in-Exit.ensures.0 c.in-Exit.ensures.1 c.in_ok-push-in-Exit.ensures.items in
    let count : c.len.result ≡ length c.push-in-Exit.new.self.items = c.len.ensures ∙ c.push-in-Exit.new.self.ok.0 in
    record { ends = rw count told.0; steps_told = told.1; to_end = sym count }

pub returns-in-Stuck : goal.returns-in-Stuck
returns-in-Stuck c = record {
  ends = stuck_here _ c.in-len1-up.len_at_least c.loop-rest.invariant.at _ c.in-Stuck.ensures.0 c.in-Stuck.ensures.1;
  steps_told = c.loop-rest.invariant.so_far;
  to_end = (_, c.loop-rest.invariant.at.reached, refl);
}

pub returns : goal.returns
returns c = record {
  ends = stuck_behind c.in_default.len_below c.loop-rest.invariant.at;
  steps_told = c.loop-rest.invariant.so_far;
  to_end = (_, c.loop-rest.invariant.at.reached, refl);
}
