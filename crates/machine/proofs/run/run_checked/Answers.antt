use Rattle.std.proofs.Common.{◌≡◌, ◌+◌, ◌-◌, ◌∙◌, ap, Bor, List, take, drop, length, ℕ, rules, FitsSigned, w32, get_or}
use Rattle.machine.proofs.Names.{to_z-of_z, Insn, slots_of}
use Rattle.machine.proofs.Runs.{at_entry, stuck_here, stuck_behind, jumps_nowhere, exits, falls, jumps}
use Rattle.machine.proofs.run.run_checked.Goals as goal
use Rattle.machine.proofs.run.run_checked.Goals.{in-Next, in-Jump+in-Some}

pub loop-rest-init : goal.loop-rest-init
loop-rest-init c = rw (c.insns-rest.ensures.value, c.new-frame.ensures c.args.bytes.now) (at_entry c.args.layout c.args.program.now c.args.bytes.now)

pub returns-in-Stuck : goal.returns-in-Stuck
returns-in-Stuck c = stuck_here _ c.in-len1-up.len_at_least c.loop-rest.invariant _ c.in-Stuck.ensures.0 c.in-Stuck.ensures.1

pub returns-in-None : goal.returns-in-None
returns-in-None c =
    let fits : FitsSigned w32 c.in-Jump.distance = search rules in
    jumps_nowhere _ c.in-len1-up.len_at_least c.loop-rest.invariant c.in-Jump.distance _ c.in-Jump.ensures.0 c.in-Jump.ensures.1 (simp to_z-of_z at c.in-None.ensures.found)

pub returns-in-Exit : goal.returns-in-Exit
returns-in-Exit c = exits _ c.in-len1-up.len_at_least c.loop-rest.invariant c.in-Exit.r0 _ c.in-Exit.ensures.0 c.in-Exit.ensures.1

pub returns : goal.returns
returns c = stuck_behind c.in_default.len_below c.loop-rest.invariant

pub loop-rest-preserved : goal.loop-rest-preserved
loop-rest-preserved c =
    elim c.match-apply.branch [
      | in-Next w ↦
          let at : c.match-apply.slot ≡ c.loop-rest.slot + slots_of (get_or c.loop-rest.rest.now 0 _) = w.slot-is ∙ ap (λ (k : ℕ). c.loop-rest.slot + k) c.slots.ensures.value in
          let left : c.match-apply.rest.now ≡ take (length c.loop-rest.rest.now - 1) (drop 1 c.loop-rest.rest.now) = ap (λ (b : Bor (List Insn)). b.now) w.rest-is in
          rw (at, left) (falls _ c.in-len1-up.len_at_least c.loop-rest.invariant _ w.in-Next.ensures)
      | in-Jump+in-Some w ↦
          let fits : FitsSigned w32 w.in-Jump.distance = search rules in
          let at : c.match-apply.slot ≡ c.loop-rest.slot + slots_of (get_or c.loop-rest.rest.now 0 _) + w.in-Some.to.passed = w.slot-is ∙ ap (λ (k : ℕ). c.loop-rest.slot + k + w.in-Some.to.passed) c.slots.ensures.value in
          let left : c.match-apply.rest.now ≡ w.in-Some.to.rest.now = ap (λ (b : Bor (List Insn)). b.now) w.rest-is in
          rw (at, left) (jumps _ c.in-len1-up.len_at_least c.loop-rest.invariant w.in-Jump.distance _ w.in-Some.to.passed w.in-Some.to.rest.now w.in-Jump.ensures.0 (simp to_z-of_z at w.in-Some.ensures.found) w.in-Some.ensures.rest)
    ]
