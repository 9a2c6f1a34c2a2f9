use Rattle.std.proofs.Common.{◌≡◌, ◌+◌, ◌-◌, ◌++◌, List, [], ◌∷◌, Option, Some, None, refl, sym, ap, ◌∙◌, append_assoc, append-nil, arith}
use Rattle.hook_commands.specs.Names.{slots_of, slot_count}
use Rattle.std.proofs.lemmas.List.Sums.{sum_by_push}
use Rattle.insn.specs.declared.instruction.Insn.{Insn}
use Rattle.hook_commands.specs.declared.way.Step.{Step}
use Rattle.hook_commands.specs.Ways.{jump_target, onward_at, roads_of, target_past, Roads}
use Rattle.hook_commands.specs.WaySteps.{step_of}
use Rattle.hook_commands.proofs.Ways.{no_steps, none_behind, step_back}
use Rattle.hook_commands.proofs.way.steps_to.Goals as goal

none_alone : (P : Option Step → Type 0) → ((x : Step) → P (Some x) → ⊥) → (y : Option Step) → P y → y ≡ None
none_alone P never None e = refl
none_alone P never (Some x) e = absurd (never x e)

pub loop-insn-init : goal.loop-insn-init
loop-insn-init c =
    let long = c.slots-slot.ensures in
    let steps : c.in_ok-steps.steps.items ≡ no_steps c.slots-slot.result = c.in_ok-steps.ensures.items_if_clones_equal (none_alone _ (λ x e. e)) in
    record {
      parts = ([], sym c.insns-rest.ensures.value ∙ sym (append-nil _));
      here = rw c.insns-rest.ensures.value long;
      table = rw (steps, long) (none_behind (roads_of c.args.program.now c.args.onward.now c.args.unwritten) c.args.goal);
    }

pub loop-insn-preserved : goal.loop-insn-preserved
loop-insn-preserved c =
    let roads : Roads = roads_of c.args.program.now c.args.onward.now c.args.unwritten in
    let i = c.in-Some.insn.now in
    let front = c.in-Some.before.now in
    let so_far = c.loop-insn.invariant in
    let whole : c.args.program.now ≡ front ++ i ∷ so_far.parts.0 = so_far.parts.1 ∙ ap (λ (l : List Insn). l ++ so_far.parts.0) c.in-Some.ensures.cases.0 ∙ append_assoc front (i ∷ []) so_far.parts.0 in
    let behind : c.loop-insn.slot ≡ slot_count front + slots_of i = so_far.here ∙ ap slot_count c.in-Some.ensures.cases.0 ∙ sum_by_push slots_of front i in
    let at : c.loop-insn.slot - c.slots-slot-in-Some.result ≡ slot_count front = omega (arith, behind, c.slots-slot-in-Some.ensures.value) in
    let here = onward_at c.args.onward.now (slot_count front) in
    let step : c.step_of-step.result ≡ step_of c.loop-insn.steps.items c.args.goal (target_past c.args.unwritten here (slot_count front) i) (jump_target here (slot_count front) i) =
    rw (c.step_of-step.ensures, c.deref.ensures.value, c.target_past-past.ensures, c.jump_target.ensures, c.onward_at-here.ensures, at) refl in
    record {
      parts = (i ∷ so_far.parts.0, whole);
      here = at;
      table = rw (at, step) (step_back roads c.args.goal front so_far.parts.0 i c.loop-insn.steps.items whole (rw behind at so_far.table));
    }
