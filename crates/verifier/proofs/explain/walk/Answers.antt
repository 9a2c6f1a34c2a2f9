use Rattle.std.proofs.Common.{refl, arith}
use Rattle.insn.specs.declared.instruction.Insn.TheVariants.{Exit}
use Rattle.insn.specs.Program.{IsProgram}
use Rattle.verifier.proofs.Arriving.{behind_fits, behind_inside, jumps_inside, begins_exploring, ends_exploring, one_explored, refused_told, told_inside, waits_inside}
use Rattle.verifier.proofs.explain.walk.Goals as goal

pub loop-rest-init : goal.loop-rest-init
loop-rest-init c =
    let program : IsProgram c.args.program.now = c.insns-rest.ensures.program in
    rw (c.insns-rest.ensures.value, c.new-unreached.ensures.items)
    (begins_exploring c.args.layout c.args.program.now c.in_ok-waiting.waiting.cases c.in_ok-onward.onward.items c.in_ok-waiting.waiting.apart program.nonempty c.requires (rw c.slots-slots.ensures at c.in_ok-waiting.ensures.begun) c.in_ok-waiting.ensures.spent (let l = c.in_ok-onward.ensures.len in let s = c.slots-slots.ensures in omega (arith, c.in_ok-onward.onward.ok.0)))

pub note-requires : goal.note-requires
note-requires c = waits_inside c.args.layout c.args.program.now c.loop-rest.slot c.loop-rest.rest.now c.loop-rest.waiting.cases Exit c.in-len1-up.len_at_least _ _ c.loop-rest.waiting.apart c.loop-rest.invariant

pub visit-requires-clause-far : goal.visit-requires-clause-far
visit-requires-clause-far c = rw c.loop-rest.invariant.walked.long (jumps_inside c.args.layout c.args.program.now c.loop-rest.slot c.loop-rest.rest.now c.loop-rest.waiting.cases _ c.in-len1-up.len_at_least c.loop-rest.unreached.items c.loop-rest.onward.items c.loop-rest.waiting.apart c.loop-rest.invariant)

pub visit-requires-clause-inside : goal.visit-requires-clause-inside
visit-requires-clause-inside c = rw c.loop-rest.invariant.walked.long (behind_inside c.args.layout c.args.program.now c.loop-rest.slot c.loop-rest.rest.now c.loop-rest.waiting.cases _ c.in-len1-up.len_at_least c.loop-rest.unreached.items c.loop-rest.onward.items c.loop-rest.waiting.apart c.loop-rest.invariant)

pub index_mut-requires : goal.index_mut-requires
index_mut-requires c =
    let inside = told_inside c.args.layout c.args.program.now c.loop-rest.slot c.loop-rest.rest.now c.loop-rest.waiting.cases Exit c.in-len1-up.len_at_least c.loop-rest.unreached.items c.loop-rest.onward.items c.loop-rest.waiting.apart c.loop-rest.invariant in
    omega (arith, inside, c.loop-rest.onward.ok.0)

pub returns-in-Refused : goal.returns-in-Refused
returns-in-Refused c =
    refused_told c.args.layout c.args.program.now c.loop-rest.slot c.loop-rest.rest.now c.loop-rest.waiting.cases _ c.in-len1-up.len_at_least c.loop-rest.unreached.items c.loop-rest.onward.items c.loop-rest.waiting.apart c.loop-rest.invariant c.visit.new.waiting.cases _ c.in-Refused.fault (rw c.in-Refused.is at c.in_ok-here.ensures.told) c.at-fault.ensures refl refl refl

pub overflow_add-slot : goal.overflow_add-slot
overflow_add-slot c =
    let program : IsProgram c.args.program.now = c.insns-rest.ensures.program in
    rw c.slots-slot.ensures.value (behind_fits c.args.layout c.args.program.now c.loop-rest.slot c.loop-rest.rest.now c.loop-rest.waiting.cases _ c.in-len1-up.len_at_least c.loop-rest.unreached.items c.loop-rest.onward.items c.loop-rest.waiting.apart c.loop-rest.invariant program.short)

pub loop-rest-preserved : goal.loop-rest-preserved
loop-rest-preserved c =
    rw c.slots-slot.ensures.value
    (one_explored c.args.layout c.args.program.now c.loop-rest.slot c.loop-rest.rest.now c.loop-rest.waiting.cases _ c.in-len1-up.len_at_least c.loop-rest.unreached.items c.loop-rest.onward.items c.loop-rest.waiting.apart c.loop-rest.invariant c.visit.new.waiting.cases c.visit.new.waiting.apart c.in-Passed.here _ (rw c.in-Passed.is at c.in_ok-here.ensures.told) c.in_ok-note.ensures (c.in_ok-here.ensures.spent refl))

pub returns : goal.returns
returns c = ends_exploring c.args.layout c.args.program.now c.loop-rest.slot c.loop-rest.rest.now c.loop-rest.waiting.cases _ _ c.loop-rest.waiting.apart c.in_default.len_below c.loop-rest.invariant
