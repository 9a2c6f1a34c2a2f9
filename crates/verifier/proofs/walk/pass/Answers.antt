use Rattle.std.proofs.Common.{Ok, w32, ◌≡◌, ◌∙◌, ◌+◌, ◌<◌, Some, arith, length, refl}
use Rattle.verifier.proofs.Names.{Jump, Next, to_z-of_z, distance_of, slots_of, action_of}
use mir.Val.{of_z, to_z}
use Rattle.verifier.specs.declared.known.Flow.TheVariants.{Branch, Exit}
use Rattle.verifier.proofs.Steps.{refused_keeps}
use Rattle.verifier.proofs.Still.{still_known}
use Rattle.verifier.proofs.Arriving.{fits_far, last_passed, passed_exit, passed_jump, passed_next, passed_test}
use Rattle.verifier.proofs.Walks.{stuck_refused}
use Rattle.verifier.proofs.walk.pass.Goals as goal

pub returns-then-behind-slots-clause-told : goal.returns-then-behind-slots-clause-told
returns-then-behind-slots-clause-told c =
    last_passed c.args.layout c.args.insn c.args.slot c.slots-slots.result c.args.known.value c.args.waiting.now.cases c.pass_last.result c.slots-slots.ensures (c.pass_last.ensures)

pub returns-in-Err-clause-told : goal.returns-in-Err-clause-told
returns-in-Err-clause-told c =
    let keeps = refused_keeps c.args.layout (action_of c.args.insn) c.deref_mut.result.now c.apply_moving.new.self c.in-Err.fault c.in-Err.ensures in (
      stuck_refused c.args.layout c.args.insn c.args.slot _ c.args.known.value c.apply_moving.new.self c.in-Err.fault c.requires.writes (rw c.deref_mut.ensures.value at c.in-Err.ensures),
      keeps ∙ c.deref_mut.ensures.value,
    )

pub returns-in_ok-push-in-Ok-clause-told : goal.returns-in_ok-push-in-Ok-clause-told
returns-in_ok-push-in-Ok-clause-told c =
    let inside : c.args.slot + slots_of c.args.insn < length c.args.waiting.now.cases = let all = c.slots-slots.ensures in let less = c.if-behind-slots.false in let size = c.slots.ensures.value in omega arith in
    passed_next c.args.layout c.args.insn c.args.slot c.args.known.value c.apply_moving.new.self c.args.waiting.now.cases c.push.new.self.cases
    (rw c.deref_mut.ensures.value at c.in-Ok.ensures) inside (rw c.slots.ensures.value at (c.in_ok-push-in-Ok.ensures.pushed refl))

pub returns-in-Err-apply_still-clause-told : goal.returns-in-Err-apply_still-clause-told
returns-in-Err-apply_still-clause-told c =
    let keeps = refused_keeps c.args.layout (action_of c.args.insn) c.deref_mut-2.result.now c.apply_still.new.self c.in-Err-apply_still.fault c.in-Err-apply_still.ensures.kinds in (
      stuck_refused c.args.layout c.args.insn c.args.slot _ c.args.known.value c.apply_still.new.self c.in-Err-apply_still.fault c.requires.writes (rw c.deref_mut-2.ensures.value at c.in-Err-apply_still.ensures.kinds),
      keeps ∙ c.deref_mut-2.ensures.value,
    )

pub returns-in_ok-onward-in-Ok-Branch-clause-told : goal.returns-in_ok-onward-in-Ok-Branch-clause-told
returns-in_ok-onward-in-Ok-Branch-clause-told c =
    let inside : c.args.slot + slots_of c.args.insn < length c.args.waiting.now.cases = let all = c.slots-slots.ensures in let less = c.if-behind-slots.false in let size = c.slots.ensures.value in omega arith in
    let own : distance_of c.args.insn ≡ Some c.in-Ok-Branch.distance = rw c.in-Ok-Branch.field-0-is at c.in-Ok-Branch.ensures.own in
    let read : to_z w32 (of_z w32 c.in-Ok-Branch.distance) ≡ c.in-Ok-Branch.distance =
    to_z-of_z w32 c.in-Ok-Branch.distance (fits_far (distance_of c.args.insn) c.in-Ok-Branch.distance (c.args.slot + slots_of c.args.insn) (length c.args.waiting.now.cases) own c.requires.far c.requires.few) in
    passed_test c.args.layout c.args.insn c.args.slot c.args.known.value c.apply_still.new.self c.in-Ok-Branch.distance c.in-Ok-Branch.test c.in_ok-onward-in-Ok-Branch.onward c.args.waiting.now.cases c.push_test.new.self.cases
    (still_known c.args.layout c.args.insn c.args.known.value c.apply_still.new.self (Ok (Branch c.in-Ok-Branch.distance c.in-Ok-Branch.test)) (rw c.deref.ensures at c.moves.ensures.none c.if-moves.false) (rw (c.deref_mut-2.ensures.value, c.in-Ok-Branch.field-0-is) at c.in-Ok-Branch.ensures.kinds)) inside (rw (c.slots.ensures.value, read) at c.in_ok-onward-in-Ok-Branch.ensures.told)

pub returns-in-Ok-Exit-clause-told : goal.returns-in-Ok-Exit-clause-told
returns-in-Ok-Exit-clause-told c = passed_exit c.args.layout c.args.insn c.args.slot c.args.known.value c.apply_still.new.self c.args.waiting.now.cases (still_known c.args.layout c.args.insn c.args.known.value c.apply_still.new.self (Ok Exit) (rw c.deref.ensures at c.moves.ensures.none c.if-moves.false) (rw (c.deref_mut-2.ensures.value, c.in-Ok-Exit.field-0-is) at c.in-Ok-Exit.ensures.kinds))

pub returns-in_ok-push-in-Ok-Jump-clause-told : goal.returns-in_ok-push-in-Ok-Jump-clause-told
returns-in_ok-push-in-Ok-Jump-clause-told c =
    let own : distance_of c.args.insn ≡ Some c.in-Ok-Jump.distance = rw c.in-Ok-Jump.field-0-is at c.in-Ok-Jump.ensures.own in
    let read : to_z w32 (of_z w32 c.in-Ok-Jump.distance) ≡ c.in-Ok-Jump.distance =
    to_z-of_z w32 c.in-Ok-Jump.distance (fits_far (distance_of c.args.insn) c.in-Ok-Jump.distance (c.args.slot + slots_of c.args.insn) (length c.args.waiting.now.cases) own c.requires.far c.requires.few) in
    passed_jump c.args.layout c.args.insn c.args.slot c.args.known.value c.apply_still.new.self c.in-Ok-Jump.distance c.slot_behind.result (length c.args.waiting.now.cases) c.args.waiting.now.cases c.push-in-Ok-Jump.new.self.cases
    (still_known c.args.layout c.args.insn c.args.known.value c.apply_still.new.self (Ok (Jump c.in-Ok-Jump.distance)) (rw c.deref.ensures at c.moves.ensures.none c.if-moves.false) (rw (c.deref_mut-2.ensures.value, c.in-Ok-Jump.field-0-is) at c.in-Ok-Jump.ensures.kinds)) (rw own at c.requires.far) (rw (c.slots.ensures.value, read) at c.slot_behind.ensures) (c.in_ok-push-in-Ok-Jump.ensures.pushed refl)

pub returns-in_ok-push-in-Ok-Next-clause-told : goal.returns-in_ok-push-in-Ok-Next-clause-told
returns-in_ok-push-in-Ok-Next-clause-told c =
    let inside : c.args.slot + slots_of c.args.insn < length c.args.waiting.now.cases = let all = c.slots-slots.ensures in let less = c.if-behind-slots.false in let size = c.slots.ensures.value in omega arith in
    passed_next c.args.layout c.args.insn c.args.slot c.args.known.value c.apply_still.new.self c.args.waiting.now.cases c.push-in-Ok-Next.new.self.cases
    (still_known c.args.layout c.args.insn c.args.known.value c.apply_still.new.self (Ok Next) (rw c.deref.ensures at c.moves.ensures.none c.if-moves.false) (rw (c.deref_mut-2.ensures.value, c.in-Ok-Next.field-0-is) at c.in-Ok-Next.ensures.kinds)) inside (rw c.slots.ensures.value at (c.in_ok-push-in-Ok-Next.ensures.pushed refl))
