use Rattle.std.proofs.Common.{◌≡◌, ◌<◌, ◌+◌, ◌∙◌, None, true, false, drop, length, ap, refl, sym, arith}
use Rattle.std.specs.Prelude.{◌||◌}
use Rattle.std.proofs.lemmas.List.{at_drop_all, at_drop_more}
use Rattle.shelf.specs.Shelved.{in_slot, slot_at}
use Rattle.shelf.specs.Standing.{stand_slots}
use Rattle.token_store.proofs.Looking.{any_slots}
use Rattle.token_store.proofs.Names.{is_member_at, list_any}
use Rattle.token_store.proofs.tables.Tables.has_live.Goals as goal

pub loop-slot-init : goal.loop-slot-init
loop-slot-init c = refl

pub loop-slot-preserved : goal.loop-slot-preserved
loop-slot-preserved c =
    let p = in_slot (is_member_at c.args.number c.args.moment) in
    let slots = stand_slots c.args.self.now.records in
    let i = c.loop-slot.slot in
    let count = c.slot_count-slot-end.ensures in
    let none : p (slot_at slots i) ≡ false = ap p (sym c.slot.ensures) ∙ sym c.is_member_in.ensures ∙ c.if-is_member_in.false in
    c.loop-slot.invariant ∙ at_drop_more (list_any p) slots i None (omega (arith, count)) ∙ ap (λ b. b || list_any p (drop (i + 1) slots)) none

pub returns-then-is_member_in : goal.returns-then-is_member_in
returns-then-is_member_in c =
    let test = is_member_at c.args.number c.args.moment in
    let p = in_slot test in
    let slots = stand_slots c.args.self.now.records in
    let i = c.loop-slot.slot in
    let count = c.slot_count-slot-end.ensures in
    let some : p (slot_at slots i) ≡ true = ap p (sym c.slot.ensures) ∙ sym c.is_member_in.ensures ∙ c.if-is_member_in.true in
    sym (sym (any_slots test slots) ∙ c.loop-slot.invariant ∙ at_drop_more (list_any p) slots i None (omega (arith, count)) ∙ ap (λ b. b || list_any p (drop (i + 1) slots)) some)

pub returns : goal.returns
returns c =
    let test = is_member_at c.args.number c.args.moment in
    let slots = stand_slots c.args.self.now.records in
    let count = c.slot_count-slot-end.ensures in
    sym (sym (any_slots test slots) ∙ c.loop-slot.invariant ∙ at_drop_all (list_any (in_slot test)) slots c.loop-slot.slot (omega (arith, count)))
