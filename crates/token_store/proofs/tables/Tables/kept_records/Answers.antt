use Rattle.std.proofs.Common.{◌++◌, append-nil, ap, sym, ◌∙◌, refl, arith}
use Rattle.std.proofs.lemmas.List.{at_drop_all}
use Rattle.shelf.specs.Standing.{stand_slots}
use Rattle.token_store.proofs.Names.{as_kept}
use Rattle.token_store.proofs.Unexpired.{slot_there, step_none, step_some, unexpired_in}
use Rattle.token_store.proofs.tables.Tables.kept_records.Goals as goal

pub loop-slot-init : goal.loop-slot-init
loop-slot-init c = rw c.new-kept.ensures.items refl

pub loop-slot-preserved-in_default : goal.loop-slot-preserved-in_default
loop-slot-preserved-in_default c =
    let t = c.args.self.now in
    let count = c.slot_count-slot-end.ensures in
    step_none t.families.entries c.args.moment (as_kept c.loop-slot.kept.items) _ (stand_slots t.records) c.loop-slot.slot (omega (arith, count)) c.in_default.ensures c.loop-slot.invariant

pub loop-slot-preserved : goal.loop-slot-preserved
loop-slot-preserved c =
    let t = c.args.self.now in
    let count = c.slot_count-slot-end.ensures in
    step_some t.families.entries c.args.moment c.loop-slot.kept.items c.push.new.self.items c.in-Some.found _ (stand_slots t.records) c.loop-slot.slot (omega (arith, count))
    c.in-Some.ensures c.in-Ok.ensures.items c.loop-slot.invariant

pub unexpired_in-requires : goal.unexpired_in-requires
unexpired_in-requires c = (let t = c.args.self.now in slot_there t.families.entries (stand_slots t.records) c.loop-slot.slot c.requires.tied.ties.counted)

pub returns : goal.returns
returns c =
    let t = c.args.self.now in
    let kept = as_kept c.loop-slot.kept.items in
    let count = c.slot_count-slot-end.ensures in
    sym (ap (λ ks. kept ++ ks) (at_drop_all (unexpired_in t.families.entries c.args.moment) (stand_slots t.records) c.loop-slot.slot (omega (arith, count))) ∙ append-nil kept) ∙ c.loop-slot.invariant
