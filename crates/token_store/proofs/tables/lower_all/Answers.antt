use Rattle.std.proofs.Common.{sym, subst, ◌∙◌}
use Rattle.token_store.specs.RecordsParts.{IsNextOwned}
use Rattle.token_store.proofs.Families.{lowered_more, lowered_all, within_more}
use Rattle.token_store.proofs.tables.lower_all.Goals as goal

pub loop-place-preserved-then-goes_beyond : goal.loop-place-preserved-then-goes_beyond
loop-place-preserved-then-goes_beyond c =
    lowered_more c.args.families.now.entries c.loop-place.families.entries c.loop-place.owners.keys c.args.parties c.args.mask c.loop-place.after c.in-Some.place c.loop-place.invariant
    c.in-Some.ensures c.end_one.new.families.entries c.end_one.new.owners.keys (rw c.turned-number.ensures at (sym c.goes_beyond.ensures ∙ c.if-goes_beyond.true)) (c.end_one.ensures.owned c.loop-place.invariant.owned) (rw c.turned-number.ensures at c.end_one.ensures.ended)

pub loop-place-preserved : goal.loop-place-preserved
loop-place-preserved c =
    within_more c.args.families.now.entries c.loop-place.families.entries c.loop-place.owners.keys c.args.parties c.args.mask c.loop-place.after c.in-Some.place c.loop-place.invariant
    c.in-Some.ensures (rw c.turned-number.ensures at (sym c.goes_beyond.ensures ∙ c.if-goes_beyond.false))

pub returns-clause-lowered : goal.returns-clause-lowered
returns-clause-lowered c =
    lowered_all c.args.families.now.entries c.loop-place.families.entries c.loop-place.owners.keys c.args.parties c.args.mask c.loop-place.after c.loop-place.invariant
    (subst (IsNextOwned c.loop-place.owners.keys c.args.parties c.loop-place.after) c.in_default.is c.next_owned.ensures)
