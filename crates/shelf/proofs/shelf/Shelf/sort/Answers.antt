use Rattle.std.proofs.Common.{◌≡◌, ◌<◌, ◌≤◌, ◌+◌, ◌*◌, ◌∙◌, ap, refl, sym, subst, Some, None, inr, arith}
use Rattle.chains.specs.Chained.{Chained, moved}
use Rattle.chains.specs.ChainedLaws.{left_none, no_more_left, one_more_left}
use Rattle.shelf.specs.Shelved.{due, facts_of, free, list_for, pending, slot_at}
use Rattle.shelf.proofs.Given.{facts_slot, no_facts}
use Rattle.shelf.proofs.Sorting.{came_else, came_from, put_empty, put_fewer, put_sorted}
use Rattle.shelf.proofs.Timing.{list_sorted, moves_out}
use Rattle.shelf.proofs.shelf.Shelf.sort.Goals as goal

pub returns-in_default-clause-shelved : goal.returns-in_default-clause-shelved
returns-in_default-clause-shelved g c = record { timer = c.requires.timer; shelved = rw c.in_default.ensures.same c.requires.shelved }

pub returns-in_default-clause-settled : goal.returns-in_default-clause-settled
returns-in_default-clause-settled g c = λ is.
    let stands = c.requires in
    let none = c.in_default.ensures.none stands.timer stands.shelved.timed in
    let all = stands.shelved.all in
    record {
      stands = record { timer = stands.timer; shelved = rw c.in_default.ensures.same stands.shelved };
      none = rw c.in_default.ensures.same (left_none stands.shelved.timed pending (omega (arith, all)) none.0);
    }

pub returns-in_default-clause-same : goal.returns-in_default-clause-same
returns-in_default-clause-same g c = λ is. ap (λ w. record c.args.self.now { wheel = w }) c.in_default.ensures.same

pub returns-in_default-facts_of-clause-shelved : goal.returns-in_default-facts_of-clause-shelved
returns-in_default-facts_of-clause-shelved g c =
    let old = c.args.self.now in
    let sorting = c.requires in
    let t = sorting.timer in
    let x = c.in-Some.slot in
    let out = c.in-Some.ensures.out t sorting.shelved.timed in
    let put = c.push.ensures.put (moved t x None) out.1 (moves_out t x) in
    let empty = no_facts (facts_of g.R.Lasts.until g.R.Lasts.whose) (slot_at old.slots.items x) (sym c.facts_of.ensures ∙ c.in_default-facts_of.is) in
    record {
      timer = moved t x (Some free);
      shelved = put_empty g.R.Lasts.until g.R.Lasts.whose old _ t sorting.shelved x pending free out.0 refl refl refl refl (c.push.ensures.shape.heads ∙ c.pop.ensures.shape.heads) (c.push.ensures.shape.cells ∙ c.pop.ensures.shape.cells) put empty refl;
    }

pub returns-in_default-facts_of-clause-goes : goal.returns-in_default-facts_of-clause-goes
returns-in_default-facts_of-clause-goes g c = λ is.
    let old = c.args.self.now in
    let sorting = c.requires in
    let t = sorting.timer in
    let x = c.in-Some.slot in
    let out = c.in-Some.ensures.out t sorting.shelved.timed in
    let put = c.push.ensures.put (moved t x None) out.1 (moves_out t x) in
    let empty = no_facts (facts_of g.R.Lasts.until g.R.Lasts.whose) (slot_at old.slots.items x) (sym c.facts_of.ensures ∙ c.in_default-facts_of.is) in
    let heads = c.push.ensures.shape.heads ∙ c.pop.ensures.shape.heads in
    let cells = c.push.ensures.shape.cells ∙ c.pop.ensures.shape.cells in
    let all = sorting.shelved.all in
    let shelved = put_empty g.R.Lasts.until g.R.Lasts.whose old (record old { wheel = c.push.new.self }) t sorting.shelved x pending free out.0 refl refl refl refl heads cells put empty refl in
    let less = put_fewer g.R.Lasts.until g.R.Lasts.whose old (record old { wheel = c.push.new.self }) t sorting.shelved x pending free out.0 refl refl refl refl heads cells put shelved.timed (omega (arith, all)) (λ e. absurd (omega (arith, e))) in
    let still = no_more_left sorting.shelved.timed put due (omega (arith, all)) (omega (arith, all, heads)) (came_from t x free due (λ e. absurd (omega (arith, e)))) in
    omega (arith, less, still)

pub returns-clause-shelved : goal.returns-clause-shelved
returns-clause-shelved g c =
    let old = c.args.self.now in
    let sorting = c.requires in
    let t = sorting.timer in
    let x = c.in-Some.slot in
    let list = c.list_for-list.result in
    let out = c.in-Some.ensures.out t sorting.shelved.timed in
    let put = c.push-2.ensures.put (moved t x None) out.1 (moves_out t x) in
    let there = facts_slot (facts_of g.R.Lasts.until g.R.Lasts.whose) (slot_at old.slots.items x) c.in-Some-facts_of.facts (sym c.facts_of.ensures ∙ c.in-Some-facts_of.is) in
    record {
      timer = moved t x (Some list);
      shelved = put_sorted g.R.Lasts.until g.R.Lasts.whose old _ t sorting.shelved x pending list out.0 refl refl refl refl (c.push-2.ensures.shape.heads ∙ c.pop.ensures.shape.heads) (c.push-2.ensures.shape.cells ∙ c.pop.ensures.shape.cells) put
          there.0 there.1 out.0 (c.list_for-list.ensures ∙ ap (λ f. list_for old.second f.until) there.2) (rw there.2 at c.leave_if.ensures.leaves);
    }

pub returns-clause-goes : goal.returns-clause-goes
returns-clause-goes g c = λ is.
    let old = c.args.self.now in
    let sorting = c.requires in
    let t = sorting.timer in
    let x = c.in-Some.slot in
    let list = c.list_for-list.result in
    let out = c.in-Some.ensures.out t sorting.shelved.timed in
    let put = c.push-2.ensures.put (moved t x None) out.1 (moves_out t x) in
    let there = facts_slot (facts_of g.R.Lasts.until g.R.Lasts.whose) (slot_at old.slots.items x) c.in-Some-facts_of.facts (sym c.facts_of.ensures ∙ c.in-Some-facts_of.is) in
    let heads = c.push-2.ensures.shape.heads ∙ c.pop.ensures.shape.heads in
    let cells = c.push-2.ensures.shape.cells ∙ c.pop.ensures.shape.cells in
    let all = sorting.shelved.all in
    let which = c.list_for-list.ensures ∙ ap (λ f. list_for old.second f.until) there.2 in
    let new = record old { wheel = c.push-2.new.self; tally = c.leave_if.new.self } in
    let shelved = put_sorted g.R.Lasts.until g.R.Lasts.whose old new t sorting.shelved x pending list out.0 refl refl refl refl heads cells put there.0 there.1 out.0 which (rw there.2 at c.leave_if.ensures.leaves) in
    let less = put_fewer g.R.Lasts.until g.R.Lasts.whose old new t sorting.shelved x pending list out.0 refl refl refl refl heads cells put shelved.timed (omega (arith, all)) (λ e. list_sorted old.second (g.R.Lasts.until there.0.kept) (sym which ∙ e)) in
    let still = one_more_left sorting.shelved.timed put due x (omega (arith, all)) (omega (arith, all, heads)) (came_else t x list due) in
    omega (arith, less, still)
