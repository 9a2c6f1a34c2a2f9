use Rattle.std.proofs.Common.{◌≡◌, ◌∙◌, Some, None, ap, length, sym, arith}
use Rattle.shelf.specs.Shelved.{Named, facts_of, slot_at}
use Rattle.shelf.proofs.Given.{facts_held, no_facts}
use Rattle.shelf.proofs.Timing.{counts_ahead, over_counts, timed_at}
use Rattle.shelf.proofs.shelf.Shelf.counts.Goals as goal

pub returns-in_default-clause-counted : goal.returns-in_default-clause-counted
returns-in_default-clause-counted g c =
    let held = c.requires.held in
    let x = c.args.slot in
    let empty = no_facts (facts_of g.R.Lasts.until g.R.Lasts.whose) (slot_at c.args.self.now.slots.items x) (sym c.facts_of.ensures ∙ c.in_default.is) in
    absurd (let both : None ≡ Some held.slot = sym empty ∙ held.at in cc)

pub returns-then-self-facts-clause-counted : goal.returns-then-self-facts-clause-counted
returns-then-self-facts-clause-counted g c =
    let old = c.args.self.now in
    let x = c.args.slot in
    let held = c.requires.held in
    let stands = c.requires.shelved in
    let facts = facts_held (facts_of g.R.Lasts.until g.R.Lasts.whose) (slot_at old.slots.items x) held.slot c.facts_of.result c.in-Some.facts c.facts_of.ensures held.at c.in-Some.is in
    let until = ap (λ f. f.until) facts in
    let test = c.if-self-facts.true in
    record { stands = stands; is = counts_ahead g.R.Lasts.until old.second (length old.slots.items) x held.slot (stands.timer x) (timed_at g.R.Lasts.until g.R.Lasts.whose old stands x held.slot held.at) (omega (arith, test, until)) }

pub returns-clause-counted : goal.returns-clause-counted
returns-clause-counted g c =
    let old = c.args.self.now in
    let x = c.args.slot in
    let held = c.requires.held in
    let facts = facts_held (facts_of g.R.Lasts.until g.R.Lasts.whose) (slot_at old.slots.items x) held.slot c.facts_of.result c.in-Some.facts c.facts_of.ensures held.at c.in-Some.is in
    let until = ap (λ f. f.until) facts in
    let test = c.if-self-facts.false in
    let settled = c.settle.ensures in
    let second = settled.second in
    over_counts g.R.Lasts.until g.R.Lasts.whose c.settle.new.self x held.slot settled.settled (ap (λ s. slot_at s.items x) settled.slots ∙ held.at) (omega (arith, test, until, second))
