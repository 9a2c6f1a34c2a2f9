use Rattle.std.proofs.Common.{◌≡◌, ◌∙◌, Some, None, true, ap, subst, sym, arith}
use Rattle.std.proofs.lemmas.Bool.Decides.{nat_tests}
use Rattle.shelf.specs.Looking.{LooksAt, is_held}
use Rattle.shelf.specs.Shelved.{HasTaken, entries_in, entries_of, slot_at}
use Rattle.shelf.proofs.Given.{held_slot}
use Rattle.shelf.proofs.Timing.{due_over, due_uncounted}
use Rattle.shelf.proofs.shelf.Shelf.look.Goals as goal

pub look_on-requires-clause-none_due : goal.look_on-requires-clause-none_due
look_on-requires-clause-none_due g c = c.in_default.ensures.none.0

pub returns-in_default-clause-looked : goal.returns-in_default-clause-looked
returns-in_default-clause-looked g c =
    subst (λ s. LooksAt g.R.Lasts.until (entries_of s) (entries_of c.look_on.new.self) c.args.moment c.look_on.result) c.in_default.ensures.none.1 c.look_on.ensures.looked

pub evict-requires-clause-counted : goal.evict-requires-clause-counted
evict-requires-clause-counted g c =
    let x = c.in-Some.slot in
    let test = c.if-not-is_held.false in
    let yes : c.is_held.result ≡ true = grind (arith, test) in
    let is : is_held (slot_at c.look_due.new.self.slots.items x) ≡ true = sym c.is_held.ensures ∙ yes in
    due_uncounted g.R.Lasts.until g.R.Lasts.whose c.look_due.new.self x (c.in-Some.ensures.some (ap (λ s. is_held (slot_at s.items x)) (sym c.look_due.ensures.slots) ∙ is))

pub evict-requires-clause-held : goal.evict-requires-clause-held
evict-requires-clause-held g c =
    let test = c.if-not-is_held.false in
    let yes : c.is_held.result ≡ true = grind (arith, test) in
    let held = held_slot (slot_at c.look_due.new.self.slots.items c.in-Some.slot) (sym c.is_held.ensures ∙ yes) in
    record { slot = held.0; at = held.1 }

pub returns-in_default-evict-clause-looked : goal.returns-in_default-evict-clause-looked
returns-in_default-evict-clause-looked g c =
    let test = c.if-not-is_held.false in
    let yes : c.is_held.result ≡ true = grind (arith, test) in
    let held = held_slot (slot_at c.look_due.new.self.slots.items c.in-Some.slot) (sym c.is_held.ensures ∙ yes) in
    let gone = c.evict.ensures.gone held.0 held.1 in
    absurd (let both : None ≡ Some held.0.kept = sym c.in_default-evict.is ∙ gone.0 in cc)

pub returns-clause-looked : goal.returns-clause-looked
returns-clause-looked g c =
    let x = c.in-Some.slot in
    let mid = c.look_due.new.self in
    let same = c.look_due.ensures.slots in
    let test = c.if-not-is_held.false in
    let yes : c.is_held.result ≡ true = grind (arith, test) in
    let is : is_held (slot_at mid.slots.items x) ≡ true = sym c.is_held.ensures ∙ yes in
    let held = held_slot (slot_at mid.slots.items x) is in
    let s = held.0 in
    let due_in = c.in-Some.ensures.some (ap (λ s. is_held (slot_at s.items x)) (sym same) ∙ is) in
    let before = due_over g.R.Lasts.until g.R.Lasts.whose mid x s due_in held.1 in
    let gone = c.evict.ensures.gone s held.1 in
    let r = c.in-Some-evict.gone in
    let own : s.kept ≡ r = (let both : Some s.kept ≡ Some r = sym gone.0 ∙ c.in-Some-evict.is in grind (arith, both)) in
    let taken = subst (λ es. HasTaken es (entries_of c.evict.new.self) s.key s.kept) (ap (λ s. entries_in s.items) same) gone.1 in
    let not_past = c.if-is_past.false in
    let past = c.is_past.ensures in
    let second = c.look_due.ensures.second in
    record {
      digest = s.key;
      taken = subst (HasTaken (entries_of c.args.self.now) (entries_of c.evict.new.self) s.key) own taken;
      expired = (let until = ap g.R.Lasts.until own in grind (arith, nat_tests, before, until, not_past, past, second));
    }
