use Rattle.std.proofs.Common.{◌≡◌, ◌≢◌, ◌≤◌, ◌∙◌, ℕ, ap, length, refl, sym, subst, Some, None, true, false, arith}
use Rattle.chains.specs.Chained.{Chained, moved}
use Rattle.chains.specs.ChainedLaws.{left_none, no_more_left}
use Rattle.shelf.specs.Shelved.{due, free, list_for, pending, slot_at}
use Rattle.shelf.proofs.Given.{held_slot, none_given, not_held}
use Rattle.shelf.proofs.Sorting.{came_back, came_from, put_back, put_empty, put_fewer}
use Rattle.shelf.proofs.Timing.{listed, moves, moves_out, timed_at}
use Rattle.shelf.proofs.shelf.Shelf.look_due.Goals as goal

pub returns-in_err-slot-clause-shelved : goal.returns-in_err-slot-clause-shelved
returns-in_err-slot-clause-shelved g c = record { timer = c.requires.timer; shelved = rw c.in_err-slot.ensures.same c.requires.shelved }

pub returns-in_err-slot-clause-none : goal.returns-in_err-slot-clause-none
returns-in_err-slot-clause-none g c =
    let stands = c.requires in
    let same = c.in_err-slot.ensures.same in
    let none = c.in_err-slot.ensures.none stands.timer stands.shelved.timed in
    let all = stands.shelved.all in
    none_given c.from_residual.result (rw same (left_none stands.shelved.timed due (omega (arith, all)) none.0), ap (λ w. record c.args.self.now { wheel = w }) same)

pub returns-in_err-slot-clause-pending : goal.returns-in_err-slot-clause-pending
returns-in_err-slot-clause-pending g c = rw c.in_err-slot.ensures.same (omega arith)

pub returns-then-is_held-clause-shelved : goal.returns-then-is_held-clause-shelved
returns-then-is_held-clause-shelved g c =
    let old = c.args.self.now in
    let stands = c.requires in
    let t = stands.timer in
    let x = c.in_ok-slot.slot in
    let out = c.in_ok-slot.ensures.out t stands.shelved.timed in
    let put = c.push.ensures.put (moved t x None) out.1 (moves_out t x) in
    let held = held_slot (slot_at old.slots.items x) (sym c.is_held.ensures ∙ c.if-is_held.true) in
    let in_list = listed g.R.Lasts.until old.second (length old.slots.items) x held.0 (t x) (λ e. (let both : Some due ≡ Some pending = sym out.0 ∙ e in absurd (grind (arith, both)))) (timed_at g.R.Lasts.until g.R.Lasts.whose old stands x held.0 held.1) in
    let same : due ≡ list_for old.second (g.R.Lasts.until held.0.kept) = (let both : Some due ≡ Some (list_for old.second (g.R.Lasts.until held.0.kept)) = sym out.0 ∙ in_list in grind (arith, both)) in
    record {
      timer = moved t x (Some due);
      shelved = put_back g.R.Lasts.until g.R.Lasts.whose old _ t stands.shelved x due due out.0 refl refl refl refl (c.push.ensures.shape.heads ∙ c.pop.ensures.shape.heads) (c.push.ensures.shape.cells ∙ c.pop.ensures.shape.cells) put
          held.0 held.1 same (rw out.0 refl) refl;
    }

pub returns-then-is_held-clause-some : goal.returns-then-is_held-clause-some
returns-then-is_held-clause-some g c = λ is.
    let old = c.args.self.now in
    let stands = c.requires in
    let t = stands.timer in
    let x = c.in_ok-slot.slot in
    let out = c.in_ok-slot.ensures.out t stands.shelved.timed in
    let put = c.push.ensures.put (moved t x None) out.1 (moves_out t x) in
    let held = held_slot (slot_at old.slots.items x) is in
    let in_list = listed g.R.Lasts.until old.second (length old.slots.items) x held.0 (t x) (λ e. (let both : Some due ≡ Some pending = sym out.0 ∙ e in absurd (grind (arith, both)))) (timed_at g.R.Lasts.until g.R.Lasts.whose old stands x held.0 held.1) in
    let same : due ≡ list_for old.second (g.R.Lasts.until held.0.kept) = (let both : Some due ≡ Some (list_for old.second (g.R.Lasts.until held.0.kept)) = sym out.0 ∙ in_list in grind (arith, both)) in
    record {
      stands = record {
        timer = moved t x (Some due);
        shelved = put_back g.R.Lasts.until g.R.Lasts.whose old _ t stands.shelved x due due out.0 refl refl refl refl (c.push.ensures.shape.heads ∙ c.pop.ensures.shape.heads) (c.push.ensures.shape.cells ∙ c.pop.ensures.shape.cells) put
            held.0 held.1 same (rw out.0 refl) refl;
      };
      there = moves t x due;
    }

pub returns-then-is_held-clause-pending : goal.returns-then-is_held-clause-pending
returns-then-is_held-clause-pending g c =
    let stands = c.requires in
    let t = stands.timer in
    let x = c.in_ok-slot.slot in
    let out = c.in_ok-slot.ensures.out t stands.shelved.timed in
    let put = c.push.ensures.put (moved t x None) out.1 (moves_out t x) in
    let all = stands.shelved.all in
    let heads = c.push.ensures.shape.heads ∙ c.pop.ensures.shape.heads in
    no_more_left stands.shelved.timed put pending (omega (arith, all)) (omega (arith, all, heads)) (came_from t x due pending (λ e. absurd (omega (arith, e))))

pub returns-clause-shelved : goal.returns-clause-shelved
returns-clause-shelved g c =
    let old = c.args.self.now in
    let stands = c.requires in
    let t = stands.timer in
    let x = c.in_ok-slot.slot in
    let out = c.in_ok-slot.ensures.out t stands.shelved.timed in
    let put = c.push-2.ensures.put (moved t x None) out.1 (moves_out t x) in
    let empty = not_held (slot_at old.slots.items x) (sym c.is_held.ensures ∙ c.if-is_held.false) in
    record {
      timer = moved t x (Some free);
      shelved = put_empty g.R.Lasts.until g.R.Lasts.whose old _ t stands.shelved x due free out.0 refl refl refl refl (c.push-2.ensures.shape.heads ∙ c.pop.ensures.shape.heads) (c.push-2.ensures.shape.cells ∙ c.pop.ensures.shape.cells) put empty refl;
    }

pub returns-clause-some : goal.returns-clause-some
returns-clause-some g c = λ is. absurd (let never : true ≡ false = sym is ∙ sym c.is_held.ensures ∙ c.if-is_held.false in cc)

pub returns-clause-fewer : goal.returns-clause-fewer
returns-clause-fewer g c = λ is.
    let old = c.args.self.now in
    let stands = c.requires in
    let t = stands.timer in
    let x = c.in_ok-slot.slot in
    let out = c.in_ok-slot.ensures.out t stands.shelved.timed in
    let put = c.push-2.ensures.put (moved t x None) out.1 (moves_out t x) in
    let empty = not_held (slot_at old.slots.items x) (sym c.is_held.ensures ∙ c.if-is_held.false) in
    let heads = c.push-2.ensures.shape.heads ∙ c.pop.ensures.shape.heads in
    let cells = c.push-2.ensures.shape.cells ∙ c.pop.ensures.shape.cells in
    let all = stands.shelved.all in
    let new = record old { wheel = c.push-2.new.self } in
    let shelved = put_empty g.R.Lasts.until g.R.Lasts.whose old new t stands.shelved x due free out.0 refl refl refl refl heads cells put empty refl in
    put_fewer g.R.Lasts.until g.R.Lasts.whose old new t stands.shelved x due free out.0 refl refl refl refl heads cells put shelved.timed (omega (arith, all)) (λ e. absurd (omega (arith, e)))

pub returns-clause-pending : goal.returns-clause-pending
returns-clause-pending g c =
    let stands = c.requires in
    let t = stands.timer in
    let x = c.in_ok-slot.slot in
    let out = c.in_ok-slot.ensures.out t stands.shelved.timed in
    let put = c.push-2.ensures.put (moved t x None) out.1 (moves_out t x) in
    let all = stands.shelved.all in
    let heads = c.push-2.ensures.shape.heads ∙ c.pop.ensures.shape.heads in
    no_more_left stands.shelved.timed put pending (omega (arith, all)) (omega (arith, all, heads)) (came_from t x free pending (λ e. absurd (omega (arith, e))))

pub returns-in_err-slot-clause-due : goal.returns-in_err-slot-clause-due
returns-in_err-slot-clause-due g c = rw c.in_err-slot.ensures.same (omega arith)

pub returns-then-is_held-clause-due : goal.returns-then-is_held-clause-due
returns-then-is_held-clause-due g c =
    let stands = c.requires in
    let t = stands.timer in
    let x = c.in_ok-slot.slot in
    let out = c.in_ok-slot.ensures.out t stands.shelved.timed in
    let put = c.push.ensures.put (moved t x None) out.1 (moves_out t x) in
    let all = stands.shelved.all in
    let heads = c.push.ensures.shape.heads ∙ c.pop.ensures.shape.heads in
    no_more_left stands.shelved.timed put due (omega (arith, all)) (omega (arith, all, heads)) (came_back t x due out.0)

pub returns-clause-due : goal.returns-clause-due
returns-clause-due g c =
    let stands = c.requires in
    let t = stands.timer in
    let x = c.in_ok-slot.slot in
    let out = c.in_ok-slot.ensures.out t stands.shelved.timed in
    let put = c.push-2.ensures.put (moved t x None) out.1 (moves_out t x) in
    let all = stands.shelved.all in
    let heads = c.push-2.ensures.shape.heads ∙ c.pop.ensures.shape.heads in
    no_more_left stands.shelved.timed put due (omega (arith, all)) (omega (arith, all, heads)) (came_from t x free due (λ e. absurd (omega (arith, e))))
