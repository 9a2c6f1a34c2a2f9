use Rattle.std.proofs.Common.{◌≡◌, true, false, arith, sym, subst, ◌∙◌}
use Rattle.event_loop.proofs.Names.{IsOccupied, eqb-true, nat_tests}
use Rattle.event_loop.proofs.Rooming.{empty_is, guest_taken, none_owed, not_empty_is, some_owed}
use Rattle.event_loop.proofs.room.is_guest.Goals as goal

pub returns-then-not-is_taken-clause-not_guest : goal.returns-then-not-is_taken-clause-not_guest
returns-then-not-is_taken-clause-not_guest g c = λ no journey reached is.
    subst IsOccupied (c.is_taken.ensures.free c.if-not-is_taken.true) (guest_taken c.args.guest c.args.turn c.args.place _ is)

pub returns-then-not-is_owed-clause-guest : goal.returns-then-not-is_owed-clause-guest
returns-then-not-is_owed-clause-guest g c = λ yes journey reached.
    let out = rw c.new.ensures at (c.output.ensures.output journey reached) in
    let test = c.if-not-is_owed.true in
    let empty : c.is_empty-is_owed.result ≡ true = grind (arith, test) in
    rw c.in-Answered.is (record {
      taken = c.is_taken.ensures.taken c.if-not-is_taken.false;
      lately = eqb-true _ _ yes;
      nothing_owed = sym out ∙ empty_is c.is_empty-is_owed.result c.output.result.now c.is_empty-is_owed.ensures empty;
    })

pub returns-then-not-is_owed-clause-not_guest : goal.returns-then-not-is_owed-clause-not_guest
returns-then-not-is_owed-clause-not_guest g c = λ no journey reached.
    rw c.in-Answered.is (λ behind. let same = behind.lately in grind (arith, nat_tests, no, same))

pub returns-else-not-is_owed-clause-not_guest : goal.returns-else-not-is_owed-clause-not_guest
returns-else-not-is_owed-clause-not_guest g c = λ no journey reached.
    let out = rw c.new.ensures at (c.output.ensures.output journey reached) in
    let test = c.if-not-is_owed.false in
    let some : c.is_empty-is_owed.result ≡ false = grind (arith, test) in
    rw c.in-Answered.is (λ behind. not_empty_is c.is_empty-is_owed.result c.output.result.now c.is_empty-is_owed.ensures some (out ∙ behind.nothing_owed))

pub returns-then-is_owed-clause-guest : goal.returns-then-is_owed-clause-guest
returns-then-is_owed-clause-guest g c = λ yes journey reached.
    let out = rw c.new.ensures at (c.output.ensures.output journey reached) in
    let test = c.if-is_owed.true in
    let some : c.is_empty-is_owed.result ≡ false = grind (arith, test) in
    rw c.in-Owed.is (record {
      stays = c.is_staying-stays.ensures.stays yes;
      some_left = some_owed c.is_empty-is_owed.result c.output.result.now _ c.is_empty-is_owed.ensures some out;
    })

pub returns-then-is_owed-clause-not_guest : goal.returns-then-is_owed-clause-not_guest
returns-then-is_owed-clause-not_guest g c = λ no journey reached.
    rw c.in-Owed.is (λ owed. c.is_staying-stays.ensures.leaves no owed.stays)

pub returns-else-is_owed-clause-not_guest : goal.returns-else-is_owed-clause-not_guest
returns-else-is_owed-clause-not_guest g c = λ no journey reached.
    let out = rw c.new.ensures at (c.output.ensures.output journey reached) in
    let test = c.if-is_owed.false in
    let empty : c.is_empty-is_owed.result ≡ true = grind (arith, test) in
    rw c.in-Owed.is (λ owed. none_owed c.is_empty-is_owed.result c.output.result.now _ c.is_empty-is_owed.ensures empty out owed.some_left)
