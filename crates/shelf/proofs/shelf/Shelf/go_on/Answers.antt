use Rattle.std.proofs.Common.{◌≡◌, ◌≤◌, ◌<◌, ◌+◌, ◌-◌, ◌*◌, ◌∙◌, length, ap, arith}
use Rattle.chains.specs.Chained.{left}
use Rattle.shelf.specs.Shelved.{due, entries_in, pending, to_sort}
use Rattle.shelf.proofs.Going.{goes_turn}
use Rattle.shelf.proofs.shelf.Shelf.go_on.Goals as goal

pub turn-requires-clause-settled : goal.turn-requires-clause-settled
turn-requires-clause-settled g c = (let settled = c.sort.ensures.settled c.if-sort.false in record { stands = c.skip.ensures.shelved; none = rw c.skip.ensures.wheel settled.none })

pub returns-clause-goes : goal.returns-clause-goes
returns-clause-goes g c = λ is.
    let old = c.args.self.now in
    let mid = c.sort.new.self in
    let new = c.turn.new.self in
    let same = c.sort.ensures.same c.if-sort.false in
    let skip = c.skip.ensures in
    let turn = c.turn.ensures in
    let slots : new.slots.items ≡ old.slots.items = ap (λ s. s.items) (turn.slots ∙ skip.slots) ∙ ap (λ s. s.slots.items) same in
    let wheel : to_sort c.skip.new.self ≡ to_sort old = ap (λ w. 2 * left w pending + left w due) skip.wheel ∙ ap to_sort same in
    let long : length c.skip.new.self.slots.items ≡ length old.slots.items = ap (λ s. length s.items) skip.slots ∙ ap (λ s. length s.slots.items) same in
    let second : mid.second ≡ old.second = ap (λ s. s.second) same in
    let more = turn.more in
    let next = turn.second in
    let later = skip.later in
    let before = skip.before in
    rw (ap length slots, ap (λ ss. length (entries_in ss)) slots)
    (goes_turn (length old.slots.items) (c.args.moment + 1 - old.second) (c.args.moment + 1 - new.second) (to_sort old) (to_sort new) (length (entries_in old.slots.items)) (omega (arith, second, next, later, before)) (omega (arith, wheel, long, more)))
