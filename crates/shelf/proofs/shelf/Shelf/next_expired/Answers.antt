use Rattle.std.proofs.Common.{◌≡◌, ◌≤◌, ◌<◌, ◌+◌, arith}
use Rattle.shelf.specs.Shelved.{IsSettled}
use Rattle.shelf.proofs.Given.{on_none, on_some}
use Rattle.shelf.proofs.Taking.{due_expired}
use Rattle.shelf.proofs.Timing.{all_last, due_uncounted, over_counts}
use Rattle.shelf.proofs.shelf.Shelf.next_expired.Goals as goal

pub returns-then-self-get-clause-some : goal.returns-then-self-get-clause-some
returns-then-self-get-clause-some g c =
    let at : c.first_due.new.self.second ≡ c.args.moment + 1 = (let test = c.if-self-get.true in let same = c.first_due.ensures.second in let later = c.notice.ensures.noticed in let got = c.get.ensures.value in omega (arith, test, same, later, got)) in
    on_some c.first_due.result (λ x there. due_expired g.R.Lasts.until g.R.Lasts.whose c.first_due.new.self c.args.moment x at there) c.first_due.ensures.some

pub returns-then-self-get-clause-counted : goal.returns-then-self-get-clause-counted
returns-then-self-get-clause-counted g c = on_some c.first_due.result (λ x there. due_uncounted g.R.Lasts.until g.R.Lasts.whose c.first_due.new.self x there.0) c.first_due.ensures.some

pub returns-then-self-get-clause-none : goal.returns-then-self-get-clause-none
returns-then-self-get-clause-none g c =
    let new = c.first_due.new.self in
    let fewer = c.first_due.ensures.pending in
    let none = c.notice.ensures.settled.none in
    let settled : IsSettled g.R.Lasts.until g.R.Lasts.whose new = record { stands = c.first_due.ensures.shelved; none = omega (arith, fewer, none) } in
    let later : c.args.moment < new.second = (let same = c.first_due.ensures.second in let noticed = c.notice.ensures.noticed in omega (arith, same, noticed)) in
    on_none c.first_due.result (λ due. all_last g.R.Lasts.until g.R.Lasts.whose new c.args.moment settled due later) c.first_due.ensures.none

pub returns-clause-counted : goal.returns-clause-counted
returns-clause-counted g c =
    let new = c.notice.new.self in
    let noticed = c.notice.ensures.noticed in
    on_some c.find_expired.result (λ x there. (let expired = there.expired in over_counts g.R.Lasts.until g.R.Lasts.whose new x there.slot c.notice.ensures.settled there.at (omega (arith, expired, noticed)))) c.find_expired.ensures.some
