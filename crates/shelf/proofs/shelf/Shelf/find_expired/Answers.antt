use Rattle.std.proofs.Common.{◌≤◌, ◌∙◌, length, sym, arith}
use Rattle.shelf.proofs.Taking.{expired_at, none_expired}
use Rattle.shelf.proofs.shelf.Shelf.find_expired.Goals as goal

pub returns-clause-none : goal.returns-clause-none
returns-clause-none g c =
    let len = c.len.ensures in
    let test = c.loop-slot-test.false in
    none_expired g.R.Lasts.until c.args.self.now c.args.moment c.loop-slot.slot c.loop-slot.invariant (omega (arith, len, test))

pub returns-then-is_expired-clause-some : goal.returns-then-is_expired-clause-some
returns-then-is_expired-clause-some g c = expired_at g.R.Lasts.until c.args.self.now c.loop-slot.slot c.args.moment (sym c.is_expired.ensures ∙ c.if-is_expired.true)
