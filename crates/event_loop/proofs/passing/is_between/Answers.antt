use Rattle.std.proofs.Common.{rules, ◌≡◌, ◌<◌, ℕ, sym, subst, ◌∙◌, ap, arith}
use Rattle.event_loop.proofs.Names.{IsBetween, connection_at, false≢true}
use Rattle.event_loop.specs.Names.{IsHeld}
use Rattle.event_loop.proofs.Parting.{held_same}
use Rattle.event_loop.proofs.Rooming.{empty_is, not_empty_is}
use Rattle.event_loop.proofs.passing.is_between.Goals as goal

pub returns-then-not-is_open-clause-apart : goal.returns-then-not-is_open-clause-apart
returns-then-not-is_open-clause-apart g c = λ no journey reached between. c.is_open.ensures.not_open c.if-not-is_open.true between.is_open

pub returns-then-closing-clause-apart : goal.returns-then-closing-clause-apart
returns-then-closing-clause-apart g c = λ no journey reached between.
    let closing = rw c.new-connection.ensures at (c.closing.ensures journey reached) in
    false≢true (sym between.stays ∙ sym closing ∙ c.if-closing.true)

pub returns-then-held-gt0-clause-apart : goal.returns-then-held-gt0-clause-apart
returns-then-held-gt0-clause-apart g c = λ no journey reached between.
    let held = rw c.new-connection.ensures at (c.held.ensures.held journey reached) in
    let none = held_same (connection_at journey.world.connections c.args.k) c.held.result 0 held between.nothing_held in
    let some : 0 < c.held.result = c.if-held-gt0.true in
    omega (arith, none, some)

pub returns-clause-between : goal.returns-clause-between
returns-clause-between g c = λ yes journey reached.
    let out = rw c.new-connection.ensures at (c.output.ensures.output journey reached) in
    let held = rw c.new-connection.ensures at (c.held.ensures.held journey reached) in
    let closing = rw c.new-connection.ensures at (c.closing.ensures journey reached) in
    let none : c.held.result ≡ 0 = omega (arith, c.if-held-gt0.false) in
    record {
      is_open = c.is_open.ensures.open c.if-not-is_open.false;
      stays = sym closing ∙ c.if-closing.false;
      nothing_held = subst (IsHeld (connection_at journey.world.connections c.args.k)) none held;
      nothing_owed = sym out ∙ empty_is c.is_empty.result c.output.result.now c.is_empty.ensures yes;
    }

pub returns-clause-apart : goal.returns-clause-apart
returns-clause-apart g c = λ no journey reached between.
    let out = rw c.new-connection.ensures at (c.output.ensures.output journey reached) in
    not_empty_is c.is_empty.result c.output.result.now c.is_empty.ensures no (out ∙ between.nothing_owed)
