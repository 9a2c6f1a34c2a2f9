use Rattle.std.proofs.Common.{true}
use Rattle.verifier.proofs.Names.{IsNarrowedOrNone}
use Rattle.verifier.proofs.States.{bare_spread, narrowed_then, not_narrowed}
use Rattle.verifier.proofs.known.Known.refine_at.Goals.{in-Some+else-not-refine_by, in_default}
use Rattle.verifier.proofs.known.Known.refine_at.Goals as goal

pub returns-then-is_bare-clause-narrowed : goal.returns-then-is_bare-clause-narrowed
returns-then-is_bare-clause-narrowed c = not_narrowed c.args.self.now

pub returns-then-is_bare-clause-spread : goal.returns-then-is_bare-clause-spread
returns-then-is_bare-clause-spread c e = bare_spread c.args.test c.args.turn c.args.self.now c.args.number (c.is_bare.ensures.link c.if-is_bare.true) (c.is_bare.ensures.home c.if-is_bare.true)

pub returns-in-Some-home-clause-narrowed : goal.returns-in-Some-home-clause-narrowed
returns-in-Some-home-clause-narrowed c =
    let one : IsNarrowedOrNone c.args.self.now c.match-with_turn.self true = elim c.match-with_turn.branch [
      | in-Some+else-not-refine_by w ↦ rw w.self-is (rw w.if-not-refine_by.false at w.refine_by.ensures.narrowed)
      | in_default w ↦ rw w.self-is (not_narrowed c.args.self.now)
    ] in
    narrowed_then c.args.self.now c.match-with_turn.self c.refine_home.new.self c.refine_home.result one c.refine_home.ensures.narrowed

pub returns-in-None-clause-narrowed : goal.returns-in-None-clause-narrowed
returns-in-None-clause-narrowed c = elim c.match-with_turn.branch [
  | in-Some+else-not-refine_by w ↦ rw w.self-is (rw w.if-not-refine_by.false at w.refine_by.ensures.narrowed)
  | in_default w ↦ rw w.self-is (not_narrowed c.args.self.now)
]
