use Rattle.std.proofs.Common.{◌≡◌, length, inl, inr, arith, subst}
use Rattle.event_loop.proofs.Names.{to_offer, untaken}
use Rattle.event_loop.proofs.Rooming.{none_long}
use Rattle.event_loop.specs.Places.{broken, ended, leaves}
use Rattle.event_loop.proofs.place.Place.due.Goals as goal

pub returns-in-Broken-clause-due : goal.returns-in-Broken-clause-due
returns-in-Broken-clause-due c = λ connection told. broken _ c.in-Broken.is

pub returns-then-output-eq0-clause-due : goal.returns-then-output-eq0-clause-due
returns-then-output-eq0-clause-due c = λ connection told.
    let size = told.0 in
    let none = c.if-output-eq0.true in
    let zero : length (to_offer c.args.self.stage (untaken connection)) ≡ 0 = omega (arith, size, none) in
    elim c.in-Ended.is [
      | inl e ↦ ended e (none_long (untaken connection) (subst (λ s. length (to_offer s (untaken connection)) ≡ 0) e zero))
      | inr e ↦ leaves e.0 e.1 (none_long _ (subst (λ s. length (to_offer s (untaken connection)) ≡ 0) e.1 zero))
    ]
