use Rattle.std.proofs.Common.{◌≡◌, ◌∙◌, ℕ, sym, subst}
use Rattle.state_file.proofs.Names.{FitsServer}
use Rattle.state_file.specs.HookLaws.{same_hooks}
use Rattle.state_file.proofs.remade.Remade.finish.Goals as goal

pub returns-clause-fits : goal.returns-clause-fits
returns-clause-fits g c = λ outset list m fits history tells ran right.
    let made = c.finish-server.ensures.fits outset list m fits.0 history tells ran right in
    let moment = c.moment-moment.ensures ∙ made.greatest_is in (
      (subst (λ (n : ℕ). FitsServer g.H.HookHost c.finish-server.result outset history n) (sym moment) made, fits.1 ∙ same_hooks list history tells.alike.hooks),
      moment,
    )
