use Rattle.std.proofs.Common.{rules, ◌≡◌, None}
use Rattle.state_file.proofs.Going.{is_redone}
use Rattle.state_file.proofs.redoing.Redoing.finish.Goals as goal

pub returns-clause-redone : goal.returns-clause-redone
returns-clause-redone g c = λ outset batches made is.
    let none : c.args.self.held ≡ None = search rules in
    is_redone g.H.HookHost outset batches c.args.until c.args.self _ none c.finish.ensures.fits made is
