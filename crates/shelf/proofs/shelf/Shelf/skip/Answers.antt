use Rattle.std.proofs.Common.{◌≤◌, refl, arith}
use Rattle.shelf.proofs.Timing.{skipped}
use Rattle.shelf.proofs.shelf.Shelf.skip.Goals as goal

pub returns-then-self-get-clause-shelved : goal.returns-then-self-get-clause-shelved
returns-then-self-get-clause-shelved g c =
    skipped g.R.Lasts.until g.R.Lasts.whose c.args.self.now _ c.requires.shelved c.if-self-eq0.true (let test = c.if-self-get.true in let a = c.get.ensures.value in let b = c.get-self.ensures.value in omega (arith, test, a, b)) refl refl refl refl refl
