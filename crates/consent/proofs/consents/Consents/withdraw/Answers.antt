use Rattle.std.proofs.Common.{◌∙◌, sym, arith, add-zero}
use Rattle.consent.proofs.Keeping.{fits_set}
use Rattle.consent.proofs.consents.Consents.withdraw.Goals as goal

pub returns-clause-fits : goal.returns-clause-fits
returns-clause-fits c = λ history moment fits.
    let v = c.remove.ensures.value in
    let len = c.remove.ensures.len in
    fits_set c.args.self.now _ history moment c.args.owner c.args.client 0 (rw (← c.self.view_is) c.remove.ensures.updates.0)
    (rw (← c.self.view_is) (rw v at len ∙ sym (add-zero _))) (omega (arith, c.get.ensures.value, c.get.ensures.least)) fits
