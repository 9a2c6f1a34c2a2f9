use Rattle.shortening.proofs.behind.Behind.is_needless.Goals as goal

pub returns-in-Consented : goal.returns-in-Consented
returns-in-Consented c = λ history later known behind.
    rw c.in-Consented.is (c.is_consent_needless.ensures history later c.args.moment c.args.dated.now.moment known behind)
