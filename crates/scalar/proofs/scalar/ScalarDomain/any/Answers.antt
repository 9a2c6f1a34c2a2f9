use Rattle.scalar.proofs.scalar.ScalarDomain.any.Goals as goal

pub returns : goal.returns
returns c x fits = record { unsigned = c.any.ensures x fits; signed = c.any-2.ensures x fits; bits = c.any-3.ensures x fits; half = c.any-4.ensures x fits }
