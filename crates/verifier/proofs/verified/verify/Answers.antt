use Rattle.std.proofs.Common.{inr}
use Rattle.verifier.specs.declared.explain.Finding.TheVariants.{Refused}
use Rattle.verifier.specs.Findings.{IsFinding}
use Rattle.verifier.proofs.verified.verify.Goals as goal

pub returns-in-Ok-Refused-clause-verdict : goal.returns-in-Ok-Refused-clause-verdict
returns-in-Ok-Refused-clause-verdict c isnt =
    let finding : IsFinding c.args.layout c.args.program (Refused c.in-Ok-Refused.refusal) = rw c.in-Ok-Refused.field-0-is at c.in-Ok-Refused.ensures.finding in
    inr (finding.0, isnt, finding.1.refused)
