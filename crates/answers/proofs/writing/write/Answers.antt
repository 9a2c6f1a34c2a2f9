use Rattle.std.proofs.Common.{rules, ◌≤◌, refl, length, arith}
use Rattle.answers.proofs.Names.{name_limit, hook_body, plain, Empty, Failure, Inactive, status_of}
use Rattle.answers.proofs.Sizes.{failure_small, if_short, written_short}
use Rattle.answers.proofs.writing.write.Goals as goal

pub returns-in-Done-clause-short : goal.returns-in-Done-clause-short
returns-in-Done-clause-short g c = λ _. written_short (plain 200 Empty) c.bare.result (record { status = refl; short = tt }) c.bare.ensures

pub returns-in-Failure-clause-short : goal.returns-in-Failure-clause-short
returns-in-Failure-clause-short g c = λ _. if_short c.failure.result (plain (status_of c.in-Failure.error) (Failure c.in-Failure.error)) (failure_small c.in-Failure.error) (search rules)

pub returns-in-Denied-clause-short : goal.returns-in-Denied-clause-short
returns-in-Denied-clause-short g c = λ _. if_short c.failure-in-Denied.result (plain (status_of c.in-Denied.error) (Failure c.in-Denied.error)) (failure_small c.in-Denied.error) (search rules)

pub returns-in-Unavailable-clause-short : goal.returns-in-Unavailable-clause-short
returns-in-Unavailable-clause-short g c = λ _. written_short (plain 503 Empty) c.bare-in-Unavailable.result (record { status = refl; short = tt }) c.bare-in-Unavailable.ensures

pub returns-in-Inactive-clause-short : goal.returns-in-Inactive-clause-short
returns-in-Inactive-clause-short g c = λ _. if_short c.inactive.result (plain 200 Inactive) (record { status = refl; short = tt }) (search rules)

pub returns-in-HookDone-clause-short : goal.returns-in-HookDone-clause-short
returns-in-HookDone-clause-short g c = λ short.
    let named : length c.in-HookDone.name.now ≤ name_limit = rw c.in-HookDone.is at short in
    if_short c.told.result (plain 200 (hook_body c.in-HookDone.name.now)) (record { status = refl; short = omega (arith, named) }) (search rules)
