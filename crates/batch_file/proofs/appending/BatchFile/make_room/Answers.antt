use Rattle.std.proofs.Common.{List, ℕ, subst}
use Rattle.batch_file.specs.CrashesLaws.{then}
use Rattle.batch_file.specs.Frames.{IsFileOf}
use Rattle.batch_file.proofs.Steps.{unmoved}
use Rattle.batch_file.proofs.appending.BatchFile.make_room.Goals as goal

pub returns-then-is_enough-clause-any_moment : goal.returns-then-is_enough-clause-any_moment
returns-then-is_enough-clause-any_moment g c =
    let D = g.D.Device in
    let old = c.args.self.now in
    unmoved D.may_leave old.end old.room old.last (D.seen old.device) c.requires.stands.at_rest (g.met.D.Device.only_now old.device) c.requires.stands.durable

pub returns-in_err-fill-clause-any_moment : goal.returns-in_err-fill-clause-any_moment
returns-in_err-fill-clause-any_moment g c =
    then c.grow.ensures.any_moment c.fill.ensures.any_moment (λ l was. was) (λ l was. subst (λ (batches : List (List ℕ)). IsFileOf batches l) c.in_ok-refused.ensures.batches was)

pub returns-clause-any_moment : goal.returns-clause-any_moment
returns-clause-any_moment g c =
    then c.grow.ensures.any_moment c.fill.ensures.any_moment (λ l was. was) (λ l was. subst (λ (batches : List (List ℕ)). IsFileOf batches l) c.in_ok-refused.ensures.batches was)
