use Rattle.std.proofs.Common.{◌≡◌, ◌∷◌, [], rules}
use Rattle.verifier.proofs.Waits.{joined_alone}
use Rattle.verifier.proofs.cases.Cases.join_first.Goals as goal

pub returns-in-One-clause-joined : goal.returns-in-One-clause-joined
returns-in-One-clause-joined c said =
    let was : c.args.self.now ≡ c.in-One.one.value ∷ [] = search rules in
    joined_alone c.args.self.now c.in-One.one.value c.join.new.self c.args.known.now was (rw c.deref_mut.ensures.value at c.join.ensures)
