use Rattle.std.proofs.Common.{◌∷◌, [], None, ◌≡◌, arith}
use Rattle.token_store.proofs.Names.{rest_of_use, Issued, MakesChanges, held_of}
use Rattle.consent.specs.declared.change.Change.TheVariants.{Spent}
use Rattle.token_store.proofs.Changing.{makes_first, makes_none}
use Rattle.token_store.proofs.tables.Tables.apply.Goals as goal
use Rattle.token_store.proofs.tables.Tables.apply.Goals.{in-Some, in_default}

pub returns-after-refresh-clause-makes : goal.returns-after-refresh-clause-makes
returns-after-refresh-clause-makes c =
    let w = c.in-Used in
    let last : MakesChanges (held_of c.match-refresh.self) (held_of c.spend_at.new.self) c.args.moment (Spent w.of ∷ []) =
    makes_first _ _ _ _ (Spent w.of) [] (λ history fits can. c.spend_at.ensures.alters history fits) (makes_none _ _) in
    let more : MakesChanges (held_of c.issue.new.self) (held_of c.spend_at.new.self) c.args.moment (rest_of_use w.of w.home w.refresh) =
    elim c.match-refresh.branch [
      | in-Some v ↦ rw v.in-Some.is (makes_first _ _ _ _ (Issued w.home v.in-Some.refresh) (Spent w.of ∷ []) v.issue-in-Some.ensures.makes (rw v.self-is at last))
      | in_default v ↦ (let never = v.in_default.not-Some in
          let none : w.refresh ≡ None = grind (arith, never) in
          rw none (rw v.self-is at last))
    ] in
    rw w.is (makes_first _ _ _ _ (Issued w.home w.access) (rest_of_use w.of w.home w.refresh) c.issue.ensures.makes more)
