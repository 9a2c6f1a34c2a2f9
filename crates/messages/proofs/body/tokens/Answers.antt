use Rattle.std.proofs.Common.{rules, refl, Some, None}
use Rattle.messages.specs.Reply.Body.{Tokens}
use Rattle.messages.proofs.Printing.{says}
use Rattle.messages.proofs.body.tokens.Goals as goal
use Rattle.messages.proofs.body.tokens.Goals.{in-Some+in_ok-text-2, in_default}

pub returns : goal.returns
returns c =
    elim c.match-refresh.branch [
      | in-Some+in_ok-text-2 w ↦ rw w.in-Some.is (says (Tokens c.args.access.now c.args.life (Some w.in-Some.refresh.now) c.args.scope.now) _ _ c.finish.result refl (search rules) c.finish.ensures)
      | in_default w ↦ rw w.in_default.is (says (Tokens c.args.access.now c.args.life None c.args.scope.now) _ _ c.finish.result refl (search rules) c.finish.ensures)
    ]
