use Rattle.std.proofs.Common.{List, ℕ, subst, sym}
use Rattle.command_line.proofs.Listing.{is_shown, no_text}
use Rattle.command_line.specs.ListFaults.{FailsSo}
use Rattle.standby.specs.Copied.{IsUntaken}
use Rattle.standby.specs.Listed.{IsListOf}
use Rattle.command_line.proofs.list_performing.shown.Goals as goal

pub returns-clause-refused : goal.returns-clause-refused
returns-clause-refused g c =
    no_text (FailsSo IsUntaken c.args.terms.prefix.now) c.args.terms.prefix.now c.deref.result.now c.moment_now.result c.told_state.result c.told_state.ensures

pub returns-clause-shown : goal.returns-clause-shown
returns-clause-shown g c =
    let prefix = c.args.terms.prefix.now in
    is_shown prefix c.deref.result.now c.moment_now.result c.told_state.result
    (subst (λ (b : List ℕ). IsListOf prefix b) (sym c.deref.ensures.value) c.in_ok-taken.ensures.list) c.told_state.ensures
