use Rattle.std.proofs.Common.{◌≡◌, None, rules}
use Rattle.command_line.proofs.Naming.{no_prefix}
use Rattle.command_line.proofs.list_command.list_in.Goals as goal

pub returns-in_err-prefix-clause-none : goal.returns-in_err-prefix-clause-none
returns-in_err-prefix-clause-none c =
    let is : c.from_residual-in_err-prefix.result ≡ None = search rules in
    rw is (no_prefix _ _ _ c.in_ok-members.ensures.named c.in_err-prefix.ensures.none)
