use Rattle.std.proofs.Common.{◌≡◌, ◌∙◌, None, map, rules, sym}
use Rattle.std.specs.String.{string_bytes}
use Rattle.command_line.proofs.Naming.{no_password, no_user, not_empty}
use Rattle.command_line.proofs.list_command.user_in.Goals as goal

pub returns-in_err-name-clause-none : goal.returns-in_err-name-clause-none
returns-in_err-name-clause-none c =
    let is : c.from_residual.result ≡ None = search rules in
    rw is (no_user (map string_bytes c.args.words.now) (not_empty string_bytes c.args.words.now (sym c.is_empty.ensures ∙ c.if-is_empty.false)) c.in_err-name.ensures.none)

pub returns-in_err-password_file-clause-none : goal.returns-in_err-password_file-clause-none
returns-in_err-password_file-clause-none c =
    let is : c.from_residual-in_err-password_file.result ≡ None = search rules in
    rw is (no_password _ _ _ c.in_ok-name.ensures.named c.in_err-password_file.ensures.none)
