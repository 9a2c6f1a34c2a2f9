use Rattle.std.proofs.Common.{◌≡◌, rules, sym, string_bytes}
use Rattle.std.proofs.lemmas.Str.{IsUtf8-string_bytes}
use Rattle.authentication.proofs.Texts.{text_where}
use Rattle.authentication.proofs.authentication.utf8_text.Goals as goal

pub returns-in-Ok : goal.returns-in-Ok
returns-in-Ok c =
    let same : string_bytes c.in-Ok.text ≡ c.args.bytes.items = search rules in
    rw (← same) (sym (text_where _ (IsUtf8-string_bytes c.in-Ok.text)))
