use Rattle.std.proofs.Common.{◌≡◌, codes, sym, ◌∙◌}
use Rattle.std.proofs.lemmas.Slice.Eq.{bytes_eq-Decides}
use Rattle.std.specs.String.{string_bytes}
use Rattle.commands.proofs.Lists.{map-three}
use Rattle.commands.proofs.command.Command.from_words.Goals as goal

pub returns-in-len3-clause-named : goal.returns-in-len3-clause-named
returns-in-len3-clause-named c =
    let is_run : c.as_str-then-words-lt4.result.now ≡ codes "run" = (bytes_eq-Decides c.as_str-then-words-lt4.result.now (codes "run")).0 (sym c.if-eq.ensures) in
    map-three string_bytes c.args.words.now _ _ _ _ _ _ c.in-len3.len_at_least c.in-len3.len_below
    c.name-item-then-words-lt4.is c.code_hex-item.is c.record_hex-item.is
    (sym is_run ∙ c.as_str-then-words-lt4.ensures.value) c.as_str-in-len3.ensures.value c.as_str-in-len3-2.ensures.value
