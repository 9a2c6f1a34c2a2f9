use Rattle.std.specs.String.{string_bytes}
use Rattle.commands.proofs.Asking.{no_words}
use Rattle.commands.proofs.Lists.{map-seven}
use Rattle.commands.proofs.options.to_ask.Goals as goal

pub returns-in-len7-clause-none : goal.returns-in-len7-clause-none
returns-in-len7-clause-none c =
    let are = map-seven string_bytes c.args.words.now _ _ _ _ _ _ _ _ _ _ _ _ _ _ c.in-len7.len_at_least c.in-len7.len_below
    c.name-item.is c.kind-item.is c.now-item.is c.client-item.is c.owner-item.is c.scope-item.is c.life-item.is
    c.as_str.ensures.value c.as_str-in-len7.ensures.value c.as_str-in-len7-2.ensures.value c.as_str-in-len7-3.ensures.value
    c.as_str-in-len7-4.ensures.value c.as_str-in-len7-5.ensures.value c.as_str-in-len7-6.ensures.value in
    no_words c.args.words.now c.asking.result _ are c.asking.ensures.none
