use Rattle.std.proofs.Common.{◌≡◌, ◌∙◌, Some, ap}
use Rattle.std.specs.String.{string_bytes}
use Rattle.start_words.specs.Numbers.{number_said}
use Rattle.command_line.proofs.Naming.{fourth_read}
use Rattle.command_line.proofs.service.serve_given.Goals as goal

pub returns-in_default-number_said-clause-none : goal.returns-in_default-number_said-clause-none
returns-in_default-number_said-clause-none c given gives =
    let same = fourth_read string_bytes c.args.words.now c.count-item.result _ _ _ _ gives.words_are c.count-item.is in
    let told : c.number_said.result ≡ Some given.count = c.number_said.ensures ∙ ap number_said (c.as_str-2.ensures.value ∙ same) ∙ gives.count_is in
    cc
