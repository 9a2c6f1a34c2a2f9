use Rattle.std.proofs.Common.{◌∙◌}
use Rattle.start_words.proofs.Reading.{first_read}
use Rattle.start_words.proofs.options.Options.take_all.Goals as goal

pub loop-word-preserved : goal.loop-word-preserved
loop-word-preserved c =
    c.loop-word.invariant
    ∙ first_read _ c.take_first.new.self _ _ c.in_ok-rest.rest.now _ _ c.in-Some.ensures.cases.0 c.as_str.ensures.value c.in_ok-rest.ensures.done
