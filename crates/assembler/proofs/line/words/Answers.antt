use Rattle.assembler.proofs.Names.{YieldsList-from_filter, map_from_collect, YieldsList-from_slice_split, before_comment, is_empty}
use Rattle.std.specs.Slice.Iter as slice
use Rattle.std.proofs.Common.{◌==◌, ◌||◌, not, rules, ◌∙◌, ap}
use Rattle.assembler.proofs.Lines.{empty_by_length}
use Rattle.assembler.proofs.line.words.Goals as goal

pub returns : goal.returns
returns c =
    map_from_collect _ c.collect.ensures.ran
    (YieldsList-from_filter _ (λ word. not (is_empty word))
    (YieldsList-from_slice_split _ (λ b. b == 32 || b == 9) (before_comment c.args.line.now)
    (ap slice.split_rest c.filter.ensures.source ∙ c.split.ensures.rest ∙ c.before_comment.ensures)
    (ap slice.split_done c.filter.ensures.source ∙ c.split.ensures.done)
    (ap slice.split_callee c.filter.ensures.source ∙ c.split.ensures.closure)
    (λ x b q k. search rules))
    c.filter.ensures.closure
    (λ x b q k. search (rules, empty_by_length)))
