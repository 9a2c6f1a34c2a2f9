use Rattle.std.proofs.Common.{◌≡◌, ◌++◌, ◌+◌, ◌≤◌, length, false}
use Rattle.params.proofs.Names.{list_any, sent, pairs, is_damaged, texts_of}
use Rattle.form_urlencoded.specs.Form.{raw_pairs}
use Rattle.form_urlencoded.specs.Parse.{raw_pairs_left}
use Rattle.params.proofs.params.Params.read.Given as goal

abbrev pub invariant-loop-pair : goal.invariant-loop-pair
invariant-loop-pair l =
    (texts_of l.pairs.items ++ sent (raw_pairs_left l.pair-iterator) ≡ pairs l.fn.input)
    × (list_any is_damaged (texts_of l.pairs.items) ≡ false)
    × (length l.pairs.items + length (raw_pairs_left l.pair-iterator) ≤ length (raw_pairs l.fn.input))
