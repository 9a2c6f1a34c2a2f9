use Rattle.std.proofs.Common.{sym}
use Rattle.std.proofs.lemmas.Bool.{iff_false}
use Rattle.std.proofs.lemmas.List.{nil_from_length}
use Rattle.hook_commands.proofs.HexReading.{all_read, blank_read, no_pair, only_read, odd_digit, pair_read}
use Rattle.hook_commands.proofs.hex_text.bytes_of_hex.Goals as goal

pub loop-first-preserved-then-is_blank : goal.loop-first-preserved-then-is_blank
loop-first-preserved-then-is_blank c =
    blank_read _ _ _ _ (c.is_blank.ensures.0 c.if-is_blank.true) (rw c.in-Some.ensures.cases.0 at c.loop-first.invariant)

pub returns-in_default-split_first-clause-spelled : goal.returns-in_default-split_first-clause-spelled
returns-in_default-split_first-clause-spelled c =
    odd_digit _ _ _ (iff_false c.is_blank.ensures c.if-is_blank.false) (rw (c.in-Some.ensures.cases.0, nil_from_length _ c.in_default-split_first.ensures.cases) at c.loop-first.invariant)

pub returns-in_default-byte_of-clause-spelled : goal.returns-in_default-byte_of-clause-spelled
returns-in_default-byte_of-clause-spelled c =
    no_pair _ _ _ _ _ (iff_false c.is_blank.ensures c.if-is_blank.false) c.in_default-byte_of.ensures
    (rw (c.in-Some.ensures.cases.0, c.in-Some-split_first.ensures.cases.0) at c.loop-first.invariant)

pub loop-first-preserved : goal.loop-first-preserved
loop-first-preserved c =
    rw c.in_ok-push.ensures.items (pair_read _ _ _ _ _ _ (iff_false c.is_blank.ensures c.if-is_blank.false) (sym c.in-Some-byte_of.ensures)
    (rw (c.in-Some.ensures.cases.0, c.in-Some-split_first.ensures.cases.0) at c.loop-first.invariant))

pub returns-clause-spelled : goal.returns-clause-spelled
returns-clause-spelled c = all_read _ _ (rw (nil_from_length _ c.in_default.ensures.cases) at c.loop-first.invariant)

pub returns-clause-only : goal.returns-clause-only
returns-clause-only c = only_read _ _ (rw (nil_from_length _ c.in_default.ensures.cases) at c.loop-first.invariant)
