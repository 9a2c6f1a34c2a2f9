use Rattle.std.proofs.Common.{ap, sym, subst, ◌∙◌, arith, drop}
use Rattle.heads.specs.ReadingLaws.{hopeless_has_none}
use Rattle.heads.specs.WaitingLaws.{wants_unfinished}
use Rattle.desk.specs.Judging.{IsJudged, asks_for}
use Rattle.desk.proofs.Asking.{asks_whole, may_come, never_hopeless, never_long, never_wished}
use Rattle.desk.proofs.judging.judge.Goals as goal

pub returns-in_default : goal.returns-in_default
returns-in_default c = never_wished c.args.bytes.now c.in_default.ensures

pub returns-in-Whole : goal.returns-in-Whole
returns-in-Whole c =
    let whole = c.in-Whole.ensures.1 in
    subst (IsJudged c.args.bytes.now c.args.key.now) (sym (c.asks.ensures ∙ ap (λ a. asks_for c.in-Some.wish a c.args.key.now) (c.lend.ensures whole.0 whole.1)))
    (asks_whole c.args.bytes.now c.args.key.now c.in-Some.wish whole.0 (drop c.in-Whole.found.end c.args.bytes.now) whole.1.begins c.in-Some.ensures)

pub returns-then-bytes-lt-PEEK_LIMIT : goal.returns-then-bytes-lt-PEEK_LIMIT
returns-then-bytes-lt-PEEK_LIMIT c =
    may_come c.args.bytes.now c.args.key.now c.in-Some.wish (wants_unfinished c.args.bytes.now _ c.in-More.ensures).none c.in-Some.ensures

pub returns-else-bytes-lt-PEEK_LIMIT : goal.returns-else-bytes-lt-PEEK_LIMIT
returns-else-bytes-lt-PEEK_LIMIT c =
    never_long c.args.bytes.now (wants_unfinished c.args.bytes.now _ c.in-More.ensures).none (omega (arith, c.if-bytes-lt-PEEK_LIMIT.false))

pub returns-in-Faulty : goal.returns-in-Faulty
returns-in-Faulty c = never_hopeless c.args.bytes.now (hopeless_has_none c.args.bytes.now c.in-Faulty.ensures.0) c.in-Faulty.ensures.0
