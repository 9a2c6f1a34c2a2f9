use Rattle.std.proofs.Common.{sym, ◌∙◌}
use Rattle.std.proofs.lemmas.Bool.{true≢false}
use Rattle.desk.proofs.judging.wish_of.Goals as goal

pub returns-then-may_ask : goal.returns-then-may_ask
returns-then-may_ask c = c.may_ask.ensures.0 c.if-may_ask.true

pub returns-then-may_ask-2 : goal.returns-then-may_ask-2
returns-then-may_ask-2 c = c.may_ask-2.ensures.0 c.if-may_ask-2.true

pub returns : goal.returns
returns c = (
  λ may. true≢false (sym (c.may_ask.ensures.1 may) ∙ c.if-may_ask.false),
  λ may. true≢false (sym (c.may_ask-2.ensures.1 may) ∙ c.if-may_ask-2.false),
)
