use Rattle.std.proofs.Common.{inl, inr, refl, sym, ◌∙◌}
use Rattle.std.proofs.lemmas.Bool.{true≢false}
use Rattle.desk.proofs.judging.may_ask.Goals as goal

pub returns-then-begins_with : goal.returns-then-begins_with
returns-then-begins_with c = ((λ yes. inl (c.begins_with.ensures.0 c.if-begins_with.true)), (λ may. refl))

pub returns : goal.returns
returns c = (
  λ yes. inr (c.begins_with-2.ensures.0 yes),
  λ may. elim may [
    | inl so ↦ absurd (true≢false (sym (c.begins_with.ensures.1 so) ∙ c.if-begins_with.false))
    | inr so ↦ c.begins_with-2.ensures.1 so
  ],
)
