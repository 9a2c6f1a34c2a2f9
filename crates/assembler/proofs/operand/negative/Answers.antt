use Rattle.std.proofs.Common.{rules, tests, w64, ◌∷◌, true, subst, sym, ◌∙◌, ℤ, Some, None, ◌≡◌, ◌≤◌, ◌^◌, inl, inr, false, arith, pos}
use Rattle.assembler.proofs.Names.{signed_decimal, result_ok, is_positive, IsSmall, decimal_value}
use Rattle.assembler.proofs.Numbers.{no_negative, negative_word, if_none, not_below, not_converted, converted, negated, below}
use Rattle.assembler.proofs.operand.negative.Goals as goal

pub returns-then-not-is_positive-clause-none : goal.returns-then-not-is_positive-clause-none
returns-then-not-is_positive-clause-none c =
    let h : is_positive c.args.digits.now ≡ false = search (rules, tests) in no_negative _ (inl h)

pub returns-in_err-value-clause-none : goal.returns-in_err-value-clause-none
returns-in_err-value-clause-none c =
    let big : 2 ^ 64 ≤ decimal_value c.args.digits.now = search rules in if_none _ (no_negative c.args.digits.now (inr (omega arith)))

pub returns-in_err-size-clause-none : goal.returns-in_err-size-clause-none
returns-in_err-size-clause-none c =
    let none : result_ok c.try_from.result ≡ None = sym c.ok.ensures.value ∙ c.in_err-size.was in
    let big = not_below c.in_ok-value.field-0 (not_converted _ w64 _ c.try_from.ensures none) in
    let same : decimal_value c.args.digits.now ≡ c.in_ok-value.field-0 = search rules in
    let far : 2 ^ 63 ≤ decimal_value c.args.digits.now = omega arith in
    if_none _ (no_negative c.args.digits.now (inr far))

pub returns-clause-some : goal.returns-clause-some
returns-clause-some c =
    let some : result_ok c.try_from.result ≡ Some c.in_ok-size.size = sym c.ok.ensures.value ∙ c.in_ok-size.was in
    let k = converted _ w64 (pos c.in_ok-value.field-0) c.in_ok-size.size c.try_from.ensures some in
    let same : decimal_value c.args.digits.now ≡ c.in_ok-value.field-0 = search rules in
    let h : is_positive c.args.digits.now ≡ true = search (rules, tests) in
    let n = negated c.in_ok-size.size c.in_ok-value.field-0 k.0 k.1 in
    subst (λ (z : ℤ). (45 ∷ c.args.digits.now ≡ signed_decimal z) × IsSmall z) (sym n) (negative_word c.args.digits.now c.in_ok-value.field-0 h same (below _ k.1))
