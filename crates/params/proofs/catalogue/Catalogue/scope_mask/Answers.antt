use Rattle.std.proofs.Common.{◌≡◌, ◌∙◌, ◌<◌, ap, sym, rules, arith, Some, None, true, false, refl, map, string_bytes}
use Rattle.params.proofs.Names.{split_steps, split_text, split_has_more, split_pattern, FindsChar, any_twice, place_among, tokens_of, scope_mask-within}
use Rattle.std.proofs.lemmas.Iterator.Splits.{YieldsList-from_str_split}
use Rattle.params.proofs.Masks.{place-lt}
use Rattle.params.proofs.Tokens.{scope_after, scope_after-nil, scope_after-cons, scope_after-none, left-some, left-none}
use Rattle.params.proofs.catalogue.Catalogue.scope_mask.Goals as goal

pub loop-token-init : goal.loop-token-init
loop-token-init c =
    let text : split_text c.into_iter-token-iterator.result ≡ c.args.text.now = search rules in
    let more : split_has_more c.into_iter-token-iterator.result ≡ true = search rules in
    let pattern : split_pattern c.into_iter-token-iterator.result ≡ 0x20 = search rules in
    (tokens_of c.args.text.now, YieldsList-from_str_split 0x20 c.args.text.now (omega arith) text more pattern, refl)

pub returns-in_err-mask-clause-mask : goal.returns-in_err-mask-clause-mask
returns-in_err-mask-clause-mask c =
    let step : split_steps FindsChar (λ a b. b ≡ a) c.loop-token.token-iterator (Some c.in-Some.token) c.next.new.self = search rules in
    let next = left-some c.loop-token.token-iterator c.next.new.self c.in-Some.token c.loop-token.invariant.0 c.loop-token.invariant.1 step in
    let none : place_among c.in-Some.token.now c.args.self.now ≡ None = search rules in
    c.from_residual.ensures ∙ sym (scope_after-none c.args.self.now c.loop-token.mask c.in-Some.token.now next.0 none)
    ∙ ap (λ left. scope_after c.args.self.now c.loop-token.mask left) (sym next.2) ∙ c.loop-token.invariant.2

pub overflow_shl-mask : goal.overflow_shl-mask
overflow_shl-mask c =
    let place : place_among c.in-Some.token.now (map string_bytes c.self.inside.names.items) ≡ Some c.in_ok-mask.field-0 = search rules in
    omega (arith, c.self.invariant.count, place-lt (map string_bytes c.self.inside.names.items) c.in-Some.token.now c.in_ok-mask.field-0 place)

pub loop-token-preserved : goal.loop-token-preserved
loop-token-preserved c =
    let step : split_steps FindsChar (λ a b. b ≡ a) c.loop-token.token-iterator (Some c.in-Some.token) c.next.new.self = search rules in
    let next = left-some c.loop-token.token-iterator c.next.new.self c.in-Some.token c.loop-token.invariant.0 c.loop-token.invariant.1 step in
    let place : place_among c.in-Some.token.now c.args.self.now ≡ Some c.in_ok-mask.field-0 = search rules in
    let once : any_twice c.args.self.now ≡ false = search rules in
    let small : c.in_ok-mask.field-0 < 64 = overflow_shl-mask c in (
      next.0,
      next.1,
      sym (scope_after-cons c.args.self.now c.loop-token.mask c.in-Some.token.now next.0 c.in_ok-mask.field-0 once small place)
          ∙ ap (λ left. scope_after c.args.self.now c.loop-token.mask left) (sym next.2) ∙ c.loop-token.invariant.2,
    )

pub returns-clause-mask : goal.returns-clause-mask
returns-clause-mask c =
    let step : split_steps FindsChar (λ a b. b ≡ a) c.loop-token.token-iterator None c.next.new.self = search rules in
    let none = left-none c.loop-token.token-iterator c.next.new.self c.loop-token.invariant.0 c.loop-token.invariant.1 step in
    ap Some c.new.ensures ∙ sym (scope_after-nil c.args.self.now c.loop-token.mask) ∙ ap (λ left. scope_after c.args.self.now c.loop-token.mask left) (sym none) ∙ c.loop-token.invariant.2

pub returns-clause-within : goal.returns-clause-within
returns-clause-within c = scope_mask-within c.args.self.now c.args.text.now c.new.result (sym (returns-clause-mask c))
