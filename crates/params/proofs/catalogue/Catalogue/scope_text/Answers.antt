use Rattle.std.proofs.Common.{◌≡◌, ◌+◌, ◌/◌, ◌<◌, ◌≤◌, ◌∙◌, sym, rules, arith, drop, map, string_bytes, length, subst}
use Rattle.params.proofs.Names.{length-map, names_in_mask, scope_text, text_with_name, length-scope_text}
use Rattle.params.proofs.Taken.{next_mapped}
use Rattle.params.proofs.Written.{text_after, text_after-odd, text_after-even, text_after-some, text_after-end, read_back}
use Rattle.params.proofs.catalogue.Catalogue.scope_text.Goals.{then-left-eq1+in_ok-append_name, else-left-eq1}
use Rattle.params.proofs.catalogue.Catalogue.scope_text.Goals as goal

pub loop-name-preserved : goal.loop-name-preserved
loop-name-preserved c =
    let items = c.self.inside.names.items in
    let i = c.loop-name.name-index in
    let names = map string_bytes items in
    let name = string_bytes c.name-item.result in
    let at = next_mapped string_bytes items i c.name-item.result (search rules) (search rules) in
    let text = string_bytes c.loop-name.text in
    let left = c.loop-name.left in
    let before : text_after text (names_in_mask (drop i names) left) ≡ scope_text names c.args.mask = search rules in
    elim c.if-left-eq1.branch [
      | then-left-eq1+in_ok-append_name w ↦
          let now : string_bytes c.if-left-eq1.text ≡ text_with_name text name = search rules in
          let after = sym (text_after-odd text names i left name c.self.invariant.scope_names at w.if-left-eq1.true) ∙ before in
          subst (λ self. text_after (string_bytes c.if-left-eq1.text) (names_in_mask (drop (i + 1) self) (left / 2)) ≡ scope_text self c.args.mask) c.self.view_is (rw now after)
      | else-left-eq1 w ↦
          let now : string_bytes c.if-left-eq1.text ≡ text = search rules in
          let after = sym (text_after-even text names i left name at w.if-left-eq1.false) ∙ before in
          subst (λ self. text_after (string_bytes c.if-left-eq1.text) (names_in_mask (drop (i + 1) self) (left / 2)) ≡ scope_text self c.args.mask) c.self.view_is (rw now after)
    ]

pub returns-in_err-append_name-clause-err : goal.returns-in_err-append_name-clause-err
returns-in_err-append_name-clause-err c =
    let items = c.self.inside.names.items in
    let at = next_mapped string_bytes items c.loop-name.name-index c.name-item.result (search rules) (search rules) in
    let some = text_after-some (string_bytes c.loop-name.text) (map string_bytes items) c.loop-name.name-index c.loop-name.left (string_bytes c.name-item.result) c.self.invariant.scope_names at c.if-left-eq1.true in
    let whole = rw (← c.self.view_is) at c.loop-name.invariant in
    let positive : 0 < length (scope_text c.args.self.now c.args.mask) = rw (← c.self.view_is) (subst (λ t. 0 < length t) whole some) in
    search rules

pub returns-clause-read_back : goal.returns-clause-read_back
returns-clause-read_back c = λ some fits.
    let names = map string_bytes c.self.inside.names.items in
    let whole = rw (← c.self.view_is) at c.loop-name.invariant in
    let past : length names ≤ c.loop-name.name-index = omega (arith, length-map c.self.inside.names.items string_bytes, c.loop-name-test.false, c.deref-name-items.ensures.len) in
    let text = text_after-end (string_bytes c.loop-name.text) (scope_text names c.args.mask) names c.loop-name.name-index c.loop-name.left past whole in
    rw text (rw (← c.self.view_is) (read_back names c.args.mask c.self.invariant some (rw (← c.self.view_is) at fits)))

pub returns-clause-short : goal.returns-clause-short
returns-clause-short c =
    let names = map string_bytes c.self.inside.names.items in
    let whole = rw (← c.self.view_is) at c.loop-name.invariant in
    let past : length names ≤ c.loop-name.name-index = omega (arith, length-map c.self.inside.names.items string_bytes, c.loop-name-test.false, c.deref-name-items.ensures.len) in
    let text = text_after-end (string_bytes c.loop-name.text) (scope_text names c.args.mask) names c.loop-name.name-index c.loop-name.left past whole in
    rw text (length-scope_text names c.args.mask c.self.invariant)
