use Rattle.std.proofs.Common.{◌≡◌, ◌+◌, ◌++◌, ◌∙◌, ℕ, List, [], ◌∷◌, Some, take, sym, ap, subst, arith}
use Rattle.state_file.proofs.Names.{option_copied, iff_false, common_steps, lists, last_rules, rules_in}
use Rattle.state_file.proofs.Tells.{told_item, untold_item}
use Rattle.state_file.proofs.rules_told.last_rules.Goals.{then-tells_rules, else-tells_rules}
use Rattle.state_file.proofs.rules_told.last_rules.Goals as goal

pub loop-batch-preserved : goal.loop-batch-preserved
loop-batch-preserved c =
    let item = c.batch-item.result in
    let before = lists (take c.loop-batch.batch-index c.args.batches.now) in
    let more : lists (take (c.loop-batch.batch-index + 1) c.args.batches.now) ≡ before ++ item.items ∷ [] = grind (arith, common_steps) in
    elim c.if-tells_rules.branch [
      | then-tells_rules w ↦
          let of_rules : rules_in item.items ≡ Some item.items = subst (λ (b : List ℕ). rules_in b ≡ Some b) c.deref.ensures.value (c.tells_rules.ensures.0 w.if-tells_rules.true) in
          let found : option_copied c.if-tells_rules.last ≡ Some item.items = ap option_copied w.last-is ∙ ap Some w.as_slice.ensures.value in
          found ∙ sym (ap last_rules more ∙ told_item before item.items of_rules)
      | else-tells_rules w ↦
          let not : rules_in item.items ≡ Some item.items → ⊥ =
          λ of_rules. iff_false c.tells_rules.ensures w.if-tells_rules.false (subst (λ (b : List ℕ). rules_in b ≡ Some b) (sym c.deref.ensures.value) of_rules) in
          ap option_copied w.last-is ∙ c.loop-batch.invariant ∙ sym (ap last_rules more ∙ untold_item before item.items not)
    ]
