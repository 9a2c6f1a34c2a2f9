use Rattle.std.proofs.Common.{◌≡◌, ◌<◌, ◌∙◌, ◌++◌, ℕ, List, [], ◌∷◌, Some, take, sym, ap, subst, Vec}
use Rattle.std.specs.declared.alloc.Global.{Global}
use Rattle.state_file.proofs.Names.{iff_false, lists, rules_in}
use Rattle.state_file.specs.Going.{TellAlike}
use Rattle.state_file.proofs.Going.{noted_other, noted_rules, some_items}
use Rattle.state_file.proofs.gone.note_rules.Goals as goal

pub returns-in_ok-push-2-clause-alike : goal.returns-in_ok-push-2-clause-alike
returns-in_ok-push-2-clause-alike c = λ batches alike.
    let telling = c.args.telling.now.items in
    let batch = c.args.batch in
    let of_rules : rules_in batch.items ≡ Some batch.items = subst (λ (b : List ℕ). rules_in b ≡ Some b) c.deref.ensures.value (c.tells_rules.ensures.0 c.if-tells_rules.true) in
    let is : c.push-then-tells_rules.new.self.items ≡ take 1 telling ++ batch ∷ [] = c.in_ok-push-2.ensures.items ∙ ap (λ (l : List (Vec ℕ Global)). l ++ batch ∷ []) c.truncate.ensures.items in
    subst (λ (l : List (Vec ℕ Global)). TellAlike (batches ++ batch.items ∷ []) (lists l)) (sym is)
    (noted_rules batches telling batch (subst (λ (n : ℕ). 0 < n) c.args.telling.now.ok.0 (some_items c.is_empty.result _ c.is_empty.ensures c.if-is_empty.false)) of_rules alike)

pub returns-else-tells_rules-clause-alike : goal.returns-else-tells_rules-clause-alike
returns-else-tells_rules-clause-alike c = λ batches alike.
    let batch = c.args.batch.items in
    noted_other batches c.args.telling.now.items batch (subst (λ (n : ℕ). 0 < n) c.args.telling.now.ok.0 (some_items c.is_empty.result _ c.is_empty.ensures c.if-is_empty.false))
    (λ of_rules. iff_false c.tells_rules.ensures c.if-tells_rules.false (subst (λ (b : List ℕ). rules_in b ≡ Some b) (sym c.deref.ensures.value) of_rules)) alike
