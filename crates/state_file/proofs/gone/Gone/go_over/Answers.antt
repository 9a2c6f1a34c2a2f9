use Rattle.std.proofs.Common.{◌≡◌, ◌∙◌, ◌++◌, ℕ, List, [], ◌∷◌, sym, ap, subst}
use Rattle.state_file.proofs.Names.{lists}
use Rattle.state_file.specs.Going.{HasMeasured, IsMadeOf, TellAlike}
use Rattle.state_file.proofs.Resumed.{on_ok}
use Rattle.state_file.proofs.gone.Gone.go_over.Goals as goal

pub returns-clause-gone : goal.returns-clause-gone
returns-clause-gone g c =
    let hosting = g.H.HookHost in
    let old = c.args.self.now.front.batches in
    let batch = c.args.batch.items in
    let e : c.as_slice-bytes.result.now ≡ batch = c.as_slice-bytes.ensures.value in
    let front : c.note.new.self.batches ≡ old ++ batch ∷ [] = c.note.ensures ∙ ap (λ (b : List ℕ). old ++ b ∷ []) e in
    on_ok c.note_rules.result _ _ (λ alike outset has. record {
      made =
          subst (λ (bs : List (List ℕ)). IsMadeOf hosting outset bs c.redo.new.self) (sym front)
          (subst (λ (b : List ℕ). IsMadeOf hosting outset (old ++ b ∷ []) c.redo.new.self) e (c.redo.ensures.made outset old has.made));
      rules_are = c.redo.ensures.rules ∙ has.rules_are;
      alike = subst (λ (bs : List (List ℕ)). TellAlike bs (lists c.note_rules.new.telling.items)) (sym front) (alike old has.alike);
      measured =
          subst (λ (bs : List (List ℕ)). HasMeasured bs c.measure.new.self) (sym front)
          (subst (λ (b : List ℕ). HasMeasured (old ++ b ∷ []) c.measure.new.self) e (c.measure.ensures old has.measured));
    }) c.note_rules.ensures.alike
