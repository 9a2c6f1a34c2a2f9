use Rattle.std.proofs.Common.{◌∷◌, [], ◌++◌, ◌∙◌, List, ℕ, ap, refl}
use Rattle.std.specs.Prelude.{option_map}
use Rattle.file_copy.proofs.Copying.{all_written, aside_on}
use Rattle.file_copy.proofs.placing.Gathered.put.Goals as goal

pub returns-clause-added : goal.returns-clause-added
returns-clause-added g c = λ front a.
    let D = g.D.Device in
    let was = D.next c.args.device.now in
    let gathered = c.in_ok-gather.ensures.added was front a in
    let added = c.in_ok-add_to_next.ensures.added ∙ ap (λ (l : List ℕ). option_map (λ w. w ++ l) was) c.deref.ensures.value in
    all_written was (front ++ c.args.batch.now ∷ []) c.gather.new.self gathered (D.next c.add_to_next.new.self) _ added c.clear.ensures.items refl refl

pub returns-clause-aside : goal.returns-clause-aside
returns-clause-aside g c = λ old a. aside_on g.D.Device old c.args.device.now c.add_to_next.new.self a c.add_to_next.ensures.beside c.add_to_next.ensures.time c.add_to_next.ensures.truth
