use Rattle.std.proofs.Common.{◌≡◌, ◌∷◌, [], ◌++◌, ◌∙◌, List, ℕ, ap, arith, refl}
use Rattle.file_copy.proofs.Copying.{gathered_more}
use Rattle.file_copy.proofs.placing.Gathered.gather.Goals as goal

pub returns-clause-added : goal.returns-clause-added
returns-clause-added c = λ next front a.
    let size = c.to_be_bytes-size.result in
    let made = c.args.made.now in
    let batch = c.args.batch.now in
    let old = c.args.self.now in
    let one : c.extend_from_slice.new.self.items ≡ old.out.items ++ (255 ∷ []) = c.in_ok-extend_from_slice.ensures.items in
    let two : c.extend_from_slice-2.new.self.items ≡ old.out.items ++ (255 ∷ []) ++ size = c.in_ok-extend_from_slice-2.ensures.items ∙ ap (λ (l : List ℕ). l ++ size) one in
    let three : c.extend_from_slice-3.new.self.items ≡ old.out.items ++ (255 ∷ []) ++ size ++ made = c.in_ok-extend_from_slice-3.ensures.items ∙ ap (λ (l : List ℕ). l ++ made) two in
    let four : c.extend_from_slice-4.new.self.items ≡ old.out.items ++ (255 ∷ []) ++ size ++ made ++ batch = c.in_ok-extend_from_slice-4.ensures.items ∙ ap (λ (l : List ℕ). l ++ batch) three in
    gathered_more next front old a _ batch size made (omega (arith, c.if-batch-ge-MAX_BATCH.false)) four c.to_be_bytes-size.ensures c.requires refl refl
