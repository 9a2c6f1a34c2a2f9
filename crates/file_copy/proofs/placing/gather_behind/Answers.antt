use Rattle.std.proofs.Common.{◌≡◌, ◌+◌, ◌++◌, [], ◌∷◌, ◌∙◌, List, ℕ, Some, take, refl, sym, ap, subst, append_assoc, arith}
use Rattle.std.proofs.lemmas.Grind.{common_steps}
use Rattle.std.proofs.lemmas.List.{take_all}
use Rattle.batch_file.specs.Frames.{lists}
use Rattle.file_copy.specs.Copies.{AreGathered}
use Rattle.file_copy.proofs.Begun.{begun_gathered, gathered_whole}
use Rattle.file_copy.proofs.placing.gather_behind.Goals as goal

pub loop-batch-init : goal.loop-batch-init
loop-batch-init c = λ written batches are. begun_gathered written batches c.args.front are _ c.new.ensures.items refl

pub loop-batch-preserved : goal.loop-batch-preserved
loop-batch-preserved c = λ written front are.
    let batches = c.args.behind.now in
    let i = c.loop-batch.batch-index in
    let item = c.batch-item.result in
    let more : lists (take (i + 1) batches) ≡ lists (take i batches) ++ item.items ∷ [] = grind (arith, common_steps) in
    let one = c.in_ok-gather.ensures.added (Some written) (front ++ lists (take i batches)) (c.loop-batch.invariant written front are) in
    let batch_is : front ++ lists (take i batches) ++ c.deref-in-loop-batch.result.now ∷ [] ≡ front ++ lists (take (i + 1) batches) =
    ap (λ (b : List ℕ). front ++ lists (take i batches) ++ b ∷ []) c.deref-in-loop-batch.ensures.value
    ∙ append_assoc front (lists (take i batches)) (item.items ∷ [])
    ∙ ap (λ (l : List (List ℕ)). front ++ l) (sym more) in
    subst (λ (l : List (List ℕ)). AreGathered (Some written) l c.gather.new.self) batch_is one

pub returns : goal.returns
returns c =
    let batches = c.args.behind.now in
    let all : take c.loop-batch.batch-index batches ≡ batches = take_all c.loop-batch.batch-index batches (omega (arith, c.loop-batch-test.false)) in
    record {
      gathered = λ written front are.
          let were = subst (λ bs. AreGathered (Some written) (front ++ lists bs) c.loop-batch.whole) all (c.loop-batch.invariant written front are) in
          gathered_whole written (front ++ lists batches) c.loop-batch.whole _ were c.in_ok-extend_from_slice.ensures.items refl;
    }
