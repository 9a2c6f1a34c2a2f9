use Rattle.std.proofs.Common.{◌≡◌, ◌+◌, ◌++◌, [], ◌∷◌, ◌∙◌, List, ℕ, take, sym, ap, subst, append_assoc, arith}
use Rattle.std.proofs.lemmas.Grind.{common_steps}
use Rattle.std.proofs.lemmas.List.{take_all}
use Rattle.batch_file.specs.Frames.{lists}
use Rattle.file_copy.specs.Copies.{AreGathered}
use Rattle.file_copy.proofs.placing.Gathered.put_all.Goals as goal

pub loop-batch-preserved : goal.loop-batch-preserved
loop-batch-preserved g c =
    let D = g.D.Device in
    let was = c.loop-batch.invariant in
    let batches = c.args.batches.now in
    let i = c.loop-batch.batch-index in
    let item = c.batch-item.result in
    let more : lists (take (i + 1) batches) ≡ lists (take i batches) ++ item.items ∷ [] = grind (arith, common_steps) in
    let now = c.in_ok-put.ensures in
    record {
      added = λ front a.
          let one = now.added (front ++ lists (take i batches)) (was.added front a) in
          let batch_is : front ++ lists (take i batches) ++ c.deref-in-loop-batch.result.now ∷ [] ≡ front ++ lists (take (i + 1) batches) =
          ap (λ (b : List ℕ). front ++ lists (take i batches) ++ b ∷ []) c.deref-in-loop-batch.ensures.value
          ∙ append_assoc front (lists (take i batches)) (item.items ∷ [])
          ∙ ap (λ (l : List (List ℕ)). front ++ l) (sym more) in
          subst (λ (l : List (List ℕ)). AreGathered (D.next c.put.new.device) l c.put.new.self) batch_is one;
      seen = c.put.ensures.seen ∙ was.seen;
      aside = λ old a. c.put.ensures.aside old (was.aside old a);
    }

pub returns-clause-added : goal.returns-clause-added
returns-clause-added g c = λ front a.
    let batches = c.args.batches.now in
    let all : take c.loop-batch.batch-index batches ≡ batches = take_all c.loop-batch.batch-index batches (omega (arith, c.loop-batch-test.false)) in
    subst (λ bs. AreGathered (g.D.Device.next c.loop-batch.device) (front ++ lists bs) c.loop-batch.self) all (c.loop-batch.invariant.added front a)
