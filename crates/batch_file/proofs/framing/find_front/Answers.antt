use Rattle.std.proofs.Common.{◌≡◌, ◌≢◌, inr, List, ℕ, ◌-◌, ◌≤◌, ◌++◌, ◌∷◌, [], ◌+◌, ◌∙◌, length, take, drop, refl, sym, ap, subst, arith, rules, Vec, length-drop}
use Rattle.std.proofs.lemmas.List.{append-nil, map_push, take_all}
use Rattle.std.specs.declared.alloc.Global.{Global}
use Rattle.batch_file.specs.Frames.{header, lists, IsFrame, IsNoFrame, IsVersion}
use Rattle.batch_file.specs.Reads.{IsRead}
use Rattle.batch_file.proofs.Going.{all_there, third_version}
use Rattle.batch_file.proofs.Walking.{goes_on}
use Rattle.batch_file.proofs.framing.find_front.Goals as goal

pub returns-in-Some-clause-refused : goal.returns-in-Some-clause-refused
returns-in-Some-clause-refused c =
    let bytes = c.args.bytes.now in
    let other : c.in-Some.version ≢ 3 = search rules in
    inr (subst (λ (l : List ℕ). IsVersion c.in-Some.version l) (append-nil bytes) (c.in-Some.ensures.some [] (all_there bytes)), other)

pub returns-in-None-clause-refused : goal.returns-in-None-clause-refused
returns-in-None-clause-refused c =
    let bytes = c.args.bytes.now in
    inr (λ version is. c.in-None.ensures.none [] (all_there bytes) version (subst (λ (l : List ℕ). IsVersion version l) (sym (append-nil bytes)) is))

pub loop-batch-init : goal.loop-batch-init
loop-batch-init c =
    let bytes = c.args.bytes.now in
    let is : c.in-Some-eq3.field-0 ≡ 3 = omega (arith, c.in-Some-eq3.field-0-is) in
    let version : IsVersion 3 (bytes ++ []) = subst (λ (k : ℕ). IsVersion k (bytes ++ [])) is (c.in-Some-eq3.ensures.some [] (all_there bytes)) in
    let three = third_version bytes (subst (λ (l : List ℕ). IsVersion 3 l) (append-nil bytes) version) in
    let none : lists c.new-batches.result.items ≡ [] = ap (λ (l : List (Vec ℕ Global)). lists l) c.new-batches.ensures.items in
    record { within = three.0; low = omega arith; read = subst (λ (l : List (List ℕ)). IsRead l header 16 bytes) (sym none) three.1 }

pub loop-batch-preserved : goal.loop-batch-preserved
loop-batch-preserved c =
    let bytes = c.args.bytes.now in
    let end = c.loop-batch.end in
    let batch = c.in-Some-first_batch.batch.now in
    let all : take (length bytes - end) (drop end bytes) ≡ drop end bytes = take_all _ _ (omega (arith, length-drop end bytes)) in
    let fits : 21 + length batch ≤ length (drop end bytes) = subst (λ (l : List ℕ). 21 + length batch ≤ length l) all c.in-Some-first_batch.ensures.within in
    let one : IsFrame c.loop-batch.last batch (drop (21 + length batch) (drop end bytes)) (drop end bytes) = subst (λ (l : List ℕ). IsFrame c.loop-batch.last batch (drop (21 + length batch) l) l) all c.in-Some-first_batch.ensures.some in
    let same : c.in_ok-to_vec.field-0.items ≡ batch = search rules in
    let pushed : lists c.push.new.self.items ≡ lists c.loop-batch.batches.items ++ batch ∷ [] = ap (λ (l : List (Vec ℕ Global)). lists l) c.in_ok-push.ensures.items ∙ map_push _ c.loop-batch.batches.items c.in_ok-to_vec.field-0 ∙ ap (λ (l : List ℕ). lists c.loop-batch.batches.items ++ l ∷ []) same in
    let next = end + (21 + length batch) in
    record {
      within = omega (arith, fits, c.loop-batch.invariant.within, length-drop end bytes);
      low = omega arith;
      read = subst (λ (x : List (List ℕ)). IsRead x c.digest_at-last.result next bytes) (sym pushed) (goes_on (lists c.loop-batch.batches.items) c.loop-batch.last batch c.digest_at-last.result bytes end next c.loop-batch.invariant.read one refl c.digest_at-last.ensures);
    }

pub returns-clause-front : goal.returns-clause-front
returns-clause-front c =
    let bytes = c.args.bytes.now in
    let end = c.loop-batch.end in
    let all : take (length bytes - end) (drop end bytes) ≡ drop end bytes = take_all _ _ (omega (arith, length-drop end bytes)) in
    (c.loop-batch.invariant.read, subst (λ (l : List ℕ). IsNoFrame c.loop-batch.last l) all c.in_default.ensures.none)
