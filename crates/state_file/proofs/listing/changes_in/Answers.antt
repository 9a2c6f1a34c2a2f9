use Rattle.std.proofs.Common.{rules, ◌≡◌, ◌+◌, ◌++◌, ◌∙◌, ℕ, List, [], ◌∷◌, Err, take, drop, sym, ap, subst, arith}
use Rattle.consent.specs.History.{Event}
use Rattle.state_file.proofs.Names.{IfErr, common_steps, lists, map-append, AreTold, AreTold-joined, DatedChange, dated_fact, dated_facts, IsUnlisted}
use Rattle.state_file.proofs.Refused.{parted_batches, unlisted_batch}
use Rattle.state_file.proofs.listing.changes_in.Goals as goal

pub returns-in_err-changes-clause-refused : goal.returns-in_err-changes-clause-refused
returns-in_err-changes-clause-refused c =
    let item = c.batch-item.result in
    let batches = c.args.batches.now in
    let i = c.loop-batch.batch-index in
    let more : lists (take (i + 1) batches) ≡ lists (take i batches) ++ item.items ∷ [] = grind (arith, common_steps) in
    let is : c.from_residual.result ≡ Err c.in_err-changes.field-0.0 = search rules in
    subst (λ r. IfErr r (IsUnlisted (lists batches))) (sym is)
    (unlisted_batch (lists batches) (lists (take i batches)) (lists (drop (i + 1) batches)) item.items c.in_err-changes.field-0.0 (parted_batches batches i item.items more)
    (subst (λ (b : List ℕ). IsUnlisted (b ∷ []) c.in_err-changes.field-0.0) c.deref.ensures.value c.in_err-changes.ensures.refused))

pub loop-batch-preserved : goal.loop-batch-preserved
loop-batch-preserved c =
    let item = c.batch-item.result in
    let before = take c.loop-batch.batch-index c.args.batches.now in
    let changes = c.in_ok-changes.changes.items in
    let more : lists (take (c.loop-batch.batch-index + 1) c.args.batches.now) ≡ lists before ++ item.items ∷ [] = grind (arith, common_steps) in
    let all : dated_facts c.extend_from_slice.new.self.items ≡ dated_facts c.loop-batch.list.items ++ dated_facts changes =
    ap dated_facts (c.in_ok-extend_from_slice.ensures.items ∙ ap (λ (xs : List DatedChange). c.loop-batch.list.items ++ xs) c.deref-in-loop-batch.ensures.value)
    ∙ map-append dated_fact c.loop-batch.list.items changes in
    subst (λ (bs : List (List ℕ)). AreTold bs (dated_facts c.extend_from_slice.new.self.items)) (sym more)
    (subst (λ (es : List Event). AreTold (lists before ++ item.items ∷ []) es) (sym all) (AreTold-joined (lists before) (item.items ∷ []) (dated_facts c.loop-batch.list.items) (dated_facts changes) c.loop-batch.invariant
    (subst (λ (b : List ℕ). AreTold (b ∷ []) (dated_facts changes)) c.deref.ensures.value c.in_ok-changes.ensures.told)))
