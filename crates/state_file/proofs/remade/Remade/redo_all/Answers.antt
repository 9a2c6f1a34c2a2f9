use Rattle.std.proofs.Common.{◌≡◌, ℕ, ◌+◌, ◌++◌, List, [], ◌∷◌, take, drop, sym, subst, Vec, arith}
use Rattle.std.specs.declared.alloc.Global.{Global}
use Rattle.state_file.proofs.Names.{common_steps, lists, RefusesOne, TellsAgain}
use Rattle.state_file.proofs.Refused.{parted_batches}
use Rattle.state_file.proofs.Remaking.{refused_batch, tells_then}
use Rattle.state_file.proofs.remade.Remade.redo_all.Goals as goal

pub returns-in-Err-clause-refused : goal.returns-in-Err-clause-refused
returns-in-Err-clause-refused g c =
    let item = c.batch-item.result in
    let batches = c.args.batches.now in
    let i = c.loop-batch.batch-index in
    let more : lists (take (i + 1) batches) ≡ lists (take i batches) ++ item.items ∷ [] = grind (arith, common_steps) in
    refused_batch g.H.HookHost c.args.self.now c.loop-batch.self (lists batches) (lists (take i batches)) (lists (drop (i + 1) batches)) item.items c.in-Err.fault (parted_batches batches i item.items more)
    c.loop-batch.invariant (subst (λ (b : List ℕ). RefusesOne g.H.HookHost c.loop-batch.self b c.in-Err.fault) c.deref.ensures.value c.in-Err.ensures.refused)

pub loop-batch-preserved : goal.loop-batch-preserved
loop-batch-preserved g c =
    let item = c.batch-item.result in
    let before = take c.loop-batch.batch-index c.args.batches.now in
    let more : lists (take (c.loop-batch.batch-index + 1) c.args.batches.now) ≡ lists before ++ item.items ∷ [] = grind (arith, common_steps) in
    subst (λ (bs : List (List ℕ)). TellsAgain g.H.HookHost c.args.self.now bs c.redo_batch.new.self) (sym more)
    (tells_then g.H.HookHost c.args.self.now c.loop-batch.self c.redo_batch.new.self (lists before) (item.items ∷ []) c.loop-batch.invariant
    (subst (λ (b : List ℕ). TellsAgain g.H.HookHost c.loop-batch.self (b ∷ []) c.redo_batch.new.self) c.deref.ensures.value c.in_default.ensures.redone))
