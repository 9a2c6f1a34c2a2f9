use Rattle.std.proofs.Common.{◌≡◌, ◌+◌, ◌++◌, [], ◌∷◌, take, ap, arith}
use Rattle.state_file.proofs.Names.{common_steps, frames_size, lists}
use Rattle.state_file.specs.LengthLaws.{frames_size-push}
use Rattle.state_file.proofs.sizes.end_behind.Goals as goal

pub loop-batch-preserved : goal.loop-batch-preserved
loop-batch-preserved c =
    let item = c.batch-item.result in
    let batches = c.args.batches.now in
    let i = c.loop-batch.batch-index in
    let more : lists (take (i + 1) batches) ≡ lists (take i batches) ++ item.items ∷ [] = grind (arith, common_steps) in
    let all = ap frames_size more in
    let push = frames_size-push (lists (take i batches)) item.items in
    let before = c.loop-batch.invariant in
    omega (arith, all, push, before)
