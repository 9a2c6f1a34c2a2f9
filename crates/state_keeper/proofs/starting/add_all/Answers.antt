use Rattle.std.proofs.Common.{◌≡◌, ◌++◌, ◌∷◌, ◌∙◌, [], ap, sym, take, arith, ℕ, List}
use Rattle.std.specs.Global.{Vec}
use Rattle.batch_file.specs.Frames.{lists}
use Rattle.state_keeper.proofs.Names.{append-nil, take_all}
use Rattle.state_keeper.proofs.Places.{mapped_behind}
use Rattle.state_keeper.proofs.starting.add_all.Goals as goal

pub loop-batch-init : goal.loop-batch-init
loop-batch-init c = sym (append-nil c.args.frames.now)

pub loop-batch-preserved : goal.loop-batch-preserved
loop-batch-preserved c =
    let i = c.loop-batch.batch-index in
    let behind = c.args.behind.now in
    let same : c.deref.result.now ≡ c.batch-item.result.items = cc c.deref.ensures.value in
    rw (mapped_behind (λ (v : Vec ℕ). v.items) c.args.frames.now i behind c.batch-item.result c.loop-batch-test.true c.batch-item.is)
    (c.in-Ok.ensures.added ∙ ap (λ (b : List ℕ). c.loop-batch.frames ++ b ∷ []) same ∙ ap (λ (bs : List (List ℕ)). bs ++ c.batch-item.result.items ∷ []) c.loop-batch.invariant)

pub returns : goal.returns
returns c =
    let all = take_all c.loop-batch.batch-index c.args.behind.now (omega (arith, c.loop-batch-test.false)) in
    record { added = rw all at c.loop-batch.invariant; refused = tt }
