use Rattle.std.proofs.Common.{◌≡◌, ◌≤◌, replicate, refl, arith}
use Rattle.chains.specs.Chained.{none}
use Rattle.chains.proofs.Moving.{chained_blank}
use Rattle.chains.proofs.chains.Chains.new.Goals as goal

pub returns-clause-empty : goal.returns-clause-empty
returns-clause-empty c =
    let made = c.in_ok-cells.ensures in
    let filled = c.in_ok-resize.ensures in
    let n = c.args.heads in
    let all = c.requires in
    let are : c.resize.new.self.items ≡ replicate n none = (let items = filled.items in let before = made.items in let len = made.len in grind (arith, items, before, len)) in
    chained_blank _ n are (omega arith) (omega (arith, all))
