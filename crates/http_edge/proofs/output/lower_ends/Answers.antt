use Rattle.std.proofs.Common.{◌≡◌, ◌≤◌, ◌<◌, ◌-◌, ℕ, length, map, refl, sym, ap, ◌∙◌, arith}
use Rattle.http_edge.proofs.Names.{take_all}
use Rattle.http_edge.proofs.Ends.{lowered_more}
use Rattle.http_edge.proofs.output.lower_ends.Goals as goal

pub loop-i-init : goal.loop-i-init
loop-i-init c = record { long = refl; done = refl; rest = refl }

pub loop-i-preserved : goal.loop-i-preserved
loop-i-preserved c =
    let size = c.len-i-end.ensures in
    let test = c.loop-i-test.true in
    let within : c.loop-i.i < length c.args.ends.now.items = omega (arith, size, test) in
    lowered_more c.args.ends.now.items c.loop-i.ends.items c.loop-i.i c.args.n c.index.result.now c.saturating_sub.result c.loop-i.invariant within c.index.ensures c.saturating_sub.ensures

pub returns : goal.returns
returns c =
    let before = c.loop-i.invariant in
    let long = before.long in
    let size = c.len-i-end.ensures in
    let test = c.loop-i-test.false in
    let all : length c.args.ends.now.items ≤ c.loop-i.i = omega (arith, size, test) in
    let same : length c.loop-i.ends.items ≤ c.loop-i.i = omega (arith, long, all) in
    sym (take_all _ _ same) ∙ before.done ∙ ap (map (λ (end : ℕ). end - c.args.n)) (take_all _ _ all)
