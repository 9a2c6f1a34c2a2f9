use Rattle.std.proofs.Common.{◌≡◌, ◌<◌, ◌≤◌, length, arith, inl, refl}
use Rattle.http_edge.proofs.Ends.{least_more}
use Rattle.http_edge.proofs.output.Output.left_of_reply.Goals as goal

pub loop-i-init : goal.loop-i-init
loop-i-init c = record { is_end = inl c.len-least.ensures; within = (let size = c.len-least.ensures in omega (arith, size)); next = λ k d less. absurd (omega (arith, less)) }

pub loop-i-preserved : goal.loop-i-preserved
loop-i-preserved c =
    let size = c.len-i-end.ensures in
    let test = c.loop-i-test.true in
    let within : c.loop-i.i < length c.args.self.now.ends.items = omega (arith, size, test) in
    least_more _ c.args.self.now.ends.items c.loop-i.i c.loop-i.least c.index.result.now c.min-least.result c.loop-i.invariant within c.index.ensures c.min-least.ensures

pub returns-clause-is_end : goal.returns-clause-is_end
returns-clause-is_end c = c.loop-i.invariant.is_end

pub returns-clause-within : goal.returns-clause-within
returns-clause-within c = c.loop-i.invariant.within

pub returns-clause-next : goal.returns-clause-next
returns-clause-next c = λ k d less.
    let size = c.len-i-end.ensures in
    let test = c.loop-i-test.false in
    c.loop-i.invariant.next k d (omega (arith, less, size, test))
