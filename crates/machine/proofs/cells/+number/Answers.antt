use Rattle.std.proofs.Common.{◌<◌, ◌^◌, arith, rules}
use Rattle.machine.proofs.Numbers.{rest_fits, with_low}
use Rattle.machine.proofs.cells.+number.Goals as goal

pub overflow_mul-result : goal.overflow_mul-result
overflow_mul-result t c =
    let h : c.in_ok-high-in-Byte.high < 2 ^ 56 = rest_fits c.args.cells.now _ c.in-Byte.len_at_least c.requires c.in_ok-high-in-Byte.ensures.small in omega arith

pub overflow_add-result : goal.overflow_add-result
overflow_add-result t c =
    let h : c.in_ok-high-in-Byte.high < 2 ^ 56 = rest_fits c.args.cells.now _ c.in-Byte.len_at_least c.requires c.in_ok-high-in-Byte.ensures.small in
    let low : c.from.result < 256 = search rules in omega arith

pub returns-in_ok-high-in-Byte-clause-small : goal.returns-in_ok-high-in-Byte-clause-small
returns-in_ok-high-in-Byte-clause-small t c =
    let low : c.from.result < 256 = search rules in
    with_low c.args.cells.now _ _ c.in-Byte.len_at_least low c.in_ok-high-in-Byte.ensures.small
