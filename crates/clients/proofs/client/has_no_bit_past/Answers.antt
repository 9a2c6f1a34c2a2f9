use Rattle.std.proofs.Common.{◌^◌, ◌≤◌, arith}
use Rattle.std.proofs.Math.Pow.{pow_mono}
use Rattle.std.proofs.lemmas.Bool.{leb-true}
use Rattle.clients.proofs.client.has_no_bit_past.Goals as goal

pub returns-then-count-ge-MOST_SCOPES : goal.returns-then-count-ge-MOST_SCOPES
returns-then-count-ge-MOST_SCOPES c = λ yes.
    let most : 2 ^ 64 ≤ 2 ^ c.args.count = pow_mono (leb-true 64 c.args.count yes) in
    omega (arith, most)
