use Rattle.std.proofs.Common.{arith}
use Rattle.std.proofs.lemmas.Bool.Decides.{nat_tests}
use Rattle.known_bits.proofs.Agreeing.{admitted}
use Rattle.known_bits.proofs.domain.KnownBitsDomain.has.Goals as goal

pub returns : goal.returns
returns c =
    let both = admitted c.args.self c.args.n (omega arith) in
    (λ t. both.0 (grind (arith, nat_tests)), λ h. let e = both.1 h in grind (arith, nat_tests))
