use Rattle.std.proofs.Common.{◌∙◌}
use Rattle.known_bits.proofs.Names.{IsSingle, HasBits}
use Rattle.known_bits.proofs.Agreeing.{agrees_self, member_of_single}
use Rattle.known_bits.proofs.domain.KnownBitsDomain.exact.Goals as goal

pub returns : goal.returns
returns c =
    let alone : IsSingle HasBits c.new.result c.args.n = λ x. (λ h. member_of_single c.new.result x c.new.ensures.mask h ∙ c.new.ensures.value, λ e. rw (e, ← c.new.ensures.value) (agrees_self c.new.result)) in
    record { alone = alone; single = alone }
