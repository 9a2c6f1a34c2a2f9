use Rattle.known_bits.proofs.Agreeing.{no_member_of_both, meet_has}
use Rattle.known_bits.proofs.bits.KnownBits.meet.Goals as goal

pub returns-then-differs-eq0 : goal.returns-then-differs-eq0
returns-then-differs-eq0 c x = meet_has c.args.a c.args.b c.new.result x c.if-differs-eq0.true c.new.ensures.value c.new.ensures.mask

pub returns-else-differs-eq0 : goal.returns-else-differs-eq0
returns-else-differs-eq0 c x ha hb = c.if-differs-eq0.false (no_member_of_both c.args.a c.args.b x ha hb)
