use Rattle.std.proofs.Common.{arith, ◌*◌, ◌%◌, ◌^◌}
use Rattle.known_bits.proofs.Moving.{moved_apart, moved_agrees, up_moves}
use Rattle.known_bits.proofs.bits.KnownBits.raised.Goals as goal

pub new-requires : goal.new-requires
new-requires c = moved_apart (λ n. (n * 2 ^ c.args.k) % 2 ^ 64) c.args.self (up_moves 64 c.args.k (omega arith))

pub returns : goal.returns
returns c x h = rw (c.new.ensures.value, c.new.ensures.mask) (moved_agrees (λ n. (n * 2 ^ c.args.k) % 2 ^ 64) c.args.self x (up_moves 64 c.args.k (omega arith)) h)
