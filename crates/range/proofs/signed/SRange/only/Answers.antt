use Rattle.std.proofs.Common.{Some, refl, ap, arith}
use Rattle.range.proofs.Names.{W64, signed_place}
use Rattle.range.proofs.Places.{placed_ends, reached_signed}
use Rattle.range.proofs.signed.SRange.only.Goals as goal

pub returns-then-least-greatest-clause-single : goal.returns-then-least-greatest-clause-single
returns-then-least-greatest-clause-single c x one =
    let places = c.args.self.places in
    let ends = (placed_ends (signed_place W64) places x (reached_signed W64 places (omega arith)) places.ordered one).0 in
    let word = ((one x).1 refl).word in
    ap Some (omega arith)

pub returns-else-least-greatest-clause-single : goal.returns-else-least-greatest-clause-single
returns-else-least-greatest-clause-single c x one =
    let places = c.args.self.places in
    let ends = placed_ends (signed_place W64) places x (reached_signed W64 places (omega arith)) places.ordered one in
    absurd (omega arith)
