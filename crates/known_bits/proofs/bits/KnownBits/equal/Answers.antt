use Rattle.std.proofs.Common.{sym}
use Rattle.known_bits.proofs.Names.{Decides-eqb, seen}
use Rattle.known_bits.proofs.bits.KnownBits.equal.Goals as goal

pub returns-in_err-left-clause-kept : goal.returns-in_err-left-clause-kept
returns-in_err-left-clause-kept c = rw c.from_residual.ensures (λ x y hx hy taken.
    c.in_err-left.ensures x hx (c.seen_alike.ensures.alike y x hx.word hy (sym ((Decides-eqb (seen c.args.width x) (seen c.args.width y)).0 taken))))

pub returns-in_err-right-clause-kept : goal.returns-in_err-right-clause-kept
returns-in_err-right-clause-kept c = rw c.from_residual-in_err-right.ensures (λ x y hx hy taken.
    c.in_err-right.ensures y hy (c.seen_alike-2.ensures.alike x y hy.word hx ((Decides-eqb (seen c.args.width x) (seen c.args.width y)).0 taken)))

pub returns : goal.returns
returns c = record {
  kept = λ x y hx hy taken.
      let same = (Decides-eqb (seen c.args.width x) (seen c.args.width y)).0 taken in
      ((c.in_ok-left.ensures x).1 (hx, c.seen_alike.ensures.alike y x hx.word hy (sym same)), (c.in_ok-right.ensures y).1 (hy, c.seen_alike-2.ensures.alike x y hy.word hx same));
  within = (λ x h. ((c.in_ok-left.ensures x).0 h).0, λ y h. ((c.in_ok-right.ensures y).0 h).0);
  tight = record {
    left = λ x h. let both = (c.in_ok-left.ensures x).0 h in (both.0, c.seen_alike.ensures.partner x both.1);
    right = λ y h. let both = (c.in_ok-right.ensures y).0 h in (both.0, c.seen_alike-2.ensures.partner y both.1);
  };
}
