use Rattle.std.proofs.Common.{◌≡◌, ap}
use Rattle.known_bits.proofs.Names.{eq-eqb, Decides-eqb}
use Rattle.known_bits.proofs.Agreeing.{admitted, agrees_self, covered_has, own_mask}
use Rattle.known_bits.proofs.bits.KnownBits.covers.Goals as goal

pub returns-then-other-self-eq0-clause-members : goal.returns-then-other-self-eq0-clause-members
returns-then-other-self-eq0-clause-members c same x h =
    let a = c.args.self in
    covered_has a c.args.other x c.if-other-self-eq0.true ((Decides-eqb _ a.value).0 same) h

pub returns-then-other-self-eq0-clause-itself : goal.returns-then-other-self-eq0-clause-itself
returns-then-other-self-eq0-clause-itself c e =
    let a = c.args.self in
    let value : c.args.other.value ≡ a.value = ap (λ b. b.value) e in
    eq-eqb _ a.value (rw value ((admitted a a.value a.fits).1 (agrees_self a)))

pub returns-else-other-self-eq0-clause-itself : goal.returns-else-other-self-eq0-clause-itself
returns-else-other-self-eq0-clause-itself c e =
    let a = c.args.self in
    let mask : c.args.other.mask ≡ a.mask = ap (λ b. b.mask) e in
    eq-eqb _ 0 (rw mask (own_mask a.mask a.mask_fits))
