use Rattle.std.proofs.Common.{◌≡◌, sym, ap, refl, ◌∙◌}
use Rattle.known_bits.proofs.Names.{Decides-not, seen, word_holds}
use Rattle.std.specs.Cmp.{booleans_Decides}
use Rattle.known_bits.proofs.Agreeing.{member_of_single, single_value, no_mask}
use Rattle.known_bits.proofs.Results.{cut_has, no_left, no_right}
use Rattle.known_bits.proofs.Refining.{holds_of_seen, seen_zero}
use Rattle.known_bits.proofs.bits.KnownBits.excludes.Goals as goal

pub returns-then-left-right-eq0-clause-sound : goal.returns-then-left-right-eq0-clause-sound
returns-then-left-right-eq0-clause-sound c differs x y hx hy taken =
    let seen_left = cut_has c.args.width c.args.a c.in_width-left.result x c.in_width-left.ensures.value c.in_width-left.ensures.mask hx in
    let seen_right = cut_has c.args.width c.args.b c.in_width-right.result y c.in_width-right.ensures.value c.in_width-right.ensures.mask hy in
    let one = member_of_single c.in_width-left.result (seen c.args.width x) (no_left _ _ c.if-left-right-eq0.true) seen_left in
    let other = member_of_single c.in_width-right.result (seen c.args.width y) (no_right _ _ c.if-left-right-eq0.true) seen_right in
    let same : c.holds.result ≡ c.args.taken = rw (← one, ← other, holds_of_seen c.args.width c.args.cond x y, taken) at c.holds.ensures in
    (Decides-not _ (booleans_Decides c.holds.result c.args.taken)).0 differs same

pub returns-then-left-right-eq0-clause-single : goal.returns-then-left-right-eq0-clause-single
returns-then-left-right-eq0-clause-single c x y h =
    let held : c.holds.result ≡ word_holds c.args.width c.args.cond x y =
    (rw (c.in_width-left.ensures.value, c.in_width-right.ensures.value, single_value c.args.a x h.left, single_value c.args.b y h.right) at c.holds.ensures)
    ∙ holds_of_seen c.args.width c.args.cond x y in
    (Decides-not _ (booleans_Decides c.holds.result c.args.taken)).1 (λ e. h.other (sym held ∙ e))

pub returns-else-left-right-eq0-clause-single : goal.returns-else-left-right-eq0-clause-single
returns-else-left-right-eq0-clause-single c x y h =
    let none_left : c.in_width-left.result.mask ≡ 0 = c.in_width-left.ensures.mask ∙ ap (seen c.args.width) (no_mask c.args.a x h.left) ∙ seen_zero c.args.width in
    let none_right : c.in_width-right.result.mask ≡ 0 = c.in_width-right.ensures.mask ∙ ap (seen c.args.width) (no_mask c.args.b y h.right) ∙ seen_zero c.args.width in
    absurd (c.if-left-right-eq0.false (rw (none_left, none_right) refl))
