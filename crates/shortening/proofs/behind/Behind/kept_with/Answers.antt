use Rattle.std.proofs.Common.{◌∙◌, sym, ap, refl}
use Rattle.std.specs.Prelude.{bit_and, option_copied}
use Rattle.std.specs.Map.{lookup}
use Rattle.consent.specs.Consents.{is_parties}
use Rattle.shortening.proofs.Backwards.{within_some, within_none}
use Rattle.shortening.proofs.behind.Behind.kept_with.Goals as goal

pub returns-in-Some : goal.returns-in-Some
returns-in-Some c = λ s.
    let a = c.args in
    let kept = c.in-Some.kept.now in
    within_some s c.new.result a.mask kept (lookup (is_parties a.two.now) a.self.now.kept.entries)
    (c.new.ensures ∙ ap (λ x. bit_and x c.bits-in-Some.result) c.bits.ensures ∙ ap (bit_and kept) c.bits-in-Some.ensures)
    (sym c.get.ensures.value ∙ ap option_copied c.in-Some.is)

pub returns-in-None : goal.returns-in-None
returns-in-None c = λ s.
    let a = c.args in
    within_none s a.mask a.mask (lookup (is_parties a.two.now) a.self.now.kept.entries) refl (sym c.get.ensures.value ∙ ap option_copied c.in-None.is)
