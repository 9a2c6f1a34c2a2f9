use Rattle.std.proofs.Common.{◌≡◌, ◌∙◌, sym, ap, Some}
use Rattle.std.specs.Prelude.{◌&&◌, not}
use Rattle.std.specs.List.{list_any}
use Rattle.std.specs.Map.{lookup}
use Rattle.consent.specs.Consents.{is_parties}
use Rattle.consent.specs.History.{is_within}
use Rattle.shortening.specs.Known.{is_out_of, scopes_of}
use Rattle.shortening.proofs.Lowering.{none_lowered}
use Rattle.shortening.proofs.behind.Behind.lowers_one.Goals as goal

pub returns : goal.returns
returns c =
    let a = c.args in
    let scopes = scopes_of a.known.now.scopes.entries a.two.now in
    let at : lookup (is_parties a.two.now) a.self.now.kept.entries ≡ Some c.in-Some.kept = sym (c.copied-kept.ensures ∙ c.get.ensures.value) ∙ c.in-Some.is in
    let none = none_lowered scopes c.in-Some.kept a.mask (sym c.is_within.ensures ∙ c.if-is_within.true) in
    sym (ap (λ o. list_any (λ s. not (is_within s a.mask) && not (is_out_of s o)) scopes) at ∙ none)
