use Rattle.std.proofs.Common.{◌≡◌, ◌∙◌, sym, ap, true}
use Rattle.std.specs.Prelude.{◌&&◌, not}
use Rattle.std.specs.List.{list_all}
use Rattle.std.specs.Map.{lookup}
use Rattle.consent.specs.Consents.{is_parties}
use Rattle.consent.specs.History.{code_terms, lives}
use Rattle.consent.specs.History.Change.{Consented}
use Rattle.shortening.specs.Known.{is_out_of, parties_of_terms}
use Rattle.shortening.specs.Left.{is_superseded}
use Rattle.shortening.specs.Shortened.{is_lowered_later, unexpired}
use Rattle.shortening.proofs.Lowering.{none_is_lowered, same_two}
use Rattle.shortening.proofs.behind.Behind.is_consent_needless.Goals as goal

pub returns-then-contains : goal.returns-then-contains
returns-then-contains c = λ history later m moment known behind.
    let two = c.args.two.now in
    let entries = c.args.self.now.kept.entries in
    let over : is_superseded (lives history m) two.owner two.client later ≡ true = sym (behind.superseded two) ∙ (sym c.contains.ensures ∙ c.if-contains.true) in
    let none = none_is_lowered history later m two c.args.mask c.args.known.now.scopes.entries (lookup (is_parties two) entries) known.scopes
    (λ terms of. behind.lowered terms ∙ ap (λ p. is_out_of terms.scope (lookup (is_parties p) entries)) (sym (same_two two (parties_of_terms terms) of))) in
    ap not c.lowers_one.ensures ∙ none
    ∙ sym (ap (λ b. b && list_all (λ g. is_lowered_later (Consented two.owner two.client c.args.mask) later (code_terms history g.family)) (unexpired history m)) over)
