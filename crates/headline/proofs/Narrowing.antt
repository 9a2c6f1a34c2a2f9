-- Tokens with hooks and without.
use Rattle.std.proofs.Common.{◌≡◌, ℕ, List, true, refl, sym, ap, ◌∙◌, arith, subst}
use Rattle.headline.proofs.Names.{codes, not, bit_and, eq-eqb, RegistryRecord, Grant, is_within, is_within-self, Ask, IsNarrowing, met_with_narrows, Asked, Extent, Outcome, bare, Setting, own_ask}
use Rattle.headline.proofs.Names.{issue_token, Occasion, outcome_of, setting_on, without_hooks, IsNarrowed, WidensNothing}
use Rattle.std.specs.Prelude.{bytes_eq}
use Rattle.consent.specs.History.{Event}
use Rattle.endpoints.proofs.Walking.{both_chosen, both_point, other}
use Rattle.headline.proofs.Exchanged.{at_path}
use Rattle.endpoints.proofs.Ways.{IsLeft, TokenWay, Once, Twice, Refreshed, Own, at_token, beside, both_issued, code_ask, one_issued, open_to_all, own_issued, refresh_ask, token_outcome, whole}

module _ (s : Setting) where
  module _ (ask : Ask) (left : Extent) (is : IsLeft s ask left) where
    some : IsNarrowing ask left.scope left.life
    some = met_with_narrows ask (s.host.answer ask) left.scope left.life is

    within : is_within left.scope ask.scope ≡ true
    within = eq-eqb (bit_and left.scope ask.scope) left.scope some.within

    one_token : (g : Grant) → IsNarrowed s.rules (one_issued s g left) (one_issued s g (whole ask))
    one_token g = record {
      granted = refl;
      told = (refl, refl, some.no_longer, left.scope, ask.scope, refl, refl, within);
      given = (refl, refl, refl);
      parts = ((refl, within, some.no_longer), (refl, tt));
    }

    both_tokens : (g : Grant) (kept most : ℕ) → is_within kept most ≡ true → IsNarrowed s.rules (both_issued s g left kept) (both_issued s g (whole ask) most)
    both_tokens g kept most more = record {
      granted = refl;
      told = (refl, refl, some.no_longer, left.scope, ask.scope, refl, refl, within);
      given = (refl, refl, refl);
      parts = ((refl, within, some.no_longer), ((refl, more, omega arith), (refl, tt)));
    }

    own_token : (family number : ℕ) → IsNarrowed s.rules (own_issued s family number left) (own_issued s family number (whole ask))
    own_token family number = record {
      granted = refl;
      told = (refl, refl, some.no_longer, left.scope, ask.scope, refl, refl, within);
      given = (refl, refl, refl);
      parts = ((refl, within, some.no_longer), tt);
    }

  -- where the one is granted
  abbrev Narrows : Outcome → Outcome → Type 0
  Narrows o p = o.reply.status ≡ 200 → IsNarrowed s.rules o p

  by_way : (asked : Asked) (way : TokenWay s asked) (p : Outcome) → Narrows (token_outcome way) (beside way p)
  by_way asked (Once x left is untaken) p e = one_token (code_ask x) left is x.code.grant
  by_way asked (Twice x left is untaken) p e =
      both_tokens (code_ask x) left is x.code.grant left.scope x.code.grant.scope (within (code_ask x) left is)
  by_way asked (Refreshed x left is untaken) p e =
      both_tokens (refresh_ask x) left is x.token.grant x.token.grant.scope x.token.grant.scope (is_within-self x.token.grant.scope)
  by_way asked (Own sender typed scope left family new is untaken) p e = own_token (own_ask s sender.known scope) left is family sender.known.number
  by_way asked _ p e = absurd (grind (arith, e))

pub hooks_narrow : (rules : RegistryRecord) (history : List Event) (occasion : Occasion) → WidensNothing rules history occasion
hooks_narrow rules history occasion goes granted =
    let s = setting_on rules history occasion in
    let asked = occasion.arrival.asked in
    let there : outcome_of rules history occasion ≡ at_path rules history occasion (codes "/token") = ap (at_path rules history occasion) goes in
    let there' : outcome_of rules history (without_hooks occasion) ≡ at_path rules history (without_hooks occasion) (codes "/token") = ap (at_path rules history (without_hooks occasion)) goes in
    subst (λ (o : Outcome). IsNarrowed rules o (outcome_of rules history (without_hooks occasion))) (sym there)
    (subst (λ (p : Outcome). IsNarrowed rules (at_path rules history occasion (codes "/token")) p) (sym there')
    (both_point (Narrows s) (not (bytes_eq asked.method (codes "POST"))) (bare 405) _ _ (λ _ e. absurd (other 405 200 refl e)) (λ _.
    both_chosen (Narrows s) occasion.refused (issue_token s asked) (issue_token (open_to_all s) asked) (λ e. absurd (other 503 200 refl e))
    (at_token (Narrows s) s asked (by_way s asked))) (ap (λ (o : Outcome). o.reply.status) (sym there) ∙ granted)))
