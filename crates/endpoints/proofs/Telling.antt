-- What was decided is what the points come to.
use Rattle.std.proofs.Common.{◌≡◌, ◌∙◌, ◌+◌, ap, cond, sym, subst, refl, ℕ, List, [], ◌∷◌, Bool, true, false, Option, None, Some, arith}
use Rattle.endpoints.specs.Names.{scope_text, TokenKind}
use Rattle.endpoints.proofs.Names.{eq-eqb, eqb-true, eqb-false, ne_eqb, not-true, not-false, RegistryRecord, Event, Grant, has_consent_room}
use Rattle.endpoints.proofs.Names.{where_good, Kind, Code, Token, consent_body, plain, Active, Inactive, InvalidGrant, Halts, Outcome, bare, need, only, point, refuse, unavailable, id_of}
use Rattle.endpoints.proofs.Names.{Setting, Halt, consent_given, introspect, told_of, live_of, with_presented, Presented, revoke_token, revoked, Asked}
use Rattle.std.specs.Prelude.{◌==◌, length, not, option_map}
use Rattle.clients.specs.Owners.{sub_of}
use Rattle.consent.specs.History.Change.{Consented}
use Rattle.consent.specs.History.{consents_of, families_of}
use Rattle.endpoints.proofs.Names.{grant_at, is_code, where_passes}
use Rattle.answers.specs.declared.answer.Answer.TheVariants.{Ended}
use Rattle.endpoints.proofs.Besides.{withdrawn_are}
use Rattle.endpoints.proofs.Names.{Left, outcome_told, owner_ended}

-- the points are others that end so
pub halts_by : (halt : Halt) (points same : Outcome) → points ≡ same → Halts halt same → Halts halt points
halts_by halt points same e halts = subst (λ p. Halts halt p) (sym e) halts

-- CONSENTS

pub no_consent_room : (s : Setting) (owner client mask : ℕ) → has_consent_room s.rules.limits.consents s.history owner client mask ≡ false →
    consent_given s owner client mask ≡ unavailable
no_consent_room s owner client mask full = rw full refl

pub consent_room : (s : Setting) (owner client mask : ℕ) → has_consent_room s.rules.limits.consents s.history owner client mask ≡ true →
    consent_given s owner client mask
    ≡ record { reply = plain 200 (consent_body (scope_text s.rules.scopes mask)); changes = Consented owner client mask ∷ [] }
consent_room s owner client mask room = rw room refl

-- OWNERS WHO LEAVE

pub ended_told : (s : Setting) (owner families consents clients : ℕ) → clients ≡ length s.rules.clients →
    families ≡ families_of s.history owner s.moment → consents ≡ consents_of s.history owner clients →
    outcome_told s (record { answer = Ended families consents; changes = Left owner clients }) ≡ owner_ended s owner
ended_told s owner families consents clients few counted withdrawn = rw (withdrawn_are owner clients, counted, withdrawn, few) refl

-- LIVE TOKENS

-- what is good is there
pub good : (history : List Event) (digest : List ℕ) (m : ℕ) (at : Option Grant) (g : Grant) →
    where_good history digest m at ≡ Some g → at ≡ Some g
good history digest m at g is = grind (arith, is)

-- what is done of the live token, if there is one
abbrev pub revoked_by : ℕ → Option Grant → Outcome
revoked_by number live = need live (bare 200) (λ token. point (not (token.client == number)) (refuse InvalidGrant) (revoked token))

pub own_revoked : (number : ℕ) (g : Grant) → g.client ≡ number → revoked_by number (Some g) ≡ revoked g
own_revoked number g same = rw (eq-eqb g.client number same) refl

pub other_refused : (number : ℕ) (g : Grant) → (g.client ≡ number → ⊥) → revoked_by number (Some g) ≡ refuse InvalidGrant
other_refused number g other = rw (ne_eqb g.client number other) refl

-- what is told of the live token, if there is one
abbrev pub told_by_live : RegistryRecord → Option Grant → Outcome
told_by_live rules live = need live (only (plain 200 Inactive)) (λ token. only (plain 200 (told_of rules token token.kind)))

pub active_told : (rules : RegistryRecord) (g : Grant) (kind : TokenKind) (issued expires : ℕ) → g.kind ≡ Token kind → issued ≡ g.moment → expires ≡ g.moment + g.life →
    told_by_live rules (Some g)
    ≡ only (plain 200 (Active (id_of rules g.client) expires issued (scope_text rules.scopes g.scope) (sub_of g.owner rules) kind))
active_told rules g kind issued expires is_kind is_issued is_expires = rw (is_kind, is_issued, is_expires) refl

no_token : (k : Kind) → ((t : TokenKind) → k ≡ Token t → ⊥) → k ≡ Code
no_token k other = grind (arith, other)

pub code_told : (rules : RegistryRecord) (g : Grant) → ((t : TokenKind) → g.kind ≡ Token t → ⊥) → told_by_live rules (Some g) ≡ only (plain 200 Inactive)
code_told rules g other = rw (no_token g.kind other) refl

pub differs : (b : Bool) (n k : ℕ) → b ≡ not (n == k) → b ≡ true → n ≡ k → ⊥
differs b n k is true_is = eqb-false n k (not-true (n == k) (sym is ∙ true_is))

pub agrees : (b : Bool) (n k : ℕ) → b ≡ not (n == k) → b ≡ false → n ≡ k
agrees b n k is false_is = eqb-true n k (not-false (n == k) (sym is ∙ false_is))

-- WHAT WAS PRESENTED

module _ (s : Setting) (asked : Asked) (number : ℕ) (digest : Option (List ℕ)) (live : Option Grant) where
  abbrev LeadsOn : Type 0
  LeadsOn = (next : Presented → Outcome) → with_presented s.rules asked next ≡ next (record { client = number; digest = digest })

  pub introspected : LeadsOn → live_of s.history s.moment digest ≡ live → introspect s asked ≡ told_by_live s.rules live
  introspected leads is = leads (λ p. told_by_live s.rules (live_of s.history s.moment p.digest)) ∙ ap (told_by_live s.rules) is

  pub revoked_as : LeadsOn → live_of s.history s.moment digest ≡ live → revoke_token s asked ≡ revoked_by number live
  revoked_as leads is = leads (λ p. revoked_by p.client (live_of s.history s.moment p.digest)) ∙ ap (revoked_by number) is
