-- What comes of a request for tokens depends on the host by its answer to one ask.
use Rattle.std.proofs.Common.{◌≡◌, List, Bool, true, false, Option, Some, None, refl, ap, ◌∙◌, ℕ}
use Rattle.std.specs.Prelude.{not, codes, bytes_eq}
use Rattle.hook_record.specs.declared.Kind.TheVariants as kind
use Rattle.token_endpoint.specs.Names.{value_sent, grant_named, has_grant, GrantType, AuthorizationCode, RefreshToken, ClientCredentials, is_spent, has_ended, Grant, Ask, Narrowed, Code, proves, Parameters, KnownClient}
use Rattle.token_endpoint.specs.Names.{InvalidRequest, InvalidGrant, InvalidScope, UnauthorizedClient, UnsupportedGrantType, Extent, Outcome, point, need, refuse, unless_denied, scope_within, Setting, digest_told, code_of_client, refresh_of_client}
use Rattle.token_endpoint.specs.Asks.{given, unless, exchange_ask, refresh_ask, credentials_ask, ask_by_grant, token_ask, answered_by}
use Rattle.token_endpoint.specs.ClientCredentials.{client_credentials, granted, own_ask}
use Rattle.token_endpoint.specs.Exchange.{ends_family, exchange, exchanged, spent_in_vain}
use Rattle.token_endpoint.specs.Grants.{ask_for, both_for, left_by_host}
use Rattle.token_endpoint.specs.Parts.{token_points}
use Rattle.token_endpoint.specs.Refresh.{refresh}
use Rattle.token_endpoint.specs.TokenPath.{grant_points}

-- so it is of each ask that is put
abbrev Puts : Option Ask → (Ask → Type 0) → Type 0
Puts o fact = (ask : Ask) → o ≡ Some ask → fact ask

module _ (fact : Ask → Type 0) where
  need_same : {A : Type 0} (o : Option A) (without : Outcome) (f g : A → Outcome) (asks : A → Option Ask) →
      ((x : A) → Puts (asks x) fact → f x ≡ g x) → Puts (given o asks) fact → need o without f ≡ need o without g
  need_same None without f g asks each put = refl
  need_same (Some x) without f g asks each put = each x put

  point_same : (b : Bool) (here one other : Outcome) (asks : Option Ask) →
      (Puts asks fact → one ≡ other) → Puts (unless b asks) fact → point b here one ≡ point b here other
  point_same true here one other asks each put = refl
  point_same false here one other asks each put = each put

-- the grant type is looked at before
abbrev pub unusable : KnownClient → GrantType → Bool
unusable known grant = not (has_grant grant known.client.grants)

module _ (s : Setting) (params : Parameters) (known : KnownClient) where
  by_test : (b : Bool) (grant : GrantType) → given (unless b (Some grant)) (λ grant. ask_by_grant grant s params known) ≡ unless b (ask_by_grant grant s params known)
  by_test true grant = refl
  by_test false grant = refl

  by_name : (o : Option GrantType) →
      given (given o (λ grant. unless (unusable known grant) (Some grant))) (λ grant. ask_by_grant grant s params known)
      ≡ given o (λ grant. unless (unusable known grant) (ask_by_grant grant s params known))
  by_name None = refl
  by_name (Some grant) = by_test (unusable known grant) grant

  pub by_type : (o : Option (List ℕ)) →
      given (given o (λ name. given (grant_named name) (λ grant. unless (unusable known grant) (Some grant)))) (λ grant. ask_by_grant grant s params known)
      ≡ given o (λ name. given (grant_named name) (λ grant. unless (unusable known grant) (ask_by_grant grant s params known)))
  by_type None = refl
  by_type (Some name) = by_name (grant_named name)

module _ (s : Setting) (answer : Ask → Narrowed) (params : Parameters) (known : KnownClient) where
  abbrev same_left : Ask → Type 0
  same_left ask = left_by_host s ask ≡ left_by_host (answered_by s answer) ask

  exchange_same : Puts (exchange_ask s params known) same_left → exchange s params known ≡ exchange (answered_by s answer) params known
  exchange_same =
      need_same same_left (value_sent (codes "code") params) _ _ _ _ (λ text.
      need_same same_left (value_sent (codes "redirect_uri") params) _ _ _ _ (λ uri.
      need_same same_left (value_sent (codes "code_verifier") params) _ _ _ _ (λ verifier.
      need_same same_left (digest_told text) _ _ _ _ (λ digest.
      need_same same_left (code_of_client s.history s.moment known.number digest) _ _ _ _ (λ code.
      point_same same_left (is_spent s.history digest s.moment) _ _ _ _
      (point_same same_left (has_ended s.history code.family) _ _ _ _
      (point_same same_left (not (bytes_eq uri code.redirect)) _ _ _ _
      (point_same same_left (not (proves verifier code.challenge)) _ _ _ _
      (λ put. ap (λ left. unless_denied left (spent_in_vain code InvalidGrant) (spent_in_vain code InvalidScope) (λ left. exchanged s known.client code left))
      (put (ask_for s known Code code.owner code.scope) refl))))))))))

  refresh_same : Puts (refresh_ask s params known) same_left → refresh s params known ≡ refresh (answered_by s answer) params known
  refresh_same =
      need_same same_left (value_sent (codes "refresh_token") params) _ _ _ _ (λ text.
      need_same same_left (digest_told text) _ _ _ _ (λ digest.
      need_same same_left (refresh_of_client s.history s.moment known.number digest) _ _ _ _ (λ token.
      point_same same_left (is_spent s.history digest s.moment) _ _ _ _
      (point_same same_left (has_ended s.history token.family) _ _ _ _
      (need_same same_left (scope_within s.rules token.scope params) _ _ _ _ (λ scope put.
      ap (λ left. unless_denied left (refuse InvalidGrant) (refuse InvalidScope) (λ left. both_for s token left token.scope))
      (put (ask_for s known kind.Refresh token.owner scope) refl)))))))

  credentials_same : Puts (credentials_ask s params known) same_left → client_credentials s params known ≡ client_credentials (answered_by s answer) params known
  credentials_same =
      need_same same_left (scope_within s.rules known.client.allowed params) _ _ _ _ (λ scope put.
      ap (λ left. unless_denied left (refuse UnauthorizedClient) (refuse InvalidScope) (λ left. granted s known.number left))
      (put (own_ask s known scope) refl))

  grant_same : (grant : GrantType) → Puts (ask_by_grant grant s params known) same_left → grant_points grant s params known ≡ grant_points grant (answered_by s answer) params known
  grant_same AuthorizationCode = exchange_same
  grant_same RefreshToken = refresh_same
  grant_same ClientCredentials = credentials_same

  pub asked_alone : Puts (token_ask s params known) same_left → token_points s params known ≡ token_points (answered_by s answer) params known
  asked_alone put =
      need_same same_left (value_sent (codes "grant_type") params) _ _ _ _ (λ name.
      need_same same_left (grant_named name) _ _ _ _ (λ grant.
      point_same same_left (unusable known grant) _ _ _ _ (grant_same grant)))
      (λ ask is. put ask (by_type s params known (value_sent (codes "grant_type") params) ∙ is))
