-- Where the host denies what it is asked, the request for tokens is refused.
use Rattle.std.proofs.Common.{◌≡◌, Bool, true, false, Option, Some, None, refl, sym, ◌∙◌}
use Rattle.std.proofs.lemmas.Option.{same_Some}
use Rattle.std.specs.Prelude.{not, codes, bytes_eq}
use Rattle.hook_record.specs.declared.Kind.TheVariants as kind
use Rattle.hook_record.specs.declared.Narrowed.TheVariants.{Denied}
use Rattle.token_endpoint.specs.Names.{value_sent, grant_named, GrantType, AuthorizationCode, RefreshToken, ClientCredentials, is_spent, has_ended, Ask, Code, proves, Parameters, KnownClient}
use Rattle.token_endpoint.specs.Names.{InvalidGrant, UnauthorizedClient, Extent, Outcome, point, need, refuse, unless_denied, scope_within, Setting, digest_told, code_of_client, refresh_of_client}
use Rattle.token_endpoint.specs.AskLaws.{by_type, unusable}
use Rattle.token_endpoint.specs.Asks.{IsRefusal, given, unless, exchange_ask, refresh_ask, credentials_ask, ask_by_grant, token_ask}
use Rattle.token_endpoint.specs.ClientCredentials.{client_credentials, own_ask}
use Rattle.token_endpoint.specs.Exchange.{exchange, spent_in_vain}
use Rattle.token_endpoint.specs.Grants.{ask_for, left_by_host}
use Rattle.token_endpoint.specs.Parts.{token_points}
use Rattle.token_endpoint.specs.Refresh.{refresh}
use Rattle.token_endpoint.specs.TokenPath.{grant_points}

module _ (ask : Ask) where
  -- where that is asked, it is refused
  abbrev Refuses : Option Ask → Outcome → Type 0
  Refuses o outcome = o ≡ Some ask → IsRefusal outcome

  none_asked : None ≡ Some ask → ⊥
  none_asked is = absurd (cc)

  need_refused : {A : Type 0} (o : Option A) (without : Outcome) (f : A → Outcome) (asks : A → Option Ask) →
      ((x : A) → Refuses (asks x) (f x)) → Refuses (given o asks) (need o without f)
  need_refused None without f asks each is = absurd (none_asked is)
  need_refused (Some x) without f asks each is = each x is

  point_refused : (b : Bool) (here later : Outcome) (asks : Option Ask) → Refuses asks later → Refuses (unless b asks) (point b here later)
  point_refused true here later asks each is = absurd (none_asked is)
  point_refused false here later asks each is = each is

module _ (s : Setting) (params : Parameters) (known : KnownClient) (ask : Ask) (denied : left_by_host s ask ≡ Denied) where
  denied_here : (other : Ask) (here empty : Outcome) (later : Extent → Outcome) → IsRefusal here →
      Refuses ask (Some other) (unless_denied (left_by_host s other) here empty later)
  denied_here other here empty later refusal is = rw (same_Some other ask is, denied) refusal

  exchange_refused : Refuses ask (exchange_ask s params known) (exchange s params known)
  exchange_refused =
      need_refused ask (value_sent (codes "code") params) _ _ _ (λ text.
      need_refused ask (value_sent (codes "redirect_uri") params) _ _ _ (λ uri.
      need_refused ask (value_sent (codes "code_verifier") params) _ _ _ (λ verifier.
      need_refused ask (digest_told text) _ _ _ (λ digest.
      need_refused ask (code_of_client s.history s.moment known.number digest) _ _ _ (λ code.
      point_refused ask (is_spent s.history digest s.moment) _ _ _
      (point_refused ask (has_ended s.history code.family) _ _ _
      (point_refused ask (not (bytes_eq uri code.redirect)) _ _ _
      (point_refused ask (not (proves verifier code.challenge)) _ _ _
      (denied_here (ask_for s known Code code.owner code.scope) (spent_in_vain code InvalidGrant) _ _ (InvalidGrant, refl))))))))))

  refresh_refused : Refuses ask (refresh_ask s params known) (refresh s params known)
  refresh_refused =
      need_refused ask (value_sent (codes "refresh_token") params) _ _ _ (λ text.
      need_refused ask (digest_told text) _ _ _ (λ digest.
      need_refused ask (refresh_of_client s.history s.moment known.number digest) _ _ _ (λ token.
      point_refused ask (is_spent s.history digest s.moment) _ _ _
      (point_refused ask (has_ended s.history token.family) _ _ _
      (need_refused ask (scope_within s.rules token.scope params) _ _ _ (λ scope.
      denied_here (ask_for s known kind.Refresh token.owner scope) (refuse InvalidGrant) _ _ (InvalidGrant, refl)))))))

  credentials_refused : Refuses ask (credentials_ask s params known) (client_credentials s params known)
  credentials_refused =
      need_refused ask (scope_within s.rules known.client.allowed params) _ _ _ (λ scope.
      denied_here (own_ask s known scope) (refuse UnauthorizedClient) _ _ (UnauthorizedClient, refl))

  grant_refused : (grant : GrantType) → Refuses ask (ask_by_grant grant s params known) (grant_points grant s params known)
  grant_refused AuthorizationCode = exchange_refused
  grant_refused RefreshToken = refresh_refused
  grant_refused ClientCredentials = credentials_refused

  by_grant_type : Refuses ask (token_ask s params known) (token_points s params known)
  by_grant_type is =
      need_refused ask (value_sent (codes "grant_type") params) _ _ _ (λ name.
      need_refused ask (grant_named name) _ _ _ (λ grant.
      point_refused ask (unusable known grant) _ _ _ (grant_refused grant)))
      (sym (by_type s params known (value_sent (codes "grant_type") params)) ∙ is)

-- whoever is denied by the host is refused
pub denied_refused : (s : Setting) (params : Parameters) (known : KnownClient) (ask : Ask) → token_ask s params known ≡ Some ask →
    left_by_host s ask ≡ Denied → IsRefusal (token_points s params known)
denied_refused s params known ask is denied = by_grant_type s params known ask denied is
