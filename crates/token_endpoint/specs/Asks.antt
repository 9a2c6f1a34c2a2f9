-- What the host is asked for a request for tokens, where it is asked.
use Rattle.std.specs.Prelude.{◌≡◌, ℕ, List, Bool, true, false, not, Option, Some, None, option_map, codes, bytes_eq}
use Rattle.answers.specs.Outcomes.{Outcome, status_of}
use Rattle.hook_record.specs.declared.Kind.TheVariants as kind
use Rattle.messages.specs.Reply.{plain}
use Rattle.messages.specs.Reply.Body.{Failure}
use Rattle.messages.specs.declared.error.ErrorName.{ErrorName}
use Rattle.token_endpoint.specs.Names.{value_sent, grant_named, has_grant, GrantType, AuthorizationCode, RefreshToken, ClientCredentials, Grant, is_spent, has_ended, Ask, Narrowed, Code, proves, Parameters, KnownClient, ClientRecord, scope_within}
use Rattle.token_endpoint.specs.Names.{Setting, digest_told, code_of_client, refresh_of_client}
use Rattle.token_endpoint.specs.ClientCredentials.{own_ask}
use Rattle.token_endpoint.specs.Grants.{ask_for}

-- what the value leads to, if there is one
abbrev pub given : {A B : Type 0} → Option A → (A → Option B) → Option B
given None later = None
given (Some x) later = later x

-- nothing where it holds
abbrev pub unless : {A : Type 0} → Bool → Option A → Option A
unless true later = None
unless false later = later

-- by the points of an exchange, from the code's on
abbrev pub code_ask : Setting → KnownClient → List ℕ → List ℕ → List ℕ → Option Grant → Option Ask
code_ask setting known uri verifier digest code =
    given code (λ code.
    unless (is_spent setting.history digest setting.moment)
    (unless (has_ended setting.history code.family)
    (unless (not (bytes_eq uri code.redirect))
    (unless (not (proves verifier code.challenge))
    (Some (ask_for setting known Code code.owner code.scope))))))

-- and all of them
abbrev pub exchange_ask : Setting → Parameters → KnownClient → Option Ask
exchange_ask setting params known =
    given (value_sent (codes "code") params) (λ text.
    given (value_sent (codes "redirect_uri") params) (λ uri.
    given (value_sent (codes "code_verifier") params) (λ verifier.
    given (digest_told text) (λ digest.
    code_ask setting known uri verifier digest (code_of_client setting.history setting.moment known.number digest)))))

-- by those of a refresh
abbrev pub refresh_ask : Setting → Parameters → KnownClient → Option Ask
refresh_ask setting params known =
    given (value_sent (codes "refresh_token") params) (λ text.
    given (digest_told text) (λ digest.
    given (refresh_of_client setting.history setting.moment known.number digest) (λ token.
    unless (is_spent setting.history digest setting.moment)
    (unless (has_ended setting.history token.family)
    (given (scope_within setting.rules token.scope params) (λ scope.
    Some (ask_for setting known kind.Refresh token.owner scope)))))))

-- by those of a client's own grant
abbrev pub credentials_ask : Setting → Parameters → KnownClient → Option Ask
credentials_ask setting params known =
    given (scope_within setting.rules known.client.allowed params) (λ scope. Some (own_ask setting known scope))

-- the grant type that the parameters name, where the client may use it
abbrev pub grant_asked : Parameters → ClientRecord → Option GrantType
grant_asked params client =
    given (value_sent (codes "grant_type") params) (λ name.
    given (grant_named name) (λ grant.
    unless (not (has_grant grant client.grants)) (Some grant)))

abbrev pub ask_by_grant : GrantType → Setting → Parameters → KnownClient → Option Ask
ask_by_grant AuthorizationCode setting params known = exchange_ask setting params known
ask_by_grant RefreshToken setting params known = refresh_ask setting params known
ask_by_grant ClientCredentials setting params known = credentials_ask setting params known

-- what the host is asked for the client, where it is asked
abbrev pub token_ask : Setting → Parameters → KnownClient → Option Ask
token_ask setting params known = given (grant_asked params known.client) (λ grant. ask_by_grant grant setting params known)

-- WHAT IS PRESENTED

-- the family of a code or token, and its owner: 0 is none
pub record Lineage : Type 0 where
  pub family : ℕ
  pub owner : ℕ

abbrev pub lineage_of : Grant → Lineage
lineage_of g = record { family = g.family; owner = g.owner }

-- the client's own unexpired code or refresh token that the parameters present, spent or not
abbrev pub presented_for : GrantType → Setting → Parameters → ℕ → Option Grant
presented_for AuthorizationCode setting params client =
    given (value_sent (codes "code") params) (λ text. given (digest_told text) (code_of_client setting.history setting.moment client))
presented_for RefreshToken setting params client =
    given (value_sent (codes "refresh_token") params) (λ text. given (digest_told text) (refresh_of_client setting.history setting.moment client))
presented_for ClientCredentials setting params client = None

-- where it comes from
abbrev pub lineage_presented : GrantType → Setting → Parameters → ℕ → Option Lineage
lineage_presented grant setting params client = option_map lineage_of (presented_for grant setting params client)

-- the setting, where the host answers so
abbrev pub answered_by : Setting → (Ask → Narrowed) → Setting
answered_by s answer = record {
  rules = s.rules;
  history = s.history;
  host = record { answer = answer; names = s.host.names; fault = s.host.fault };
  moment = s.moment;
  draws = s.draws;
}

-- an error is answered
abbrev pub IsRefusal : Outcome → Type 0
IsRefusal outcome = (error : ErrorName) × (outcome.reply ≡ plain (status_of error) (Failure error))
