-- What is granted.
use Rattle.std.proofs.Common.{◌≡◌, ℕ, ◌+◌, List, [], ◌∷◌, length, Bool, true, false, Option, Some, None, Ok, refl, ap}
use Rattle.std.specs.Prelude.{not, ◌&&◌, ◌==◌, nat_le, min, bit_and, codes, option_to_list, if◌then◌else◌}
use Rattle.std.specs.List.{list_all}
use Rattle.answers.specs.Outcomes as server
use Rattle.answers.specs.Quotas.{records_of}
use Rattle.answers.specs.Replies.{access_reply, both_reply}
use Rattle.answers.specs.Requesters.{Parameters, KnownClient, form_of, scope_within}
use Rattle.answers.specs.Setting.{Setting}
use Rattle.answers.specs.Texts.{digest_told, where_passes}
use Rattle.answers.specs.Tokens.{is_own, is_refresh}
use Rattle.clients.specs.Grants.{has_grant, grant_named}
use Rattle.clients.specs.declared.grant.GrantType.{GrantType}
use Rattle.clients.specs.declared.grant.GrantType.TheVariants.{AuthorizationCode, RefreshToken, ClientCredentials}
use Rattle.consent.specs.History as old
use Rattle.consent.specs.History.{Event, Grant, is_code, grants, has_client_room, next_family}
use Rattle.consent.specs.History.Change.{Spent}
use Rattle.consent.specs.declared.grant.Kind.{Kind}
use Rattle.hook_host.specs.Decisions.{met_with}
use Rattle.hook_record.specs.Narrowing.{left_of}
use Rattle.hook_record.specs.declared.Ask.{Ask}
use Rattle.hook_record.specs.declared.Kind.TheVariants as kind
use Rattle.hook_record.specs.declared.Narrowed.{Narrowed}
use Rattle.hook_record.specs.declared.Narrowed.TheVariants.{Denied, EmptyScope, Allowed}
use Rattle.messages.specs.Asked.{Asked}
use Rattle.messages.specs.declared.error.ErrorName.TheVariants.{InvalidRequest, InvalidGrant, InvalidScope, UnauthorizedClient, UnsupportedGrantType}
use Rattle.params.specs.Form.{value_sent}
use Rattle.pkce.specs.Proof.{proves}
use Rattle.std.specs.Str.{bytes_eq}
use Rattle.sha2.specs.Sha256.{sha256}
use Rattle.token_endpoint.specs.ClientCredentials.{own_ask}
use Rattle.token_endpoint.specs.Exchange.{ends_family, spent_in_vain}
use Rattle.token_endpoint.specs.Grants as from
use Rattle.token_endpoint.specs.TokenPath.{issue_token, grant_points}
use Rattle.registry_json.specs.Faults.{◌>>=◌}
use Rattle.endpoints.specs.Answer as page
use Rattle.endpoints.specs.Answer.{Outcome, need, check, ◌>>◌}
use Rattle.endpoints.specs.Answered.{on_page}
use Rattle.endpoints.proofs.AnswerPoints.{Ending, Ties, need_ties, check_ties, point_ties, need_in, point_in, passes_in}
use Rattle.endpoints.proofs.AnswerQuestions.{spent_agrees, ended_agrees, fresh_agrees}
use Rattle.endpoints.proofs.AnswerAsking.{authenticate_ties}

-- ROOM

room_agrees : (h : List Event) (client m : ℕ) (digests : List (List ℕ)) (most : Option ℕ) →
    list_all (nat_le (old.unexpired_of h client m + length digests)) (option_to_list most) ≡ not (not (has_client_room most h client m digests))
room_agrees h client m digests None = refl
room_agrees h client m digests (Some most) = by (nat_le (old.unexpired_of h client m + length digests) most) where
  by : (b : Bool) → b && true ≡ not (not b)
  by true = refl
  by false = refl

pub give_ties : (s : Setting) (request : Asked) (client : ℕ) (digests : List (List ℕ)) (outcome : Outcome) (given : server.Outcome) →
    outcome ≡ on_page given → Ties (page.give s request client digests outcome) (server.unless_taken s client digests given)
give_ties s request client digests outcome given same =
    check_ties (old.has_room s.rules.limits.records s.history s.moment digests) _ _ server.unavailable _ refl
    (point_ties _ (not (has_client_room (records_of s.rules client) s.history client s.moment digests)) _ _ server.unavailable _
    (room_agrees s.history client s.moment digests (records_of s.rules client)) refl
    (point_ties _ (old.is_taken s.history s.moment digests) _ _ server.unavailable given (fresh_agrees s.history s.moment digests) refl same))

-- WHAT THE HOOKS LEAVE

left_ties : (scope life : ℕ) (denied empty : Outcome) (next : ℕ × ℕ → Ending) (none few : server.Outcome) (later : server.Extent → server.Outcome) →
    denied ≡ on_page none → empty ≡ on_page few → Ties (next (scope, life)) (later (record { scope = scope; life = life })) →
    Ties ((check (not (scope == 0)) empty >> (check (not (life == 0)) denied >> Ok (scope, life))) >>= next)
    (server.unless_denied (left_of scope life) none few later)
left_ties scope life denied empty next none few later dry little goes = by (scope == 0) (life == 0) where
  by : (a b : Bool) → Ties ((check (not a) empty >> (check (not b) denied >> Ok (scope, life))) >>= next)
      (server.unless_denied (if a then EmptyScope else if b then Denied else Allowed scope life) none few later)
  by true b = little
  by false true = dry
  by false false = goes

allowed_ties : (ask : Ask) (answer : Narrowed) (denied empty : Outcome) (next : ℕ × ℕ → Ending) (none few : server.Outcome) (later : server.Extent → server.Outcome) →
    denied ≡ on_page none → empty ≡ on_page few → ((scope life : ℕ) → Ties (next (scope, life)) (later (record { scope = scope; life = life }))) →
    Ties (page.left_by ask answer denied empty >>= next) (server.unless_denied (met_with ask answer) none few later)
allowed_ties ask Denied denied empty next none few later dry little goes = dry
allowed_ties ask EmptyScope denied empty next none few later dry little goes = little
allowed_ties ask (Allowed scope life) denied empty next none few later dry little goes =
    left_ties (bit_and ask.scope scope) (min ask.life life) denied empty next none few later dry little (goes (bit_and ask.scope scope) (min ask.life life))

-- WHAT IS PRESENTED

abbrev server_presented : (Kind → Bool) → Setting → ℕ → List ℕ → Option Grant
server_presented is_kind s client digest = where_passes (is_own is_kind client) (old.grant_at s.history digest s.moment)

presented_ties : (s : Setting) (request : Asked) (is_kind : Kind → Bool) (known : KnownClient) (shown : List ℕ) (next : Grant → Ending) (later : Grant → server.Outcome) →
    ((g : Grant) → Ties (next g) (later g)) →
    Ties (page.presented s request is_kind known shown >>= next)
    (server.need (digest_told shown) (server.refuse InvalidGrant) (λ digest.
    server.need (server_presented is_kind s known.number digest) (server.refuse InvalidGrant) (λ g.
    server.point (old.is_spent s.history digest s.moment) (ends_family g)
    (server.point (old.has_ended s.history g.family) (server.refuse InvalidGrant) (later g)))))
presented_ties s request is_kind known shown next later goes =
    need_in {A = List ℕ} {B = Grant} (digest_told shown) _ _ next (server.refuse InvalidGrant) _ refl (λ digest told.
    passes_in {A = Grant} {B = Grant} (is_own is_kind known.number) (old.grant_at s.history digest s.moment) _ _ next (server.refuse InvalidGrant) _ refl (λ g.
    point_in {B = Grant} _ (old.is_spent s.history digest s.moment) _ _ next (ends_family g) _ (ap not (spent_agrees s.history s.moment digest)) refl
    (point_in {B = Grant} _ (old.has_ended s.history g.family) _ (Ok g) next (server.refuse InvalidGrant) _ (ap not (ended_agrees s.history g.family)) refl (goes g))))

both_ties : (a b : Bool) (out : Outcome) (next : Ending) (here later : server.Outcome) → out ≡ on_page here → Ties next later →
    Ties (check (a && b) out >> next) (server.point (not a) here (server.point (not b) here later))
both_ties true true out next here later ends goes = goes
both_ties true false out next here later ends goes = ends
both_ties false b out next here later ends goes = ends

-- THE GRANT TYPES

-- what comes of a code or refresh token that is used
abbrev alone : Setting → Grant → (scope life : ℕ) → server.Outcome
alone s used scope life = record {
  reply = access_reply s.rules s.draws.first scope life;
  changes = from.access_issued used s.draws.first (record { scope = scope; life = life }) ∷ Spent used.digest ∷ [];
}

abbrev with_refresh : Setting → Grant → (scope life kept : ℕ) → server.Outcome
with_refresh s used scope life kept = record {
  reply = both_reply s.rules s.draws scope life;
  changes = from.access_issued used s.draws.first (record { scope = scope; life = life })
      ∷ from.refresh_issued used s.draws.second (record { scope = kept; life = s.rules.refresh_life })
      ∷ Spent used.digest
      ∷ [];
}

exchanged_ties : (s : Setting) (request : Asked) (code : Grant) (scope life : ℕ) (b : Bool) →
    Ties (page.issue s request code.family (record { owner = code.owner; client = code.client }) (scope, life) (if b then Some scope else None) (Spent code.digest ∷ []))
    (if b then from.both_for s code (record { scope = scope; life = life }) scope else from.access_for s code (record { scope = scope; life = life }))
exchanged_ties s request code scope life true = give_ties s request code.client (from.both_digests s.draws) _ (with_refresh s code scope life scope) refl
exchanged_ties s request code scope life false = give_ties s request code.client (sha256 s.draws.first ∷ []) _ (alone s code scope life) refl

pub grant_ties : (type : GrantType) (s : Setting) (request : Asked) (params : Parameters) (known : KnownClient) →
    Ties (page.grant s request type params known) (grant_points type s params known)
grant_ties AuthorizationCode s request params known =
    need_ties {A = List ℕ} (value_sent (codes "code") params) _ _ (server.refuse InvalidRequest) _ refl (λ shown _.
    need_ties {A = List ℕ} (value_sent (codes "redirect_uri") params) _ _ (server.refuse InvalidRequest) _ refl (λ uri _.
    need_ties {A = List ℕ} (value_sent (codes "code_verifier") params) _ _ (server.refuse InvalidRequest) _ refl (λ verifier _.
    presented_ties s request is_code known shown _ _ (λ code.
    both_ties (bytes_eq uri code.redirect) (proves verifier code.challenge) _ _ (server.refuse InvalidGrant) _ refl
    (allowed_ties (from.ask_for s known kind.Code code.owner code.scope) (s.host.answer (from.ask_for s known kind.Code code.owner code.scope)) _ _ _ (spent_in_vain code InvalidGrant) (spent_in_vain code InvalidScope) _ refl refl (λ scope life.
    exchanged_ties s request code scope life (has_grant RefreshToken known.client.grants)))))))
grant_ties RefreshToken s request params known =
    need_ties {A = List ℕ} (value_sent (codes "refresh_token") params) _ _ (server.refuse InvalidRequest) _ refl (λ shown _.
    presented_ties s request is_refresh known shown _ _ (λ token.
    need_ties {A = ℕ} (scope_within s.rules token.scope params) _ _ (server.refuse InvalidScope) _ refl (λ scope _.
    allowed_ties (from.ask_for s known kind.Refresh token.owner scope) (s.host.answer (from.ask_for s known kind.Refresh token.owner scope)) _ _ _ (server.refuse InvalidGrant) (server.refuse InvalidScope) _ refl refl (λ scope' life.
    give_ties s request token.client (from.both_digests s.draws) _ (with_refresh s token scope' life token.scope) refl))))
grant_ties ClientCredentials s request params known =
    need_ties {A = ℕ} (scope_within s.rules known.client.allowed params) _ _ (server.refuse InvalidScope) _ refl (λ scope _.
    allowed_ties (own_ask s known scope) (s.host.answer (own_ask s known scope)) _ _ _ (server.refuse UnauthorizedClient) (server.refuse InvalidScope) _ refl refl (λ scope' life.
    need_ties {A = ℕ} (next_family s.history) _ _ server.unavailable _ refl (λ family _.
    give_ties s request known.number (sha256 s.draws.first ∷ []) _
    (record { reply = access_reply s.rules s.draws.first scope' life; changes = from.issued_alone s family known.number (record { scope = scope'; life = life }) ∷ [] }) refl)))

pub token_ties : (s : Setting) (request : Asked) → Ties (page.at_token s request) (issue_token s request)
token_ties s request =
    need_ties {A = Parameters} (form_of request) _ _ (server.refuse InvalidRequest) _ refl (λ params _.
    authenticate_ties s request params _ _ (λ known.
    need_ties {A = List ℕ} (value_sent (codes "grant_type") params) _ _ (server.refuse InvalidRequest) _ refl (λ name _.
    need_ties {A = GrantType} (grant_named name) _ _ (server.refuse UnsupportedGrantType) _ refl (λ type _.
    check_ties (has_grant type known.client.grants) _ _ (server.refuse UnauthorizedClient) _ refl (grant_ties type s request params known)))))
