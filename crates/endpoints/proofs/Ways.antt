-- The ways that a request may go to its outcome, and what it has passed on each.
use Rattle.std.proofs.Common.{◌≡◌, ◌⊎◌, ℕ, List, [], ◌∷◌, Bool, true, false, Option, Some, None, Result, Ok, Err, refl, sym, ap, subst, ◌∙◌, arith}
use Rattle.endpoints.proofs.Names.{result_ok, eqb-true, false≢true, not-true, nat_tests, sha256, read_params, value_sent, RegistryRecord, ClientRecord, client_at, has_grant, grant_named}
use Rattle.endpoints.proofs.Names.{AuthorizationCode}
use Rattle.endpoints.proofs.Names.{RefreshToken, ClientCredentials, told as Change, Grant, grant_at, live_grant, is_code, is_spent, is_taken, has_ended, consented_scope, is_within}
use Rattle.endpoints.proofs.Names.{has_consent_room, is_within-self, Kind, Allowed, Denied, EmptyScope, InvalidRequest, InvalidClient, InvalidGrant, InvalidScope, UnauthorizedClient}
use Rattle.endpoints.proofs.Names.{UnsupportedGrantType, UnsupportedResponseType, AccessDenied, Asked, query_of, consent_body, plain, refused_body, sent_back, Empty, Inactive, Told, Extent}
use Rattle.endpoints.proofs.Names.{Outcome, need, only, point, refuse, bare, unavailable, unless_denied, Parameters, KnownClient, form_of, known_client, with_client, with_authenticated}
use Rattle.endpoints.proofs.Names.{scope_within, scope_asked, client_named, owner_of_key, Setting, digest_told, where_passes, code_of_client, refresh_of_client, is_own, is_refresh, live_token}
use Rattle.endpoints.proofs.Names.{client_credentials, own_ask, access_for, access_issued, ask_for, both_digests, both_for, left_by_host, by_fault, end_owner, is_operator, introspect, owner_asked, owner_ended, told_of}
use Rattle.std.specs.Prelude.{◌==◌, codes, not, if◌then◌else◌, option_and_then}
use Rattle.std.proofs.lemmas.Slice.Eq.{bytes_eq-Decides}
use Rattle.pkce.specs.Proof.{proves}
use Rattle.clients.specs.Clients.{has_redirect}
use Rattle.authentication.specs.Authentication.{authenticated}
use Rattle.consent.specs.History.Change.{Consented, CodeGiven, Spent, HookSet, HookGone}
use Rattle.hook_host.specs.Decisions.{met_with}
use Rattle.hook_host.specs.DecisionLaws.{met_with_narrows}
use Rattle.hook_record.specs.declared.Ask.{Ask}
use Rattle.hook_record.specs.declared.Narrowed.{Narrowed}
use Rattle.hook_record.specs.Narrowing.{IsNarrowing}
use Rattle.messages.specs.Reply.{Body, hook_body}
use Rattle.consent.specs.History.{next_family}
use Rattle.token_endpoint.specs.Grants.{issued_alone, refresh_issued}
use Rattle.token_endpoint.specs.TokenPath.{issue_token, grant_points}
use Rattle.endpoints.specs.HookPaths.{change_hooks}
use Rattle.endpoints.specs.Introspect.{IsActive}
use Rattle.std.specs.Prelude.{bytes_eq}
use Rattle.std.proofs.lemmas.Nat.{and_le_r}
use Rattle.pkce.specs.Token.{token_text}
use Rattle.params.specs.Scope.{scope_text}
use Rattle.clients.specs.declared.grant.GrantType.{GrantType}
use Rattle.answers.specs.declared.endpoint.Endpoint.{Endpoint}
use Rattle.answers.specs.declared.endpoint.Endpoint.TheVariants as endpoint
use Rattle.authentication.specs.declared.authentication.AuthFault.{AuthFault}
use Rattle.authentication.specs.declared.authentication.AuthFault.TheVariants as auth
use Rattle.consent.specs.Facts.{GivenCode}
use Rattle.consent.specs.declared.record_version.RecordVersion.{RecordVersion}
use Rattle.hook_host.specs.declared.fault.HookFault.{HookFault}
use Rattle.hook_host.specs.declared.fault.HookFault.TheVariants as hook
use Rattle.hook_host.specs.Faults.{hook_fault_text}
use Rattle.hook_record.specs.declared.Kind.TheVariants as kind
use Rattle.messages.specs.declared.error.ErrorName.{ErrorName}
use Rattle.messages.specs.Members.{Member}
use Rattle.answers.specs.Replies.{access_reply, both_reply}
use Rattle.token_endpoint.specs.Exchange.{ends_family, exchange, exchanged, spent_in_vain}
use Rattle.token_endpoint.specs.Refresh.{refresh}
use Rattle.endpoints.specs.Authorize.{authorize, challenge_sent, redirect_sent, state_sent, turned_back}
use Rattle.endpoints.specs.ConsentPath.{give_consent}
use Rattle.endpoints.specs.Revoke.{revoke_token, revoked}
use Rattle.endpoints.specs.Documents.{document_outcome}
use Rattle.endpoints.proofs.Walking.{both_point, both_unless, both_need, both_untaken, at_unless, at_need, other, through}

-- WHO ASKS

-- the client that a request authenticates, and the parameters of its form
pub record Sender (rules : RegistryRecord) (asked : Asked) : Type 0 where
  pub params : Parameters
  pub form : form_of asked ≡ Some params
  pub known : KnownClient
  pub known_is : client_at known.number rules.clients ≡ Some known.client
  pub authenticates : authenticated rules.clients asked.authorization params ≡ Ok known.number

-- the number of a client that was authenticated
abbrev pub number_in : Result ℕ AuthFault → ℕ
number_in (Ok number) = number
number_in (Err fault) = 0

-- what passes a test is there, and passes it
pub passes : {A : Type 0} (test : A → Bool) (o : Option A) (x : A) → where_passes test o ≡ Some x → (o ≡ Some x) × (test x ≡ true)
passes test o x e = (grind (arith, e), grind (arith, e))

-- it is of this kind and this client's
own_is : (test : Kind → Bool) (client : ℕ) (o : Option Grant) (g : Grant) → where_passes (is_own test client) o ≡ Some g →
    (o ≡ Some g) × (test g.kind ≡ true) × (g.client ≡ client)
own_is test client o g e = (grind (arith, e), grind (arith, nat_tests, e), grind (arith, nat_tests, e))

-- the name of a grant type
abbrev pub type_name : GrantType → List ℕ
type_name AuthorizationCode = codes "authorization_code"
type_name RefreshToken = codes "refresh_token"
type_name ClientCredentials = codes "client_credentials"

pub named_is : (name : List ℕ) (t : GrantType) → grant_named name ≡ Some t → name ≡ type_name t
named_is name t e =
    let code = (bytes_eq-Decides name (codes "authorization_code")).0 in
    let refresh = (bytes_eq-Decides name (codes "refresh_token")).0 in
    let own = (bytes_eq-Decides name (codes "client_credentials")).0 in
    grind (arith, e, code, refresh, own)

-- TOKENS

-- what a sender uses: an unexpired code or refresh token of its own, which the text in a parameter names
pub record Use (s : Setting) (asked : Asked) (type name : List ℕ) (test : Kind → Bool) : Type 0 where
  pub sender : Sender s.rules asked
  pub typed : value_sent (codes "grant_type") sender.params ≡ Some type
  pub text : List ℕ
  pub sent : value_sent name sender.params ≡ Some text
  pub digest : List ℕ
  pub told : digest_told text ≡ Some digest
  pub grant : Grant
  pub named : grant_at s.history digest s.moment ≡ Some grant
  pub kind_is : test grant.kind ≡ true
  pub own : grant.client ≡ sender.known.number

abbrev pub CodeUse : Setting → Asked → Type 0
CodeUse s asked = Use s asked (codes "authorization_code") (codes "code") is_code

abbrev pub RefreshUse : Setting → Asked → Type 0
RefreshUse s asked = Use s asked (codes "refresh_token") (codes "refresh_token") is_refresh

-- a live code with its redirect URI and the proof of its challenge
pub record Proven (s : Setting) (asked : Asked) : Type 0 where
  pub code : CodeUse s asked
  pub unspent : is_spent s.history code.digest s.moment ≡ false
  pub alive : has_ended s.history code.grant.family ≡ false
  pub redirected : value_sent (codes "redirect_uri") code.sender.params ≡ Some code.grant.redirect
  pub verifier : List ℕ
  pub verified : value_sent (codes "code_verifier") code.sender.params ≡ Some verifier
  pub proven : proves verifier code.grant.challenge ≡ true

-- a live refresh token, and the scope that is asked for
pub record Refreshing (s : Setting) (asked : Asked) : Type 0 where
  pub token : RefreshUse s asked
  pub unspent : is_spent s.history token.digest s.moment ≡ false
  pub alive : has_ended s.history token.grant.family ≡ false
  pub scope : ℕ
  pub asks : scope_within s.rules token.grant.scope token.sender.params ≡ Some scope

-- what is issued
abbrev pub one_issued : Setting → Grant → Extent → Outcome
one_issued s g left = record {
  reply = access_reply s.rules s.draws.first left.scope left.life;
  changes = access_issued g s.draws.first left ∷ Spent g.digest ∷ [];
}

abbrev pub both_issued : Setting → Grant → Extent → ℕ → Outcome
both_issued s g left kept = record {
  reply = both_reply s.rules s.draws left.scope left.life;
  changes = access_issued g s.draws.first left
      ∷ refresh_issued g s.draws.second (record { scope = kept; life = s.rules.refresh_life })
      ∷ Spent g.digest
      ∷ [];
}

abbrev pub own_issued : Setting → ℕ → ℕ → Extent → Outcome
own_issued s family client left = record {
  reply = access_reply s.rules s.draws.first left.scope left.life;
  changes = issued_alone s family client left ∷ [];
}

-- the host leaves so much of the ask
abbrev pub IsLeft : Setting → Ask → Extent → Type 0
IsLeft s ask left = left_by_host s ask ≡ Allowed left.scope left.life

-- what is asked of the host
abbrev pub code_ask : {s : Setting} {asked : Asked} → Proven s asked → Ask
code_ask {s = s} x = ask_for s x.code.sender.known kind.Code x.code.grant.owner x.code.grant.scope

abbrev pub refresh_ask : {s : Setting} {asked : Asked} → Refreshing s asked → Ask
refresh_ask {s = s} x = ask_for s x.token.sender.known kind.Refresh x.token.grant.owner x.scope

-- the ways of a request for tokens
pub data TokenWay (s : Setting) (asked : Asked) : Type 0 where
  Refused : ErrorName → TokenWay s asked
  Wanting : TokenWay s asked
  Again : (type name : List ℕ) (test : Kind → Bool) (x : Use s asked type name test) → is_spent s.history x.digest s.moment ≡ true → TokenWay s asked
  InVain : Proven s asked → ErrorName → TokenWay s asked
  Once : (x : Proven s asked) (left : Extent) → IsLeft s (code_ask x) left →
      is_taken s.history s.moment (sha256 s.draws.first ∷ []) ≡ false → TokenWay s asked
  Twice : (x : Proven s asked) (left : Extent) → IsLeft s (code_ask x) left →
      is_taken s.history s.moment (both_digests s.draws) ≡ false → TokenWay s asked
  Refreshed : (x : Refreshing s asked) (left : Extent) → IsLeft s (refresh_ask x) left →
      is_taken s.history s.moment (both_digests s.draws) ≡ false → TokenWay s asked
  Own : (sender : Sender s.rules asked) → value_sent (codes "grant_type") sender.params ≡ Some (codes "client_credentials") →
      (scope : ℕ) (left : Extent) (family : ℕ) → next_family s.history ≡ Some family → IsLeft s (own_ask s sender.known scope) left →
      (is_taken s.history s.moment (sha256 s.draws.first ∷ []) ≡ false) × (scope_within s.rules sender.known.client.allowed sender.params ≡ Some scope) → TokenWay s asked

-- where they lead
abbrev pub token_outcome : {s : Setting} {asked : Asked} → TokenWay s asked → Outcome
token_outcome (Refused error) = refuse error
token_outcome Wanting = unavailable
token_outcome (Again type name test x spent) = ends_family x.grant
token_outcome (InVain x error) = spent_in_vain x.code.grant error
token_outcome {s = s} (Once x left is untaken) = one_issued s x.code.grant left
token_outcome {s = s} (Twice x left is untaken) = both_issued s x.code.grant left left.scope
token_outcome {s = s} (Refreshed x left is untaken) = both_issued s x.token.grant left x.token.grant.scope
token_outcome {s = s} (Own sender typed scope left family new is untaken) = own_issued s family sender.known.number left

-- the setting with a host that allows all, and has these names and this fault
abbrev pub open_to_all : Setting → Setting
open_to_all s = record { rules = s.rules; history = s.history; host = record { answer = λ ask. Allowed ask.scope ask.life; names = s.host.names; fault = s.host.fault }; moment = s.moment; draws = s.draws }

-- all that is asked
abbrev pub whole : Ask → Extent
whole ask = record { scope = ask.scope; life = ask.life }

-- where they lead there: to the same tokens, of all that is asked; where none are given, it may be to any other
abbrev pub beside : {s : Setting} {asked : Asked} → TokenWay s asked → Outcome → Outcome
beside {s = s} (Once x left is untaken) other = one_issued s x.code.grant (whole (code_ask x))
beside {s = s} (Twice x left is untaken) other = both_issued s x.code.grant (whole (code_ask x)) x.code.grant.scope
beside {s = s} (Refreshed x left is untaken) other = both_issued s x.token.grant (whole (refresh_ask x)) x.token.grant.scope
beside {s = s} (Own sender typed scope left family new is untaken) other = own_issued s family sender.known.number (whole (own_ask s sender.known scope))
beside way other = other

-- what an ask holds some of is left of it by a host that allows all
all_left : (ask : Ask) (scope life : ℕ) → IsNarrowing ask scope life → met_with ask (Allowed ask.scope ask.life) ≡ Allowed ask.scope ask.life
all_left ask scope life some =
    let self = is_within-self ask.scope in
    let least = and_le_r scope ask.scope in
    let is = some.within in
    let more = some.some_scope in
    let few = some.no_longer in
    let lives = some.some_life in
    grind (arith, nat_tests, self, least, is, more, few, lives)

module _ (P : Outcome → Outcome → Type 0) where
  at_left : (s : Setting) (ask : Ask) (denied empty : Outcome) (later later' : Extent → Outcome) →
      ((other : Outcome) → P denied other) → ((other : Outcome) → P empty other) →
      ((left : Extent) → IsLeft s ask left → P (later left) (later' (whole ask))) →
      P (unless_denied (left_by_host s ask) denied empty later) (unless_denied (left_by_host (open_to_all s) ask) denied empty later')
  at_left s ask denied empty later later' a b z = by_left (left_by_host s ask) refl
    where
      by_left : (left : Narrowed) → left_by_host s ask ≡ left →
          P (unless_denied left denied empty later) (unless_denied (left_by_host (open_to_all s) ask) denied empty later')
      by_left Denied is = a _
      by_left EmptyScope is = b _
      by_left (Allowed scope life) is =
          subst (λ left. P (later (record { scope = scope; life = life })) (unless_denied left denied empty later'))
          (sym (all_left ask scope life (met_with_narrows ask (s.host.answer ask) scope life is)))
          (z (record { scope = scope; life = life }) is)

  pub at_sender : (rules : RegistryRecord) (asked : Asked) (next next' : Parameters → KnownClient → Outcome) →
      P (refuse InvalidRequest) (refuse InvalidRequest) → P (refuse InvalidClient) (refuse InvalidClient) → P unavailable unavailable →
      ((sender : Sender rules asked) → P (next sender.params sender.known) (next' sender.params sender.known)) →
      P (with_authenticated rules asked next) (with_authenticated rules asked next')
  at_sender rules asked next next' r c u each =
      both_need P {A = Parameters} (form_of asked) (refuse InvalidRequest)
      (λ params. with_client rules (authenticated rules.clients asked.authorization params) (next params))
      (λ params. with_client rules (authenticated rules.clients asked.authorization params) (next' params)) r (λ params form.
      by_client params form (authenticated rules.clients asked.authorization params) refl)
    where
      by_client : (params : Parameters) → form_of asked ≡ Some params → (result : Result ℕ AuthFault) →
          authenticated rules.clients asked.authorization params ≡ result → P (with_client rules result (next params)) (with_client rules result (next' params))
      by_client params form (Ok number) is =
          both_need P {A = KnownClient} (known_client rules number) unavailable (next params) (next' params) u (λ known at.
          let same : number ≡ known.number = grind (arith, at) in
          each (record { params = params; form = form; known = known; known_is = grind (arith, at); authenticates = is ∙ ap (λ n. Ok n) same }))
      by_client params form (Err auth.TwoMethods) is = r
      by_client params form (Err auth.Memory) is = u
      by_client params form (Err fault) is = c

module _ (P : Outcome → Outcome → Type 0) (s : Setting) (asked : Asked)
    (ways : (way : TokenWay s asked) (other : Outcome) → P (token_outcome way) (beside way other)) where
  no : (error : ErrorName) → P (refuse error) (refuse error)
  no error = ways (Refused error) (refuse error)

  none : P unavailable unavailable
  none = ways Wanting unavailable

  module _ (sender : Sender s.rules asked) where
    for_code : (x : Proven s asked) (left : Extent) → IsLeft s (code_ask x) left → (client : ClientRecord) →
        P (exchanged s client x.code.grant left) (exchanged (open_to_all s) client x.code.grant (whole (code_ask x)))
    for_code x left is client = by_grant (has_grant RefreshToken client.grants)
      where
        by_grant : (b : Bool) → P (if b then both_for s x.code.grant left left.scope else access_for s x.code.grant left)
            (if b then both_for s x.code.grant (whole (code_ask x)) x.code.grant.scope else access_for s x.code.grant (whole (code_ask x)))
        by_grant true =
            both_untaken P s x.code.grant.client (both_digests s.draws) (both_issued s x.code.grant left left.scope) (both_issued s x.code.grant (whole (code_ask x)) x.code.grant.scope)
            none (λ untaken. ways (Twice x left is untaken) unavailable)
        by_grant false =
            both_untaken P s x.code.grant.client (sha256 s.draws.first ∷ []) (one_issued s x.code.grant left) (one_issued s x.code.grant (whole (code_ask x)))
            none (λ untaken. ways (Once x left is untaken) unavailable)

    abbrev use_of : (type name : List ℕ) (test : Kind → Bool) → value_sent (codes "grant_type") sender.params ≡ Some type → (text : List ℕ) → value_sent name sender.params ≡ Some text →
        (digest : List ℕ) → digest_told text ≡ Some digest → (g : Grant) → where_passes (is_own test sender.known.number) (grant_at s.history digest s.moment) ≡ Some g →
        Use s asked type name test
    use_of type name test typed text sent digest told g found =
        let is = own_is test sender.known.number (grant_at s.history digest s.moment) g found in
        record {
          sender = sender;
          typed = typed;
          text = text;
          sent = sent;
          digest = digest;
          told = told;
          grant = g;
          named = is.0;
          kind_is = is.1;
          own = is.2;
        }

    in_exchange : value_sent (codes "grant_type") sender.params ≡ Some (codes "authorization_code") →
        P (exchange s sender.params sender.known) (exchange (open_to_all s) sender.params sender.known)
    in_exchange typed =
        both_need P {A = List ℕ} (value_sent (codes "code") sender.params) (refuse InvalidRequest) _ _ (no InvalidRequest) (λ text sent.
        both_need P {A = List ℕ} (value_sent (codes "redirect_uri") sender.params) (refuse InvalidRequest) _ _ (no InvalidRequest) (λ uri led.
        both_need P {A = List ℕ} (value_sent (codes "code_verifier") sender.params) (refuse InvalidRequest) _ _ (no InvalidRequest) (λ verifier verified.
        both_need P {A = List ℕ} (digest_told text) (refuse InvalidGrant) _ _ (no InvalidGrant) (λ digest told.
        both_need P {A = Grant} (code_of_client s.history s.moment sender.known.number digest) (refuse InvalidGrant) _ _ (no InvalidGrant) (λ g found.
        let code = use_of (codes "authorization_code") (codes "code") is_code typed text sent digest told g found in
        both_point P (is_spent s.history digest s.moment) (ends_family g) _ _ (λ spent. ways (Again _ _ is_code code spent) (ends_family g)) (λ unspent.
        both_point P (has_ended s.history g.family) (refuse InvalidGrant) _ _ (λ _. no InvalidGrant) (λ alive.
        both_unless P (bytes_eq uri g.redirect) (refuse InvalidGrant) _ _ (no InvalidGrant) (λ same.
        both_unless P (proves verifier g.challenge) (refuse InvalidGrant) _ _ (no InvalidGrant) (λ proven.
        let x : Proven s asked = record {
          code = code;
          unspent = unspent;
          alive = alive;
          redirected = led ∙ ap (λ u. Some u) ((bytes_eq-Decides uri g.redirect).0 same);
          verifier = verifier;
          verified = verified;
          proven = proven;
        } in
        at_left P s (code_ask x) (spent_in_vain g InvalidGrant) (spent_in_vain g InvalidScope) _ _
        (ways (InVain x InvalidGrant)) (ways (InVain x InvalidScope)) (λ left is. for_code x left is sender.known.client))))))))))

    in_refresh : value_sent (codes "grant_type") sender.params ≡ Some (codes "refresh_token") →
        P (refresh s sender.params sender.known) (refresh (open_to_all s) sender.params sender.known)
    in_refresh typed =
        both_need P {A = List ℕ} (value_sent (codes "refresh_token") sender.params) (refuse InvalidRequest) _ _ (no InvalidRequest) (λ text sent.
        both_need P {A = List ℕ} (digest_told text) (refuse InvalidGrant) _ _ (no InvalidGrant) (λ digest told.
        both_need P {A = Grant} (refresh_of_client s.history s.moment sender.known.number digest) (refuse InvalidGrant) _ _ (no InvalidGrant) (λ g found.
        let token = use_of (codes "refresh_token") (codes "refresh_token") is_refresh typed text sent digest told g found in
        both_point P (is_spent s.history digest s.moment) (ends_family g) _ _ (λ spent. ways (Again _ _ is_refresh token spent) (ends_family g)) (λ unspent.
        both_point P (has_ended s.history g.family) (refuse InvalidGrant) _ _ (λ _. no InvalidGrant) (λ alive.
        both_need P {A = ℕ} (scope_within s.rules g.scope sender.params) (refuse InvalidScope) _ _ (no InvalidScope) (λ scope asks.
        let x : Refreshing s asked = record { token = token; unspent = unspent; alive = alive; scope = scope; asks = asks } in
        at_left P s (refresh_ask x) (refuse InvalidGrant) (refuse InvalidScope) _ _ (ways (Refused InvalidGrant)) (ways (Refused InvalidScope)) (λ left is.
        both_untaken P s g.client (both_digests s.draws) (both_issued s g left g.scope) (both_issued s g (whole (refresh_ask x)) g.scope)
        none (λ untaken. ways (Refreshed x left is untaken) unavailable))))))))

    in_own : value_sent (codes "grant_type") sender.params ≡ Some (codes "client_credentials") →
        P (client_credentials s sender.params sender.known) (client_credentials (open_to_all s) sender.params sender.known)
    in_own typed =
        both_need P {A = ℕ} (scope_within s.rules sender.known.client.allowed sender.params) (refuse InvalidScope) _ _ (no InvalidScope) (λ scope asks.
        let ask = own_ask s sender.known scope in
        at_left P s ask (refuse UnauthorizedClient) (refuse InvalidScope) _ _ (ways (Refused UnauthorizedClient)) (ways (Refused InvalidScope)) (λ left is.
        both_need P {A = ℕ} (next_family s.history) unavailable _ _ none (λ family new.
        both_untaken P s sender.known.number (sha256 s.draws.first ∷ []) (own_issued s family sender.known.number left) (own_issued s family sender.known.number (whole ask))
        none (λ untaken. ways (Own sender typed scope left family new is (untaken, asks)) unavailable))))

    by_type : (grant : GrantType) → value_sent (codes "grant_type") sender.params ≡ Some (type_name grant) →
        P (grant_points grant s sender.params sender.known) (grant_points grant (open_to_all s) sender.params sender.known)
    by_type AuthorizationCode typed = in_exchange typed
    by_type RefreshToken typed = in_refresh typed
    by_type ClientCredentials typed = in_own typed

  pub at_token : P (issue_token s asked) (issue_token (open_to_all s) asked)
  at_token =
      at_sender P s.rules asked _ _ (no InvalidRequest) (no InvalidClient) none (λ sender.
      both_need P {A = List ℕ} (value_sent (codes "grant_type") sender.params) (refuse InvalidRequest) _ _ (no InvalidRequest) (λ name typed.
      both_need P {A = GrantType} (grant_named name) (refuse UnsupportedGrantType) _ _ (no UnsupportedGrantType) (λ grant is.
      both_unless P (has_grant grant sender.known.client.grants) (refuse UnauthorizedClient) _ _ (no UnauthorizedClient) (λ _.
      by_type sender grant (typed ∙ ap (λ n. Some n) (named_is name grant is))))))

-- ALL PATHS

-- the client and the redirect URI that a query names
pub record Turn (s : Setting) (asked : Asked) : Type 0 where
  pub params : Parameters
  pub query : result_ok (read_params (query_of asked.target)) ≡ Some params
  pub known : KnownClient
  pub names : client_named s.rules params ≡ Some known
  pub uri : List ℕ
  pub sent : value_sent (codes "redirect_uri") params ≡ Some uri
  pub registered : has_redirect uri known.client ≡ true

-- the live token of the text that a sender presents
pub record Shown (s : Setting) (asked : Asked) : Type 0 where
  pub sender : Sender s.rules asked
  pub text : List ℕ
  pub sent : value_sent (codes "token") sender.params ≡ Some text
  pub digest : List ℕ
  pub told : digest_told text ≡ Some digest
  pub token : Grant
  pub live : live_grant s.history digest s.moment ≡ Some token
  pub no_code : is_code token.kind ≡ false

-- the change is of the hooks
abbrev pub is_of_hooks : Change → Bool
is_of_hooks (HookSet name version code) = true
is_of_hooks (HookGone name) = true
is_of_hooks change = false

-- the code is of the client, and is sent to its redirect URI; the client is allowed its scope, its owner consents, and the draw is free
abbrev pub IsCodeOf : {s : Setting} {asked : Asked} → Turn s asked → GivenCode → Type 0
IsCodeOf {s = s} x code =
    (code.client ≡ x.known.number) × (code.redirect ≡ x.uri) × (is_within code.scope x.known.client.allowed ≡ true)
    × (is_within code.scope (consented_scope s.history code.owner code.client) ≡ true) × (is_taken s.history s.moment (sha256 s.draws.first ∷ []) ≡ false)

-- the ways of a request
pub data Way (s : Setting) (asked : Asked) : Type 0 where
  Quiet : (status : ℕ) (body : Body) → (status ≡ 302 → ⊥) → (IsActive body → ⊥) → Way s asked
  ByToken : TokenWay s asked → Way s asked
  Turned : Turn s asked → ErrorName → Way s asked
  Coded : (x : Turn s asked) (code : GivenCode) (family : ℕ) → next_family s.history ≡ Some family → owner_of_key s.rules asked ≡ Some code.owner → IsCodeOf x code → Way s asked
  Consents : (owner client mask : ℕ) → owner_of_key s.rules asked ≡ Some owner → Way s asked
  Revokes : (x : Shown s asked) → x.token.client ≡ x.sender.known.number → Way s asked
  Tells : Shown s asked → Way s asked
  Installs : (name : List ℕ) (version : RecordVersion) (code : List ℕ) → is_operator s.rules asked ≡ true → Way s asked
  Removes : (name : List ℕ) → is_operator s.rules asked ≡ true → Way s asked
  Leaves : (owner : ℕ) (params : Parameters) → form_of asked ≡ Some params → owner_asked params ≡ Some owner → is_operator s.rules asked ≡ true → Way s asked

-- where they lead
abbrev pub outcome_by : {s : Setting} {asked : Asked} → Way s asked → Outcome
outcome_by (Quiet status body moves active) = only (plain status body)
outcome_by (ByToken way) = token_outcome way
outcome_by (Turned x error) = turned_back x.uri x.params error
outcome_by {s = s} (Coded x code family new key of) = record {
  reply = sent_back x.uri (codes "code") (token_text s.draws.first) (state_sent x.params);
  changes = CodeGiven family code (sha256 s.draws.first) ∷ [];
}
outcome_by {s = s} (Consents owner client mask key) =
    record { reply = plain 200 (consent_body (scope_text s.rules.scopes mask)); changes = Consented owner client mask ∷ [] }
outcome_by (Revokes x own) = revoked x.token
outcome_by {s = s} (Tells x) = only (plain 200 (told_of s.rules x.token x.token.kind))
outcome_by (Installs name version code operator) = record { reply = plain 200 (hook_body name); changes = HookSet name version code ∷ [] }
outcome_by (Removes name operator) = record { reply = plain 200 (hook_body name); changes = HookGone name ∷ [] }
outcome_by {s = s} (Leaves owner params form named operator) = owner_ended s owner

-- where the way changes something, it is at such an endpoint
abbrev pub IsAt : (Endpoint → Type 0) → {s : Setting} {asked : Asked} → Way s asked → Type 0
IsAt At (ByToken Wanting) = Unit {0}
IsAt At (ByToken (Refused error)) = Unit {0}
IsAt At (ByToken way) = At endpoint.IssueToken
IsAt At (Coded x code family new key of) = At endpoint.Authorize
IsAt At (Consents owner client mask key) = At endpoint.GiveConsent
IsAt At (Revokes x own) = At endpoint.RevokeToken
IsAt At (Installs name version code operator) = At endpoint.InstallHook ⊎ At endpoint.RemoveHook
IsAt At (Removes name operator) = At endpoint.InstallHook ⊎ At endpoint.RemoveHook
IsAt At (Leaves owner params form named operator) = At endpoint.EndOwner
IsAt At way = Unit {0}

-- so it is of each way at the token endpoint
pub token_at : (At : Endpoint → Type 0) {s : Setting} {asked : Asked} (way : TokenWay s asked) → At endpoint.IssueToken → IsAt At (ByToken way)
token_at At Wanting here = tt
token_at At (Refused error) here = tt
token_at At way here = here

module _ (P : Outcome → Type 0) (s : Setting) (asked : Asked) (At : Endpoint → Type 0) (ways : (way : Way s asked) → IsAt At way → P (outcome_by way)) where
  refused : (error : ErrorName) → P (refuse error)
  refused error = ways (ByToken (Refused error)) tt

  wanting : P unavailable
  wanting = ways (ByToken Wanting) tt

  pub at_authorize : At endpoint.Authorize → P (authorize s asked)
  at_authorize here =
      at_need P {A = Parameters} (result_ok (read_params (query_of asked.target))) (refuse InvalidRequest) _ (refused InvalidRequest) (λ params query.
      at_need P {A = KnownClient} (client_named s.rules params) (refuse InvalidRequest) _ (refused InvalidRequest) (λ known names.
      at_need P {A = List ℕ} (redirect_sent params known.client) (refuse InvalidRequest) _ (refused InvalidRequest) (λ uri led.
      let is = passes (λ u. has_redirect u known.client) (value_sent (codes "redirect_uri") params) uri led in
      let x : Turn s asked = record { params = params; query = query; known = known; names = names; uri = uri; sent = is.0; registered = is.1 } in
      at_need P {A = List ℕ} (value_sent (codes "response_type") params) (turned_back uri params InvalidRequest) _ (ways (Turned x InvalidRequest) tt) (λ type _.
      at_unless P (bytes_eq type (codes "code")) (turned_back uri params UnsupportedResponseType) _ (ways (Turned x UnsupportedResponseType) tt) (λ _.
      at_unless P (has_grant AuthorizationCode known.client.grants) (turned_back uri params UnauthorizedClient) _ (ways (Turned x UnauthorizedClient) tt) (λ _.
      at_need P {A = List ℕ} (challenge_sent params) (turned_back uri params InvalidRequest) _ (ways (Turned x InvalidRequest) tt) (λ challenge _.
      at_need P {A = ℕ} (scope_within s.rules known.client.allowed params) (turned_back uri params InvalidScope) _ (ways (Turned x InvalidScope) tt) (λ scope asks.
      at_need P {A = ℕ} (owner_of_key s.rules asked) (turned_back uri params AccessDenied) _ (ways (Turned x AccessDenied) tt) (λ owner key.
      at_unless P (is_within scope (consented_scope s.history owner known.number)) (turned_back uri params AccessDenied) _ (ways (Turned x AccessDenied) tt) (λ consented.
      at_need P {A = ℕ} (next_family s.history) unavailable _ wanting (λ family new.
      both_untaken (λ o _. P o) s known.number (sha256 s.draws.first ∷ []) _ unavailable wanting (λ untaken. ways (Coded x (record { client = known.number; owner = owner; scope = scope; redirect = uri; challenge = challenge }) family new key (refl, refl, grind (arith, asks), consented, untaken)) here))))))))))))

  pub at_consent : At endpoint.GiveConsent → P (give_consent s asked)
  at_consent here =
      at_need P {A = Parameters} (form_of asked) (refuse InvalidRequest) _ (refused InvalidRequest) (λ params _.
      at_need P {A = ℕ} (owner_of_key s.rules asked) (refuse AccessDenied) _ (refused AccessDenied) (λ owner key.
      at_need P {A = KnownClient} (client_named s.rules params) (refuse InvalidRequest) _ (refused InvalidRequest) (λ known _.
      at_need P {A = ℕ} (scope_asked s.rules 0 params) (refuse InvalidScope) _ (refused InvalidScope) (λ mask _.
      at_unless P (has_consent_room s.rules.limits.consents s.history owner known.number mask) unavailable _ wanting (λ _.
      ways (Consents owner known.number mask key) here)))))

  pub at_owner : At endpoint.EndOwner → P (end_owner s asked)
  at_owner here =
      at_unless P (is_operator s.rules asked) (refuse AccessDenied) _ (refused AccessDenied) (λ operator.
      at_need P {A = Parameters} (form_of asked) (refuse InvalidRequest) _ (refused InvalidRequest) (λ params form.
      at_need P {A = ℕ} (owner_asked params) (refuse InvalidRequest) _ (refused InvalidRequest) (λ owner named.
      ways (Leaves owner params form named operator) here)))

  -- by the live token that a sender presents, if there is one
  at_shown : (without : Outcome) (later : KnownClient → Grant → Outcome) → P without → ((x : Shown s asked) → P (later x.sender.known x.token)) →
      P (with_authenticated s.rules asked (λ params known.
      need (value_sent (codes "token") params) (refuse InvalidRequest) (λ text. need (live_token s.history s.moment text) without (later known))))
  at_shown without later a z =
      at_sender (λ o _. P o) s.rules asked _ (λ _ _. unavailable) (refused InvalidRequest) (refused InvalidClient) wanting (λ sender.
      at_need P {A = List ℕ} (value_sent (codes "token") sender.params) (refuse InvalidRequest) _ (refused InvalidRequest) (λ text sent.
      at_need P {A = Grant} (live_token s.history s.moment text) without (later sender.known) a (λ g found.
      let is = passes (λ (x : Grant). not (is_code x.kind)) (option_and_then (λ digest. live_grant s.history digest s.moment) (digest_told text)) g found in
      let at = through (λ digest. live_grant s.history digest s.moment) (digest_told text) g is.0 in
      z (record { sender = sender; text = text; sent = sent; digest = at.0; told = at.1; token = g; live = at.2; no_code = not-true (is_code g.kind) is.1 }))))

  pub at_revoke : At endpoint.RevokeToken → P (revoke_token s asked)
  at_revoke here =
      at_shown (bare 200) (λ known token. point (not (token.client == known.number)) (refuse InvalidGrant) (revoked token))
      (ways (Quiet 200 Empty (other 200 302 refl) (λ active. active)) tt) (λ x.
      at_unless P (x.token.client == x.sender.known.number) (refuse InvalidGrant) _ (refused InvalidGrant) (λ same.
      ways (Revokes x (eqb-true x.token.client x.sender.known.number same)) here))

  pub at_introspect : P (introspect s asked)
  at_introspect =
      at_shown (only (plain 200 Inactive)) (λ known token. only (plain 200 (told_of s.rules token token.kind)))
      (ways (Quiet 200 Inactive (other 200 302 refl) (λ active. active)) tt) (λ x. ways (Tells x) tt)

  pub at_document : (told : Result (List Member) ErrorName) → P (document_outcome told)
  at_document (Ok members) = ways (Quiet 200 (Told members) (other 200 302 refl) (λ active. active)) tt
  at_document (Err error) = refused error

  -- a change of the hooks
  by_hook : At endpoint.InstallHook ⊎ At endpoint.RemoveHook → (change : Change) → is_of_hooks change ≡ true → is_operator s.rules asked ≡ true →
      (fault : Option HookFault) → P (by_fault change fault)
  by_hook here (HookSet name version code) of operator None = ways (Installs name version code operator) here
  by_hook here (HookGone name) of operator None = ways (Removes name operator) here
  by_hook here change of operator None = absurd (false≢true of)
  by_hook here change of operator (Some hook.Memory) = wanting
  by_hook here change of operator (Some fault) = ways (Quiet 400 (refused_body (hook_fault_text fault)) (other 400 302 refl) (λ active. active)) tt

  pub at_hooks : At endpoint.InstallHook ⊎ At endpoint.RemoveHook → (change : Option Change) → ((c : Change) → change ≡ Some c → is_of_hooks c ≡ true) →
      P (change_hooks s asked change)
  at_hooks here change of =
      at_unless P (is_operator s.rules asked) (refuse AccessDenied) _ (refused AccessDenied) (λ operator.
      at_need P {A = Change} change (refuse InvalidRequest) _ (refused InvalidRequest) (λ c is. by_hook here c (of c is) operator s.host.fault))
