-- The endpoints but /token.
use Rattle.std.proofs.Common.{◌≡◌, ℕ, ◌+◌, List, [], ◌∷◌, ◌++◌, length, map, Bool, true, false, Option, Some, None, Ok, Err, refl, ap, ◌∙◌, arith}
use Rattle.std.specs.Prelude.{not, ◌&&◌, ◌||◌, ◌==◌, nat_lt, codes, count_by, option_to_list, option_and_then, option_map, unwrap_or, find, cond, if◌then◌else◌}
use Rattle.std.specs.List.{list_any}
use Rattle.std.specs.Result.{result_ok}
use Rattle.std.specs.Str.{bytes_eq}
use Rattle.answers.specs.Outcomes as server
use Rattle.answers.specs.Requesters.{Parameters, KnownClient, form_of, client_named, owner_of_key, is_operator, scope_asked, scope_within}
use Rattle.answers.specs.Setting.{Setting, situation_of}
use Rattle.answers.specs.Texts.{digest_told, where_passes}
use Rattle.answers.specs.Tokens.{is_refresh, live_token}
use Rattle.answers.specs.declared.endpoint.Document.TheVariants.{Hooks}
use Rattle.clients.specs.Clients.{has_redirect}
use Rattle.clients.specs.Grants.{has_grant}
use Rattle.clients.specs.Owners.{sub_of}
use Rattle.clients.specs.RegistryRecord.{RegistryRecord}
use Rattle.clients.specs.declared.grant.GrantType.TheVariants.{AuthorizationCode}
use Rattle.consent.specs.History as old
use Rattle.consent.specs.History.{Event, Change, Grant, is_code, grants, next_family}
use Rattle.consent.specs.History.Change.{Consented, CodeGiven, HookSet, HookGone}
use Rattle.consent.specs.declared.grant.Kind.{Kind}
use Rattle.consent.specs.declared.grant.Kind.TheVariants.{Code, Token}
use Rattle.consent.specs.declared.grant.TokenKind.{TokenKind}
use Rattle.consent.specs.declared.grant.TokenKind.TheVariants.{Access, Refresh}
use Rattle.consent.specs.declared.record_version.RecordVersion.{RecordVersion}
use Rattle.consent.specs.declared.record_version.RecordVersion.TheVariants.{First, Second}
use Rattle.endpoints.specs.Authorize.{authorize, turned_back, state_sent}
use Rattle.endpoints.specs.ConsentPath.{give_consent}
use Rattle.endpoints.specs.Documents.{document_at, document_outcome}
use Rattle.endpoints.specs.HookPaths.{by_fault, hook_name, hook_set, hook_set_by, hook_gone, install_hook, remove_hook, version_asked}
use Rattle.endpoints.specs.Introspect as introspecting
use Rattle.endpoints.specs.OwnerPath.{end_owner, owner_asked}
use Rattle.endpoints.specs.Revoke.{revoke_token, revoked}
use Rattle.hook_host.specs.declared.fault.HookFault.{HookFault}
use Rattle.hook_host.specs.declared.fault.HookFault.TheVariants.{Memory}
use Rattle.messages.specs.Asked.{Asked}
use Rattle.messages.specs.Reply.{sent_back, plain, state_pair}
use Rattle.serde_json.specs.Data.{boolean, number, unsigned, string, array, object, Members, member}
use Rattle.messages.specs.Reply.Body.{Inactive}
use Rattle.messages.specs.Target.{query_of}
use Rattle.messages.specs.Members.Member.{Texts}
use Rattle.messages.specs.Written.{with_sub, type_member, error_text, location_text, string_items}
use Rattle.messages.specs.declared.error.ErrorName.{ErrorName}
use Rattle.messages.specs.declared.error.ErrorName.TheVariants.{InvalidRequest, InvalidGrant, InvalidScope, UnauthorizedClient, UnsupportedResponseType, AccessDenied}
use Rattle.params.specs.Form.{read_params, value_sent}
use Rattle.pkce.specs.Proof.{is_challenge}
use Rattle.params.specs.Scope.{scope_text}
use Rattle.pkce.specs.Token.{token_text}
use Rattle.answers.specs.Replies.{id_of}
use Rattle.sha2.specs.Sha256.{sha256}
use Rattle.registry_json.specs.Faults.{◌>>=◌}
use Rattle.endpoints.specs.Answer as page
use Rattle.endpoints.specs.Answer.{Outcome, need, check, ◌>>◌}
use Rattle.endpoints.specs.Answered.{on_page}
use Rattle.endpoints.proofs.AnswerPoints.{Ties, need_ties, need_by, check_ties, check_by, passes_ties, both_need, chain_ties, map_ties}
use Rattle.endpoints.proofs.AnswerQuestions.{changes, count_agrees, spent_agrees, ended_agrees}
use Rattle.endpoints.proofs.AnswerAsking.{authenticate_ties}
use Rattle.endpoints.proofs.AnswerGranting.{give_ties}

-- /authorize

-- what the user agent takes back
state_ties : (state : Option (List ℕ)) → map (λ text. (codes "state", text)) (option_to_list state) ≡ state_pair state
state_ties None = refl
state_ties (Some text) = refl

abbrev back_with : List ℕ → List ℕ → List ℕ → List (List ℕ × List ℕ) → Outcome
back_with uri name value pairs = record (page.bare 302) { location = Some (location_text (record { uri = uri; pairs = (name, value) ∷ pairs })) }

turned_ties : (uri : List ℕ) (params : Parameters) (error : ErrorName) → page.sent_back uri params "error" (error_text error) ≡ on_page (turned_back uri params error)
turned_ties uri params error = ap (back_with uri (codes "error") (error_text error)) (state_ties (state_sent params))

code_ties : (uri : List ℕ) (params : Parameters) (text : List ℕ) (change : Change) →
    record (page.sent_back uri params "code" text) { changes = change ∷ [] } ≡ on_page (record { reply = sent_back uri (codes "code") text (state_sent params); changes = change ∷ [] })
code_ties uri params text change = ap (λ pairs. record (back_with uri (codes "code") text pairs) { changes = change ∷ [] }) (state_ties (state_sent params))

pub authorize_ties : (s : Setting) (request : Asked) → Ties (page.at_authorize s request) (authorize s request)
authorize_ties s request =
    need_ties {A = Parameters} (result_ok (read_params (query_of request.target))) _ _ (server.refuse InvalidRequest) _ refl (λ params _.
    need_ties {A = KnownClient} (client_named s.rules params) _ _ (server.refuse InvalidRequest) _ refl (λ known _.
    passes_ties {A = List ℕ} (λ uri. has_redirect uri known.client) (value_sent (codes "redirect_uri") params) _ _ (server.refuse InvalidRequest) _ refl (λ uri _.
    need_ties {A = List ℕ} (value_sent (codes "response_type") params) _ _ (turned_back uri params InvalidRequest) _ (turned_ties uri params InvalidRequest) (λ type _.
    check_ties (bytes_eq type (codes "code")) _ _ (turned_back uri params UnsupportedResponseType) _ (turned_ties uri params UnsupportedResponseType)
    (check_ties (has_grant AuthorizationCode known.client.grants) _ _ (turned_back uri params UnauthorizedClient) _ (turned_ties uri params UnauthorizedClient)
    (both_need {A = List ℕ} {B = List ℕ} (value_sent (codes "code_challenge_method") params) (value_sent (codes "code_challenge") params)
    (λ method challenge. bytes_eq method (codes "S256") && is_challenge challenge) _ _ (turned_back uri params InvalidRequest) _ (turned_ties uri params InvalidRequest) (λ challenge.
    need_ties {A = ℕ} (scope_within s.rules known.client.allowed params) _ _ (turned_back uri params InvalidScope) _ (turned_ties uri params InvalidScope) (λ scope _.
    need_ties {A = ℕ} (owner_of_key s.rules request) _ _ (turned_back uri params AccessDenied) _ (turned_ties uri params AccessDenied) (λ owner _.
    check_ties (old.is_within scope (old.consented_scope s.history owner known.number))
    _ _ (turned_back uri params AccessDenied) _ (turned_ties uri params AccessDenied)
    (need_ties {A = ℕ} (next_family s.history) _ _ server.unavailable _ refl (λ family _.
    give_ties s request known.number (sha256 s.draws.first ∷ []) _ _ (code_ties uri params (token_text s.draws.first)
    (CodeGiven family (record { client = known.number; owner = owner; scope = scope; redirect = uri; challenge = challenge }) (sha256 s.draws.first))))))))))))))

-- /consent

pub consent_ties : (s : Setting) (request : Asked) → Ties (page.at_consent s request) (give_consent s request)
consent_ties s request =
    need_ties {A = Parameters} (form_of request) _ _ (server.refuse InvalidRequest) _ refl (λ params _.
    need_ties {A = ℕ} (owner_of_key s.rules request) _ _ (server.refuse AccessDenied) _ refl (λ owner _.
    need_ties {A = KnownClient} (client_named s.rules params) _ _ (server.refuse InvalidRequest) _ refl (λ known _.
    need_ties {A = ℕ} (scope_asked s.rules 0 params) _ _ (server.refuse InvalidScope) _ refl (λ scope _.
    check_by _ (old.has_consent_room s.rules.limits.consents s.history owner known.number scope)
    (λ i. (scope == 0) || not (old.consented_scope s.history owner known.number == 0) || nat_lt (count_agrees s.history i) s.rules.limits.consents)
    _ _ server.unavailable _ refl refl))))

-- /revoke and /introspect

good_kind : (k : Kind) (g : Grant) (ended spent : Bool) →
    (if not (is_code k) && (not ended && not (is_refresh k && spent)) then Some g else None)
    ≡ where_passes (λ (g : Grant). not (is_code k)) (if not ended && not (old.is_single_use k && spent) then Some g else None)
good_kind Code g true spent = refl
good_kind Code g false true = refl
good_kind Code g false false = refl
good_kind (Token Access) g true spent = refl
good_kind (Token Access) g false spent = refl
good_kind (Token Refresh) g true spent = refl
good_kind (Token Refresh) g false true = refl
good_kind (Token Refresh) g false false = refl

abbrev live_by : (Grant → Bool) → Bool → Option Grant → Option Grant
live_by ended spent o = where_passes (λ g. not (is_code g.kind) && (not (ended g) && not (is_refresh g.kind && spent))) o

live_found : (h : List Event) (m : ℕ) (digest : List ℕ) (o : Option Grant) →
    live_by (λ g. old.has_ended h g.family) (old.is_spent h digest m) o ≡ where_passes (λ g. not (is_code g.kind)) (old.where_good h digest m o)
live_found h m digest None = refl
live_found h m digest (Some g) = by (old.has_ended h g.family) (old.is_spent h digest m) where
  by : (ended spent : Bool) → (if not (is_code g.kind) && (not ended && not (is_refresh g.kind && spent)) then Some g else None)
      ≡ where_passes (λ g. not (is_code g.kind)) (if not ended && not (old.is_single_use g.kind && spent) then Some g else None)
  by true spent = grind (arith, good_kind g.kind g true spent)
  by false spent = grind (arith, good_kind g.kind g false spent)

live_agrees : (s : Setting) (request : Asked) (shown : List ℕ) → page.live s request shown ≡ live_token s.history s.moment shown
live_agrees s request shown = by (digest_told shown) where
  by : (o : Option (List ℕ)) →
      option_and_then (λ digest. live_by (λ g. page.has_ended (changes s.history) g.family) (page.is_spent s.history s.moment digest) (page.named s.history s.moment digest)) o
      ≡ where_passes (λ g. not (is_code g.kind)) (option_and_then (λ digest. old.live_grant s.history digest s.moment) o)
  by None = refl
  by (Some digest) =
      (λ i. live_by (λ g. ended_agrees s.history g.family i) (spent_agrees s.history s.moment digest i) (old.grant_at s.history digest s.moment))
      ∙ live_found s.history s.moment digest (old.grant_at s.history digest s.moment)

-- it is no code
passing : {A : Type 0} (test : A → Bool) (o : Option A) (x : A) → where_passes test o ≡ Some x → test x ≡ true
passing test o x is = grind (arith, is)

pub revoke_ties : (s : Setting) (request : Asked) → Ties (page.at_revoke s request) (revoke_token s request)
revoke_ties s request =
    need_ties {A = Parameters} (form_of request) _ _ (server.refuse InvalidRequest) _ refl (λ params _.
    authenticate_ties s request params _ _ (λ known.
    need_ties {A = List ℕ} (value_sent (codes "token") params) _ _ (server.refuse InvalidRequest) _ refl (λ shown _.
    need_by {A = Grant} _ (live_token s.history s.moment shown) (live_agrees s request shown) _ _ (server.bare 200) _ refl (λ g _.
    check_ties (g.client == known.number) _ _ (server.refuse InvalidGrant) (revoked g) refl refl))))

rest_ties : (sub : Option (List ℕ)) (kind : TokenKind) →
    page.members_from (map (page.text "sub") (option_to_list sub) ++ (if is_refresh (Token kind) then [] else page.text "token_type" (codes "Bearer") ∷ []))
    ≡ with_sub sub (type_member kind)
rest_ties None Access = refl
rest_ties None Refresh = refl
rest_ties (Some sub) Access = refl
rest_ties (Some sub) Refresh = refl

abbrev told_with : RegistryRecord → Grant → Members → Outcome
told_with rules g rest = record (page.bare 200) {
  body = Some (object (member (codes "active") (boolean true) (member (codes "client_id") (string (id_of rules g.client)) (member (codes "exp") (number (unsigned (g.moment + g.life)))
      (member (codes "iat") (number (unsigned g.moment)) (member (codes "scope") (string (scope_text rules.scopes g.scope)) rest))))));
}

active_ties : (rules : RegistryRecord) (g : Grant) (k : Kind) → not (is_code k) ≡ true →
    told_with rules g (page.members_from (map (page.text "sub") (option_to_list (sub_of g.owner rules)) ++ (if is_refresh k then [] else page.text "token_type" (codes "Bearer") ∷ [])))
    ≡ on_page (server.only (plain 200 (introspecting.told_of rules g k)))
active_ties rules g Code is = cc
active_ties rules g (Token kind) is = ap (told_with rules g) (rest_ties (sub_of g.owner rules) kind)

pub introspect_ties : (s : Setting) (request : Asked) → Ties (page.at_introspect s request) (introspecting.introspect s request)
introspect_ties s request =
    need_ties {A = Parameters} (form_of request) _ _ (server.refuse InvalidRequest) _ refl (λ params _.
    authenticate_ties s request params _ _ (λ known.
    need_ties {A = List ℕ} (value_sent (codes "token") params) _ _ (server.refuse InvalidRequest) _ refl (λ shown _.
    need_by {A = Grant} _ (live_token s.history s.moment shown) (live_agrees s request shown) _ _ (server.only (plain 200 Inactive)) _ refl (λ g is.
    active_ties s.rules g g.kind (passing (λ (g : Grant). not (is_code g.kind)) _ g is)))))

-- /hooks, /hooks/remove and /hooks/list

fault_ties : (change : Change) (fault : Option HookFault) → page.changed (hook_name change) change fault ≡ on_page (by_fault change fault)
fault_ties change None = refl
fault_ties change (Some Memory) = refl
fault_ties change (Some _) = refl

abbrev Version : Type 0
Version = List ℕ × RecordVersion

abbrev version_1 : Version
version_1 = (codes "1", First)

abbrev version_2 : Version
version_2 = (codes "2", Second)

version_ties : (s : Setting) (name body : List ℕ) (version : Option (List ℕ)) →
    Ties (need (find (λ (v : Version). bytes_eq (unwrap_or version (codes "1")) v.0) (version_1 ∷ version_2 ∷ [])) (page.refuse 400 "invalid_request")
    >>= (λ (v : Version). Ok (page.changed name (HookSet name v.1 body) s.host.fault)))
    (server.need (option_map (λ v. HookSet name v body) (version_asked version)) (server.refuse InvalidRequest) (λ change. by_fault change s.host.fault))
version_ties s name body None = fault_ties (HookSet name First body) s.host.fault
version_ties s name body (Some text) = by (bytes_eq text (codes "1")) (bytes_eq text (codes "2")) where
  by : (a b : Bool) → Ties (need (cond a (Some version_1) (cond b (Some version_2) None)) (page.refuse 400 "invalid_request")
      >>= (λ (v : Version). Ok (page.changed name (HookSet name v.1 body) s.host.fault)))
      (server.need (option_map (λ v. HookSet name v body) (if a then Some First else (if b then Some Second else None))) (server.refuse InvalidRequest) (λ change. by_fault change s.host.fault))
  by true b = fault_ties (HookSet name First body) s.host.fault
  by false true = fault_ties (HookSet name Second body) s.host.fault
  by false false = refl

pub install_ties : (s : Setting) (request : Asked) → Ties (page.at_hooks s request) (install_hook s request)
install_ties s request =
    check_ties (is_operator s.rules request) _ _ (server.refuse AccessDenied) _ refl
    (chain_ties {A = Parameters} {B = Change} (λ params. hook_set_by params request.body) (result_ok (read_params (query_of request.target))) _ _ (server.refuse InvalidRequest) _ refl (λ params.
    chain_ties {A = List ℕ} {B = Change} (hook_set params request.body) (value_sent (codes "name") params) _ _ (server.refuse InvalidRequest) _ refl (λ name.
    version_ties s name request.body (value_sent (codes "record") params))))

pub remove_ties : (s : Setting) (request : Asked) → Ties (page.at_hooks_remove s request) (remove_hook s request)
remove_ties s request =
    check_ties (is_operator s.rules request) _ _ (server.refuse AccessDenied) _ refl
    (chain_ties {A = Parameters} {B = Change} hook_gone (form_of request) _ _ (server.refuse InvalidRequest) _ refl (λ params.
    map_ties {A = List ℕ} {B = Change} HookGone (value_sent (codes "name") params) _ _ (server.refuse InvalidRequest) _ refl (λ name.
    fault_ties (HookGone name) s.host.fault)))

pub list_ties : (s : Setting) (request : Asked) → Ties (check (is_operator s.rules request) (page.refuse 403 "access_denied") >> Ok (page.told ((codes "hooks", array (string_items s.host.names)) ∷ []))) (document_outcome (document_at Hooks (situation_of s) request))
list_ties s request = by (is_operator s.rules request) where
  by : (b : Bool) → Ties (check b (page.refuse 403 "access_denied") >> Ok (page.told ((codes "hooks", array (string_items s.host.names)) ∷ [])))
      (document_outcome (if b then Ok (Texts (codes "hooks") s.host.names ∷ []) else Err AccessDenied))
  by true = refl
  by false = refl

-- /owners/end

pub end_ties : (s : Setting) (request : Asked) → Ties (page.at_owners_end s request) (end_owner s request)
end_ties s request =
    check_ties (is_operator s.rules request) _ _ (server.refuse AccessDenied) _ refl
    (need_ties {A = Parameters} (form_of request) _ _ (server.refuse InvalidRequest) _ refl (λ params _.
    need_ties {A = ℕ} (owner_asked params) _ _ (server.refuse InvalidRequest) _ refl (λ owner _.
    λ i. record (page.told ((codes "consents", number (unsigned (old.consents_of s.history owner (length s.rules.clients)))) ∷ (codes "families", number (unsigned (families owner i))) ∷ [])) {
      changes = old.withdrawals owner (length s.rules.clients);
    })))
  where
    families : (owner : ℕ) → count_by (λ g. is_code g.kind && (g.owner == owner)
        && list_any (λ h. (h.family == g.family) && old.is_unexpired s.moment h) (grants s.history) && not (page.has_ended (changes s.history) g.family)) (grants s.history)
        ≡ old.families_of s.history owner s.moment
    families owner = λ i. count_by (λ g. is_code g.kind && (g.owner == owner)
        && list_any (λ h. (h.family == g.family) && old.is_unexpired s.moment h) (grants s.history) && not (ended_agrees s.history g.family i)) (grants s.history)
