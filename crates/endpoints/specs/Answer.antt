-- THE PAGE TO BELIEVE: what the server answers to each request (RFC 6749, 7636, 7009, 7662), and what happens by it.
-- A history is the list of what has happened, oldest first. A few questions are asked of it. `answer` goes through the points
-- of the endpoint that is asked: a point ends the request, or the next one is tried. No program holds the list.
use Prim.Native.String.{String}
use Rattle.std.specs.Prelude.{ℕ, ◌+◌, List, [], ◌∷◌, ◌++◌, length, map, filter_map, find, count_by, min, codes, bytes_eq, Bool, true, false, not, ◌&&◌, ◌||◌, ◌==◌, nat_lt, nat_le, bit_and}
use Rattle.std.specs.Prelude.{if◌then◌else◌, Option, Some, None, is_some, is_none, unwrap_or, option_map, option_and_then, option_to_list, Result, Ok, Err, ⊤}
use Rattle.std.specs.List.{list_any, list_all, range_with_len}
use Rattle.std.specs.Option.{option_map_or}
use Rattle.std.specs.Result.{result_ok}
-- Believed elsewhere, by these names. What a request asks, and what it finds (`Setting`): rules, a history, a host of hooks that
-- answers asks, the moment in seconds, two draws of 32 random bytes. A scope is a mask: bit i is name i of the rules' scopes. Of
-- keys and secrets the rules have the SHA-256. Clients are numbered from 1, and an owner of 0 is none.
use Rattle.endpoints.specs.Vocabulary.{Asked, path_of, query_of, Setting, KnownClient, known_client, client_at, GrantType, AuthorizationCode, RefreshToken, ClientCredentials}
use Rattle.endpoints.specs.Vocabulary.{Ask, ask_for, own_ask, Narrowed, Allowed, EmptyScope, Denied, HookFault, Memory, hook_fault_text, RecordVersion, First, Second}
use Rattle.hook_record.specs.declared.Kind.TheVariants as kind
-- What may happen, and the codes and tokens that were ever given. Each is known by the SHA-256 of its 32 bytes.
use Rattle.endpoints.specs.Vocabulary.{Event, Change, Consented, CodeGiven, Issued, Spent, FamilyEnded, HookSet, HookGone, consent_of, consented_scope, spends}
use Rattle.endpoints.specs.Vocabulary.{Grant, grants, is_unexpired, next_family, Parties, NewToken, Kind, is_code, is_refresh, Access, Refresh}
-- How texts are read and written: forms, scopes, credentials, keys, proofs, tokens, JSON. And the first fault of steps counts.
use Rattle.endpoints.specs.Vocabulary.{Parameters, read_params, form_of, value_sent, scope_asked, scope_within, scope_text, client_named, number_among, ids, basic_credentials, has_secret, has_redirect}
use Rattle.endpoints.specs.Vocabulary.{has_grant, grant_named, owner_of_key, is_operator, number_in, sub_of, is_challenge, proves, digest_told, token_text, sha256, where_passes, extend_pairs}
use Rattle.endpoints.specs.Vocabulary.{Data, boolean, number, unsigned, string, array, object, Members, no_members, member, string_items, ◌>>=◌}

abbrev pub Bytes : Type 0
Bytes = List ℕ

-- QUESTIONS OF A HISTORY
abbrev pub consent_count : List Change → ℕ  -- how many owners and clients have a consent to something
consent_count [] = 0
consent_count (Consented owner client scope ∷ later) =
    (if (scope == 0) || list_any (λ c. is_some (consent_of owner client c)) later then 0 else 1) + consent_count later
consent_count (_ ∷ later) = consent_count later

abbrev pub named : List Event → ℕ → Bytes → Option Grant  -- the code or token that was given under the digest, for its life
named history now digest = find (λ g. bytes_eq digest g.digest && is_unexpired now g) (grants history)

abbrev pub are_fresh : List Event → ℕ → List Bytes → Bool  -- none of the digests names anything, and no two are equal
are_fresh history now [] = true
are_fresh history now (d ∷ ds) = is_none (named history now d) && not (list_any (bytes_eq d) ds) && are_fresh history now ds

abbrev pub is_spent : List Event → ℕ → Bytes → Bool  -- what the digest names is spent: that happened after it was given
is_spent [] now digest = false
is_spent (e ∷ later) now digest =
    if is_some (named (e ∷ []) now digest) then list_any (λ e. spends digest e.change) later else is_spent later now digest

abbrev pub has_ended : List Change → ℕ → Bool  -- a family has ended: that happened, or its code's owner consented to less than the code's scope after it
has_ended [] family = false
has_ended (FamilyEnded f ∷ later) family = (f == family) || has_ended later family
has_ended (CodeGiven f code digest ∷ later) family =
    (f == family) && list_any (λ scope. not (bit_and code.scope scope == code.scope)) (filter_map (consent_of code.owner code.client) later)
    || has_ended later family
has_ended (_ ∷ later) family = has_ended later family

-- POINTS: `Err` ends what is done with an outcome, and after `Ok` the next point is tried
infixl 10 ◌>>◌
abbrev pub ◌>>◌ : {A B E : Type 0} → Result A E → Result B E → Result B E
point >> next = point >>= (λ _. next)

abbrev pub need : {A E : Type 0} → Option A → E → Result A E
need None otherwise = Err otherwise
need (Some x) otherwise = Ok x

abbrev pub check : {E : Type 0} → Bool → E → Result ⊤ E
check true otherwise = Ok tt
check false otherwise = Err otherwise

abbrev pub end_of : {E : Type 0} → Result E E → E
end_of (Ok outcome) = outcome
end_of (Err outcome) = outcome

-- WHAT COMES OF A REQUEST: the reply's status, where it sends the user agent and its JSON; and what happens
pub record Outcome : Type 0 where
  pub status : ℕ
  pub location : Option Bytes
  pub body : Option Data
  pub changes : List Change

abbrev pub bare : ℕ → Outcome
bare status = record { status = status; location = None; body = None; changes = [] }

abbrev pub text : String → Bytes → Bytes × Data  -- a member of a JSON object
text name value = (codes name, string value)

abbrev pub members_from : List (Bytes × Data) → Members
members_from [] = no_members
members_from ((name, value) ∷ later) = member name value (members_from later)

abbrev pub told : List (Bytes × Data) → Outcome
told members = record (bare 200) { body = Some (object (members_from members)) }

abbrev pub refuse : ℕ → String → Outcome  -- RFC 6749, section 5.2
refuse status error = record (told (text "error" (codes error) ∷ [])) { status = status }

abbrev pub sent : String → Parameters → Option Bytes
sent name params = value_sent (codes name) params

abbrev pub sent_back : Bytes → Parameters → String → Bytes → Outcome  -- sections 4.1.2 and 4.1.2.1
sent_back uri params name value =
    let state = map (λ state. (codes "state", state)) (option_to_list (sent "state" params)) in
    record (bare 302) { location = Some (uri ++ codes "?" ++ extend_pairs [] ((codes name, value) ∷ state)) }

abbrev pub changed : Bytes → Change → Option HookFault → Outcome  -- a change of the hooks is made or, with the host's fault, refused
changed name change None = record (told (text "name" name ∷ [])) { changes = change ∷ [] }
changed name change (Some Memory) = bare 503
changed name change (Some fault) = record (told (text "detail" (hook_fault_text fault) ∷ text "error" (codes "hook_refused") ∷ [])) { status = 400 }

abbrev pub left_by : Ask → Narrowed → Outcome → Outcome → Result (ℕ × ℕ) Outcome  -- the scope and life that an answer of hooks leaves of an ask
left_by ask Denied denied empty = Err denied
left_by ask EmptyScope denied empty = Err empty
left_by ask (Allowed scope life) denied empty = do
  check (not (bit_and ask.scope scope == 0)) empty
  check (not (min ask.life life == 0)) denied
  Ok (bit_and ask.scope scope, min ask.life life)

abbrev pub credentials : Option Bytes → Parameters → Option (Bytes × Bytes)
credentials None params = option_and_then (λ id. option_map (λ secret. (id, secret)) (sent "client_secret" params)) (sent "client_id" params)
credentials (Some header) params = result_ok (basic_credentials header)

-- THE SERVER, as a request finds it. Sections are those of RFC 6749 where no other is named
module _ (s : Setting) (request : Asked) where
  abbrev pub happened : List Change  -- so far, without the moments
  happened = map (λ e. e.change) s.history

  abbrev pub authenticate : Parameters → Result KnownClient Outcome  -- section 2.3.1; RFC 7617
  authenticate params = do
    check (is_none request.authorization || is_none (sent "client_secret" params)) (refuse 400 "invalid_request")
    (id, secret) ← need (credentials request.authorization params) (refuse 401 "invalid_client")
    known ← need (option_and_then (known_client s.rules) (number_among id (ids s.rules.clients))) (refuse 401 "invalid_client")
    check (list_all (λ other. bytes_eq other id) (option_to_list (sent "client_id" params))) (refuse 400 "invalid_request")
    check (has_secret secret known.client) (refuse 401 "invalid_client")
    Ok known

  abbrev pub give : ℕ → List Bytes → Outcome → Result Outcome Outcome  -- unless there is no room, none for the client, or a draw is taken
  give client digests outcome = do
    check (nat_le (count_by (is_unexpired s.moment) (grants s.history) + length digests) s.rules.limits.records) (bare 503)
    let own = count_by (λ g. (g.client == client) && is_unexpired s.moment g) (grants s.history)
    let most = option_and_then (λ c. c.records) (client_at client s.rules.clients)
    check (list_all (nat_le (own + length digests)) (option_to_list most)) (bare 503)
    check (are_fresh s.history s.moment digests) (bare 503)
    Ok outcome

  -- section 5.1: an access token and, where a scope is kept for one, a refresh token, in a family
  abbrev pub issue : ℕ → Parties → ℕ × ℕ → Option ℕ → List Change → Result Outcome Outcome
  issue family parties (scope, life) kept more =
      let access : NewToken = record { kind = Access; digest = sha256 s.draws.first; scope = scope; life = life } in
      let refresh : ℕ → NewToken = λ scope. record { kind = Refresh; digest = sha256 s.draws.second; scope = scope; life = s.rules.refresh_life } in
      let tokens = access ∷ map refresh (option_to_list kept) in
      give parties.client (map (λ t. t.digest) tokens) (record (told (text "access_token" (token_text s.draws.first) ∷ (codes "expires_in", number (unsigned life))
      ∷ map (λ _. text "refresh_token" (token_text s.draws.second)) (option_to_list kept)
      ++ text "scope" (scope_text s.rules.scopes scope) ∷ text "token_type" (codes "Bearer") ∷ [])) { changes = map (Issued family parties) tokens ++ more })

  -- an unexpired code or refresh token of the client; one that is used again ends its family
  abbrev pub presented : (Kind → Bool) → KnownClient → Bytes → Result Grant Outcome
  presented is_kind known shown = do
    digest ← need (digest_told shown) (refuse 400 "invalid_grant")
    g ← need (named s.history s.moment digest) (refuse 400 "invalid_grant")  -- 4.1.2: expires after 10 minutes
    check (is_kind g.kind && (g.client == known.number)) (refuse 400 "invalid_grant")  -- 4.1.3, 6: issued to the client
    check (not (is_spent s.history s.moment digest)) (record (refuse 400 "invalid_grant") { changes = FamilyEnded g.family ∷ [] })  -- 4.1.2; RFC 9700, 4.14.2
    check (not (has_ended happened g.family)) (refuse 400 "invalid_grant")  -- 5.2: revoked
    Ok g

  abbrev pub grant : GrantType → Parameters → KnownClient → Result Outcome Outcome
  grant AuthorizationCode params known = do  -- section 4.1.3: where the hooks refuse, the code is spent
    shown ← need (sent "code" params) (refuse 400 "invalid_request")
    uri ← need (sent "redirect_uri" params) (refuse 400 "invalid_request")
    verifier ← need (sent "code_verifier" params) (refuse 400 "invalid_request")  -- RFC 7636, 4.5
    code ← presented is_code known shown
    check (bytes_eq uri code.redirect && proves verifier code.challenge) (refuse 400 "invalid_grant")  -- RFC 7636, 4.6
    let in_vain = λ (error : String). record (refuse 400 error) { changes = Spent code.digest ∷ [] }
    let ask = ask_for s known kind.Code code.owner code.scope
    left ← left_by ask (s.host.answer ask) (in_vain "invalid_grant") (in_vain "invalid_scope")
    let kept = if has_grant RefreshToken known.client.grants then Some left.0 else None
    issue code.family (record { owner = code.owner; client = code.client }) left kept (Spent code.digest ∷ [])
  grant RefreshToken params known = do  -- section 6: where they refuse, the token stays good; the new one has its scope
    shown ← need (sent "refresh_token" params) (refuse 400 "invalid_request")
    old ← presented is_refresh known shown
    scope ← need (scope_within s.rules old.scope params) (refuse 400 "invalid_scope")
    let ask = ask_for s known kind.Refresh old.owner scope
    left ← left_by ask (s.host.answer ask) (refuse 400 "invalid_grant") (refuse 400 "invalid_scope")
    issue old.family (record { owner = old.owner; client = old.client }) left (Some old.scope) (Spent old.digest ∷ [])
  grant ClientCredentials params known = do  -- section 4.4: no owner, and a family of its own
    scope ← need (scope_within s.rules known.client.allowed params) (refuse 400 "invalid_scope")
    let ask = own_ask s known scope
    left ← left_by ask (s.host.answer ask) (refuse 400 "unauthorized_client") (refuse 400 "invalid_scope")
    family ← need (next_family s.history) (bare 503)
    issue family (record { owner = 0; client = known.number }) left None []

  abbrev pub live : Bytes → Option Grant  -- the access or refresh token that is shown: its family has not ended, and a refresh token is not spent
  live shown =
      let is_good = λ (digest : Bytes) (g : Grant). not (has_ended happened g.family) && not (is_refresh g.kind && is_spent s.history s.moment digest) in
      option_and_then (λ digest. where_passes (λ g. not (is_code g.kind) && is_good digest g) (named s.history s.moment digest)) (digest_told shown)

  abbrev pub at_authorize : Result Outcome Outcome  -- section 4.1.1; RFC 7636, 4.3. Before the redirect URI is known nobody is sent anywhere (4.1.2.1)
  at_authorize = do
    params ← need (result_ok (read_params (query_of request.target))) (refuse 400 "invalid_request")  -- 3.1
    known ← need (client_named s.rules params) (refuse 400 "invalid_request")
    uri ← need (sent "redirect_uri" params) (refuse 400 "invalid_request")  -- 3.1.2.3
    check (has_redirect uri known.client) (refuse 400 "invalid_request")
    let turned = λ (error : String). sent_back uri params "error" (codes error)
    type ← need (sent "response_type" params) (turned "invalid_request")  -- 3.1.1
    check (bytes_eq type (codes "code")) (turned "unsupported_response_type")
    check (has_grant AuthorizationCode known.client.grants) (turned "unauthorized_client")
    method ← need (sent "code_challenge_method" params) (turned "invalid_request")  -- RFC 7636, 4.4.1
    challenge ← need (sent "code_challenge" params) (turned "invalid_request")
    check (bytes_eq method (codes "S256") && is_challenge challenge) (turned "invalid_request")
    scope ← need (scope_within s.rules known.client.allowed params) (turned "invalid_scope")  -- 3.3
    owner ← need (owner_of_key s.rules request) (turned "access_denied")
    check (bit_and scope (consented_scope s.history owner known.number) == scope) (turned "access_denied")
    family ← need (next_family s.history) (bare 503)
    let given = CodeGiven family (record { client = known.number; owner = owner; scope = scope; redirect = uri; challenge = challenge }) (sha256 s.draws.first)
    give known.number (sha256 s.draws.first ∷ []) (record (sent_back uri params "code" (token_text s.draws.first)) { changes = given ∷ [] })  -- 4.1.2

  abbrev pub at_consent : Result Outcome Outcome  -- the owner consents to this scope from now on; what it is too small for ends
  at_consent = do
    params ← need (form_of request) (refuse 400 "invalid_request")
    owner ← need (owner_of_key s.rules request) (refuse 403 "access_denied")
    known ← need (client_named s.rules params) (refuse 400 "invalid_request")
    scope ← need (scope_asked s.rules 0 params) (refuse 400 "invalid_scope")
    check ((scope == 0) || not (consented_scope s.history owner known.number == 0) || nat_lt (consent_count happened) s.rules.limits.consents) (bare 503)
    Ok (record (told (text "scope" (scope_text s.rules.scopes scope) ∷ [])) { changes = Consented owner known.number scope ∷ [] })

  abbrev pub at_token : Result Outcome Outcome  -- section 3.2
  at_token = do
    params ← need (form_of request) (refuse 400 "invalid_request")
    known ← authenticate params
    name ← need (sent "grant_type" params) (refuse 400 "invalid_request")
    type ← need (grant_named name) (refuse 400 "unsupported_grant_type")
    check (has_grant type known.client.grants) (refuse 400 "unauthorized_client")
    grant type params known

  abbrev pub at_revoke : Result Outcome Outcome  -- RFC 7009, section 2: the family of a live token ends
  at_revoke = do
    params ← need (form_of request) (refuse 400 "invalid_request")
    known ← authenticate params
    shown ← need (sent "token" params) (refuse 400 "invalid_request")
    g ← need (live shown) (bare 200)  -- 2.2: an invalid token
    check (g.client == known.number) (refuse 400 "invalid_grant")  -- 2.1
    Ok (record (bare 200) { changes = FamilyEnded g.family ∷ [] })

  abbrev pub at_introspect : Result Outcome Outcome  -- RFC 7662, section 2: any client may ask of any token
  at_introspect = do
    params ← need (form_of request) (refuse 400 "invalid_request")
    _ ← authenticate params
    shown ← need (sent "token" params) (refuse 400 "invalid_request")
    g ← need (live shown) (told ((codes "active", boolean false) ∷ []))
    let id = option_map_or (λ c. c.id) (client_at g.client s.rules.clients) []
    let type = if is_refresh g.kind then [] else text "token_type" (codes "Bearer") ∷ []
    Ok (told ((codes "active", boolean true) ∷ text "client_id" id ∷ (codes "exp", number (unsigned (g.moment + g.life))) ∷ (codes "iat", number (unsigned g.moment))
        ∷ text "scope" (scope_text s.rules.scopes g.scope) ∷ map (text "sub") (option_to_list (sub_of g.owner s.rules)) ++ type))

  abbrev pub at_hooks : Result Outcome Outcome  -- the body is the hook's program
  at_hooks = do
    check (is_operator s.rules request) (refuse 403 "access_denied")
    params ← need (result_ok (read_params (query_of request.target))) (refuse 400 "invalid_request")
    name ← need (sent "name" params) (refuse 400 "invalid_request")
    let is_asked = λ (v : Bytes × RecordVersion). bytes_eq (unwrap_or (sent "record" params) (codes "1")) v.0
    (_, version) ← need (find is_asked ((codes "1", First) ∷ (codes "2", Second) ∷ [])) (refuse 400 "invalid_request")
    Ok (changed name (HookSet name version request.body) s.host.fault)

  abbrev pub at_hooks_remove : Result Outcome Outcome
  at_hooks_remove = do
    check (is_operator s.rules request) (refuse 403 "access_denied")
    params ← need (form_of request) (refuse 400 "invalid_request")
    name ← need (sent "name" params) (refuse 400 "invalid_request")
    Ok (changed name (HookGone name) s.host.fault)

  abbrev pub at_hooks_list : Result Outcome Outcome
  at_hooks_list = check (is_operator s.rules request) (refuse 403 "access_denied") >> Ok (told ((codes "hooks", array (string_items s.host.names)) ∷ []))

  abbrev pub at_owners_end : Result Outcome Outcome  -- an owner leaves: it withdraws its consent from each client. Told is how much lived before
  at_owners_end = do
    check (is_operator s.rules request) (refuse 403 "access_denied")
    params ← need (form_of request) (refuse 400 "invalid_request")
    owner ← need (option_and_then number_in (sent "owner" params)) (refuse 400 "invalid_request")
    let clients = range_with_len 1 (length s.rules.clients)
    let lives = λ (g : Grant). list_any (λ h. (h.family == g.family) && is_unexpired s.moment h) (grants s.history)
    let families = count_by (λ g. is_code g.kind && (g.owner == owner) && lives g && not (has_ended happened g.family)) (grants s.history)
    let consents = count_by (λ client. not (consented_scope s.history owner client == 0)) clients
    Ok (record (told ((codes "consents", number (unsigned consents)) ∷ (codes "families", number (unsigned families)) ∷ [])) { changes = map (λ client. Consented owner client 0) clients })

  abbrev pub answer : Bool → Outcome  -- memory may be refused for each request that is an endpoint's
  answer no_memory = end_of (do
    let endpoints : List (Bytes × Bytes × Result Outcome Outcome) =
        (codes "/authorize", codes "GET", at_authorize) ∷ (codes "/consent", codes "POST", at_consent) ∷ (codes "/token", codes "POST", at_token)
        ∷ (codes "/revoke", codes "POST", at_revoke) ∷ (codes "/introspect", codes "POST", at_introspect) ∷ (codes "/hooks", codes "POST", at_hooks)
        ∷ (codes "/hooks/remove", codes "POST", at_hooks_remove) ∷ (codes "/owners/end", codes "POST", at_owners_end) ∷ (codes "/hooks/list", codes "GET", at_hooks_list) ∷ []
    (_, method, points) ← need (find (λ e. bytes_eq (path_of request.target) e.0) endpoints) (bare 404)
    check (bytes_eq request.method method) (bare 405)
    check (not no_memory) (bare 503)
    points)
