-- Who asks.
use Rattle.std.proofs.Common.{◌≡◌, ℕ, ◌+◌, ◌-◌, ◌≤◌, List, [], ◌∷◌, Bool, true, false, Option, Some, None, Result, Ok, Err, refl, arith}
use Rattle.std.specs.Prelude.{not, ◌||◌, ◌&&◌, ◌==◌, bytes_eq, is_some, is_none, drop, slice_get, cond, if◌then◌else◌, option_and_then, option_map, option_to_list}
use Rattle.std.specs.List.{list_all, position_from, position}
use Rattle.std.specs.Option.{option_map_or, ok_or}
use Rattle.std.specs.Result.{result_ok}
use Rattle.std.specs.Str.{is_utf8}
use Rattle.std.proofs.lemmas.Bool.Decides.{nat_tests}
use Rattle.std.proofs.lemmas.Slice.Eq.{bytes_eq-Decides}
use Rattle.answers.specs.Outcomes as server
use Rattle.answers.specs.Requesters.{Parameters, KnownClient, known_client, with_client, with_credentials}
use Rattle.answers.specs.Setting.{Setting}
use Rattle.authentication.specs.Authentication.{authenticated, basic_credentials, basic_text, base64_bytes, around_colon, form_text, credentials_in, is_basic, identified, is_secret_of}
use Rattle.base64.specs.Engines.{standard}
use Rattle.base64.specs.GeneralPurpose.{decode_of}
use Rattle.authentication.specs.declared.authentication.AuthFault.{AuthFault}
use Rattle.authentication.specs.declared.authentication.AuthFault.TheVariants as auth
use Rattle.clients.specs.ClientRecord.{ClientRecord}
use Rattle.clients.specs.Clients.{client_at, ids, has_secret}
use Rattle.clients.specs.Numbers.{number_among}
use Rattle.clients.specs.RegistryRecord.{RegistryRecord}
use Rattle.messages.specs.Asked.{Asked}
use Rattle.params.specs.Form.{lossy_text, has_replacement}
use Rattle.registry_json.specs.Faults.{◌>>=◌}
use Rattle.endpoints.specs.Answer.{Outcome, need, check, refuse, authenticate, credentials, sent, ◌>>◌}
use Rattle.endpoints.proofs.AnswerPoints.{Ending, Ties}

-- a client that an identifier names is there
placed : (id : List ℕ) (i n : ℕ) (clients : List ClientRecord) → position_from (bytes_eq id) i (ids clients) ≡ Some n
    → (i ≤ n) × (is_some (slice_get clients (n - i)) ≡ true)
placed id i n [] at = cc at
placed id i n (c ∷ clients) at = by (bytes_eq id c.id) at (placed id (i + 1) n clients) where
  by : (b : Bool) → cond b (Some i) (position_from (bytes_eq id) (i + 1) (ids clients)) ≡ Some n
      → (position_from (bytes_eq id) (i + 1) (ids clients) ≡ Some n → (i + 1 ≤ n) × (is_some (slice_get clients (n - (i + 1))) ≡ true))
      → (i ≤ n) × (is_some (slice_get (c ∷ clients) (n - i)) ≡ true)
  by true at later = grind (arith, nat_tests, at)
  by false at later = let more = later at in grind (arith, nat_tests, more)

known_there : (id : List ℕ) (number : ℕ) (clients : List ClientRecord) → number_among id (ids clients) ≡ Some number
    → is_some (client_at number clients) ≡ true
known_there id number clients at = let there = placed id 1 number clients at in grind (arith, nat_tests, there)

-- the points behind the identifier and the secret, by the client's number
abbrev page_points : RegistryRecord → Bool → List ℕ → Option ℕ → Result KnownClient Outcome
page_points rules same secret number =
    need (option_and_then (known_client rules) number) (refuse 401 "invalid_client") >>= (λ known.
    check same (refuse 400 "invalid_request") >> (check (has_secret secret known.client) (refuse 401 "invalid_client") >> Ok known))

abbrev server_points : RegistryRecord → Bool → List ℕ → Option ℕ → Result ℕ AuthFault
server_points rules other secret number =
    ok_or number auth.NoClient >>= (λ number.
    if other then Err auth.TwoMethods else (if is_secret_of number rules.clients secret then Ok number else Err auth.BadSecret))

tested_ties : (rules : RegistryRecord) (number : ℕ) (client : ClientRecord) → client_at number rules.clients ≡ Some client
    → (same other right : Bool) → same ≡ not other → (next : KnownClient → Ending) (later : KnownClient → server.Outcome) → ((known : KnownClient) → Ties (next known) (later known))
    → Ties ((check same (refuse 400 "invalid_request") >> (check right (refuse 401 "invalid_client") >> Ok (record { number = number; client = client }))) >>= next)
    (with_client rules (if other then Err auth.TwoMethods else (if right then Ok number else Err auth.BadSecret)) later)
tested_ties rules number client at true true right is next later goes = cc
tested_ties rules number client at true false true is next later goes = rw at (goes (record { number = number; client = client }))
tested_ties rules number client at true false false is next later goes = refl
tested_ties rules number client at false true right is next later goes = refl
tested_ties rules number client at false false right is next later goes = cc

numbered_ties : (rules : RegistryRecord) (same other : Bool) → same ≡ not other → (secret : List ℕ) (number : Option ℕ)
    → ((n : ℕ) → number ≡ Some n → is_some (client_at n rules.clients) ≡ true)
    → (next : KnownClient → Ending) (later : KnownClient → server.Outcome) → ((known : KnownClient) → Ties (next known) (later known))
    → Ties (page_points rules same secret number >>= next) (with_client rules (server_points rules other secret number) later)
numbered_ties rules same other is secret None there next later goes = refl
numbered_ties rules same other is secret (Some n) there next later goes = by (client_at n rules.clients) refl (there n refl) where
  by : (o : Option ClientRecord) → client_at n rules.clients ≡ o → is_some o ≡ true
      → Ties (page_points rules same secret (Some n) >>= next) (with_client rules (server_points rules other secret (Some n)) later)
  by None at some = cc some
  by (Some client) at some = rw at (tested_ties rules n client at same other (has_secret secret client) is next later goes)

-- a header that is none is the one fault of a Basic header
abbrev IsBad : {A : Type 0} → Result A AuthFault → Type 0
IsBad (Ok x) = Unit {0}
IsBad (Err e) = e ≡ auth.BadHeader

bad_option : {A : Type 0} (o : Option A) → IsBad (ok_or o auth.BadHeader)
bad_option None = refl
bad_option (Some x) = tt

bad_then : {A B : Type 0} (r : Result A AuthFault) (next : A → Result B AuthFault) → IsBad r → ((x : A) → IsBad (next x)) → IsBad (r >>= next)
bad_then (Ok x) next bad later = later x
bad_then (Err e) next bad later = bad

bad_cond : {A : Type 0} (b : Bool) (r : Result A AuthFault) → IsBad r → IsBad (if b then r else Err auth.BadHeader)
bad_cond true r bad = bad
bad_cond false r bad = refl

bad_unless : {A : Type 0} (b : Bool) (r : Result A AuthFault) → IsBad r → IsBad (if b then Err auth.BadHeader else r)
bad_unless true r bad = refl
bad_unless false r bad = bad

bad_text : (header : List ℕ) → IsBad (basic_text header)
bad_text header =
    bad_cond {A = List ℕ} (is_basic header) _
    (bad_then {A = List ℕ} {B = List ℕ} (base64_bytes (drop 6 header)) _ (bad_option {A = List ℕ} (result_ok (decode_of standard (drop 6 header)))) (λ bytes. bad_cond {A = List ℕ} (is_utf8 bytes) (Ok bytes) tt))

bad_form : (bytes : List ℕ) → IsBad (form_text bytes)
bad_form bytes = bad_unless {A = List ℕ} (has_replacement (lossy_text bytes)) (Ok (lossy_text bytes)) tt

bad_parts : (text : List ℕ) → IsBad (around_colon text)
bad_parts text = bad_then {A = ℕ} {B = List ℕ × List ℕ} (ok_or (position (λ b. b == 58) text) auth.BadHeader) _ (bad_option {A = ℕ} (position (λ b. b == 58) text)) (λ place. tt)

bad_credentials : (text : List ℕ) → IsBad (credentials_in text)
bad_credentials text =
    bad_then {A = List ℕ × List ℕ} {B = List ℕ × List ℕ} (around_colon text) _ (bad_parts text) (λ parts.
    bad_then {A = List ℕ} {B = List ℕ × List ℕ} (form_text parts.0) _ (bad_form parts.0) (λ id.
    bad_then {A = List ℕ} {B = List ℕ × List ℕ} (form_text parts.1) _ (bad_form parts.1) (λ secret. tt)))

bad_header : (header : List ℕ) → IsBad (basic_credentials header)
bad_header header = bad_then {A = List ℕ} {B = List ℕ × List ℕ} (basic_text header) _ (bad_text header) bad_credentials

self : (id : List ℕ) → bytes_eq id id && true ≡ true
self id = rw ((bytes_eq-Decides id id).1 refl) refl

same_named : (id : List ℕ) (named : Option (List ℕ)) →
    list_all (λ other. bytes_eq other id) (option_to_list named) ≡ not (option_map_or (λ other. not (bytes_eq other id)) named false)
same_named id None = refl
same_named id (Some other) = by (bytes_eq other id) where
  by : (b : Bool) → b && true ≡ not (not b)
  by true = refl
  by false = refl

-- by the header
abbrev page_asking : RegistryRecord → Option (List ℕ) → (id secret : Option (List ℕ)) → Option (List ℕ × List ℕ) → Result KnownClient Outcome
page_asking rules header id secret pair =
    check (is_none header || is_none secret) (refuse 400 "invalid_request") >> (need pair (refuse 401 "invalid_client") >>= (λ pair.
    page_points rules (list_all (λ other. bytes_eq other pair.0) (option_to_list id)) pair.1 (number_among pair.0 (ids rules.clients))))

module _ (rules : RegistryRecord) (next : KnownClient → Ending) (later : KnownClient → server.Outcome) (goes : (known : KnownClient) → Ties (next known) (later known)) where
  by_parameters : (id secret : Option (List ℕ)) →
      Ties (page_asking rules None id secret (option_and_then (λ i. option_map (λ s. (i, s)) secret) id) >>= next)
      (with_client rules (ok_or id auth.NoClient >>= (λ i. ok_or secret auth.NoClient >>= (λ s. identified rules.clients None i s))) later)
  by_parameters None secret = refl
  by_parameters (Some i) None = refl
  by_parameters (Some i) (Some s) =
      numbered_ties rules (list_all (λ other. bytes_eq other i) (i ∷ [])) false (self i) s (number_among i (ids rules.clients)) (λ n. known_there i n rules.clients) next later goes

  by_header : (header : List ℕ) (id secret : Option (List ℕ)) (pair : Result (List ℕ × List ℕ) AuthFault) → IsBad pair →
      Ties (page_asking rules (Some header) id secret (result_ok pair) >>= next)
      (with_client rules (if is_some secret then Err auth.TwoMethods else (pair >>= (λ p. identified rules.clients id p.0 p.1))) later)
  by_header header id (Some s) pair bad = refl
  by_header header id None (Err e) bad = rw bad refl
  by_header header id None (Ok (i, s)) bad =
      numbered_ties rules (list_all (λ other. bytes_eq other i) (option_to_list id)) (option_map_or (λ other. not (bytes_eq other i)) id false) (same_named i id)
      s (number_among i (ids rules.clients)) (λ n. known_there i n rules.clients) next later goes

  by_any : (header : Option (List ℕ)) (params : Parameters) →
      Ties (page_asking rules header (sent "client_id" params) (sent "client_secret" params) (credentials header params) >>= next)
      (with_client rules (authenticated rules.clients header params) later)
  by_any None params = by_parameters (sent "client_id" params) (sent "client_secret" params)
  by_any (Some header) params = by_header header (sent "client_id" params) (sent "client_secret" params) (basic_credentials header) (bad_header header)

-- the client that a request authenticates
pub authenticate_ties : (s : Setting) (request : Asked) (params : Parameters) (next : KnownClient → Ending) (later : KnownClient → server.Outcome) →
    ((known : KnownClient) → Ties (next known) (later known)) →
    Ties (authenticate s request params >>= next) (with_credentials s.rules request params later)
authenticate_ties s request params next later goes = by_any s.rules next later goes request.authorization params
