-- Client authentication by HTTP Basic or by parameters (RFC 6749, section 2.3.1; RFC 7617).
use Rattle.std.specs.Prelude.{◌≡◌, ℕ, ◌+◌, List, ◌∷◌, ◌++◌, map, take, drop, codes, Bool, true, false, not, ◌==◌, ◌&&◌, bytes_eq, is_some, if◌then◌else◌, Option, Some, None, Result, Ok, Err}
use Rattle.std.specs.List.{position}
use Rattle.std.specs.Option.{ok_or, option_map_or}
use Rattle.std.specs.Result.{result_ok}
use Rattle.std.specs.Str.{is_utf8}
use Rattle.std.specs.Char.{to_ascii_lowercase}
use Rattle.base64.specs.Engines.{standard}
use Rattle.base64.specs.GeneralPurpose.{decode_of, encode_of}
use Rattle.form_urlencoded.specs.Form.{byte_serialize}
use Rattle.params.specs.Form.{lossy_text, has_replacement, value_sent}
use Rattle.registry_json.specs.Faults.{◌>>=◌, GivesUnless}
use Rattle.clients.specs.Numbers.{number_among}
use Rattle.clients.specs.Clients.{ids, client_at, has_secret}
use Rattle.clients.specs.ClientRecord.{ClientRecord}
use Rattle.authentication.specs.declared.authentication.AuthFault.{AuthFault}
use Rattle.authentication.specs.declared.authentication.AuthFault.TheVariants.{NoClient, BadSecret, TwoMethods, BadHeader, Memory}

-- the header's scheme is Basic, in either case, with one space
abbrev pub is_basic : List ℕ → Bool
is_basic header = bytes_eq (map to_ascii_lowercase (take 6 header)) (codes "basic ")

-- the bytes of strict padded base64 (RFC 4648, section 4)
abbrev pub base64_bytes : List ℕ → Result (List ℕ) AuthFault
base64_bytes encoded = ok_or (result_ok (decode_of standard encoded)) BadHeader

-- the UTF-8 text whose base64 stands behind the scheme
abbrev pub basic_text : List ℕ → Result (List ℕ) AuthFault
basic_text header =
    if is_basic header
    then (do
      bytes ← base64_bytes (drop 6 header)
      if is_utf8 bytes then Ok bytes else Err BadHeader)
    else Err BadHeader

-- the text that was form-encoded (RFC 6749, appendix B), unless it contains U+FFFD
abbrev pub form_text : List ℕ → Result (List ℕ) AuthFault
form_text bytes = if has_replacement (lossy_text bytes) then Err BadHeader else Ok (lossy_text bytes)

-- the bytes on the two sides of the first colon
abbrev pub around_colon : List ℕ → Result (List ℕ × List ℕ) AuthFault
around_colon text = do
  place ← ok_or (position (λ b. b == 58) text) BadHeader
  Ok (take place text, drop (place + 1) text)

-- the identifier and the secret in a Basic header's text
abbrev pub credentials_in : List ℕ → Result (List ℕ × List ℕ) AuthFault
credentials_in text = do
  parts ← around_colon text
  id ← form_text parts.0
  secret ← form_text parts.1
  Ok (id, secret)

-- those of a Basic header
abbrev pub basic_credentials : List ℕ → Result (List ℕ × List ℕ) AuthFault
basic_credentials header = basic_text header >>= credentials_in

-- this is a secret of the client of this number
abbrev pub is_secret_of : ℕ → List ClientRecord → List ℕ → Bool
is_secret_of number clients secret = option_map_or (has_secret secret) (client_at number clients) false

-- the client of an identifier and a secret, unless another client is named beside them
abbrev pub identified : List ClientRecord → Option (List ℕ) → List ℕ → List ℕ → Result ℕ AuthFault
identified clients named id secret = do
  number ← ok_or (number_among id (ids clients)) NoClient
  if option_map_or (λ other. not (bytes_eq other id)) named false then Err TwoMethods
      else (if is_secret_of number clients secret then Ok number else Err BadSecret)

-- the client that a request authenticates, by its Authorization header or, without one, its parameters
abbrev pub authenticated : List ClientRecord → Option (List ℕ) → List (List ℕ × List ℕ) → Result ℕ AuthFault
authenticated clients None params = do
  id ← ok_or (value_sent (codes "client_id") params) NoClient
  secret ← ok_or (value_sent (codes "client_secret") params) NoClient
  identified clients None id secret
authenticated clients (Some header) params =
    if is_some (value_sent (codes "client_secret") params) then Err TwoMethods
    else (do
      sent ← basic_credentials header
      identified clients (value_sent (codes "client_id") params) sent.0 sent.1)

-- memory may be wanted: a Basic header is read, which has no secret beside it
abbrev pub wants_memory : Option (List ℕ) → List (List ℕ × List ℕ) → Bool
wants_memory None params = false
wants_memory (Some header) params = not (is_some (value_sent (codes "client_secret") params)) && is_basic header

-- the answer is the client that the request authenticates, or why it authenticates none; or memory was refused where it may be wanted
abbrev pub Authenticates : List ClientRecord → Option (List ℕ) → List (List ℕ × List ℕ) → Result ℕ AuthFault → Type 0
Authenticates clients header params answer = GivesUnless Memory (wants_memory header params ≡ true) answer (authenticated clients header params)

-- the request has this identifier and this secret, in a Basic header or, without one, as parameters
abbrev pub HasSent : Option (List ℕ) → List (List ℕ × List ℕ) → List ℕ → List ℕ → Type 0
HasSent None params id secret = (value_sent (codes "client_id") params ≡ Some id) × (value_sent (codes "client_secret") params ≡ Some secret)
HasSent (Some header) params id secret = basic_credentials header ≡ Ok (id, secret)

-- this number's client has this identifier and this secret
abbrev pub AreCredentialsOf : List ClientRecord → ℕ → List ℕ → List ℕ → Type 0
AreCredentialsOf clients number id secret = (number_among id (ids clients) ≡ Some number) × (is_secret_of number clients secret ≡ true)

-- the request has the identifier and a secret of this number's client
abbrev pub IsSender : List ClientRecord → Option (List ℕ) → List (List ℕ × List ℕ) → ℕ → Type 0
IsSender clients header params number =
    (id : List ℕ) × (secret : List ℕ) × HasSent header params id secret × AreCredentialsOf clients number id secret

-- the Basic header of an identifier and a secret: both form-encoded, a colon between them, in base64
abbrev pub basic_header : List ℕ → List ℕ → List ℕ
basic_header id secret = codes "Basic " ++ encode_of standard (byte_serialize id ++ 58 ∷ byte_serialize secret)

-- each client is authenticated by its Basic header with any secret of its own, where no parameters name a client or a secret
abbrev pub HeadersAuthenticate : List ClientRecord → Type 0
HeadersAuthenticate clients =
    (number : ℕ) (client : ClientRecord) (secret : List ℕ) (params : List (List ℕ × List ℕ)) → client_at number clients ≡ Some client
    → has_secret secret client ≡ true
    → value_sent (codes "client_id") params ≡ None → value_sent (codes "client_secret") params ≡ None
    → authenticated clients (Some (basic_header client.id secret)) params ≡ Ok number
