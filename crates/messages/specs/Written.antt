-- The JSON and the bytes of replies.
use Rattle.std.specs.Prelude.{◌==◌, ◌||◌, ℕ, List, [], ◌∷◌, ◌++◌, Bool, true, false, Option, Some, None, option_map, is_some, length, codes, decimal, if◌then◌else◌, unwrap_or}
use Rattle.form_urlencoded.specs.Form.{extend_pairs}
use Rattle.http.specs.StatusCode.{status_text}
use Rattle.serde_json.specs.Data.{Data, boolean, number, unsigned, string, array, object, Items, no_items, item, Members, no_members, member}
use Rattle.serde_json.specs.Written.{compact_text}
use Rattle.consent.specs.declared.grant.TokenKind.{TokenKind}
use Rattle.consent.specs.declared.grant.TokenKind.TheVariants.{Access, Refresh}
use Rattle.messages.specs.declared.error.ErrorName.{ErrorName}
use Rattle.messages.specs.declared.error.ErrorName.TheVariants as error
use Rattle.messages.specs.Reply.{Redirection, Body, Reply}
use Rattle.messages.specs.Reply.Body.{Empty, Failure, Tokens, Active, Inactive, Told}
use Rattle.messages.specs.Members.{Member}
use Rattle.messages.specs.Members.Member.{Text, Number, Texts}

-- ERRORS (RFC 6749, sections 4.1.2.1 and 5.2)

abbrev pub error_text : ErrorName → List ℕ
error_text error.InvalidRequest = codes "invalid_request"
error_text error.InvalidClient = codes "invalid_client"
error_text error.InvalidGrant = codes "invalid_grant"
error_text error.InvalidScope = codes "invalid_scope"
error_text error.UnauthorizedClient = codes "unauthorized_client"
error_text error.UnsupportedGrantType = codes "unsupported_grant_type"
error_text error.UnsupportedResponseType = codes "unsupported_response_type"
error_text error.AccessDenied = codes "access_denied"

-- JSON: the members stand in order of their names

abbrev pub text_member : List ℕ → List ℕ → Members → Members
text_member name text members = member name (string text) members

abbrev pub number_member : List ℕ → ℕ → Members → Members
number_member name n members = member name (number (unsigned n)) members

abbrev pub refresh_member : Option (List ℕ) → Members → Members
refresh_member None members = members
refresh_member (Some text) members = text_member (codes "refresh_token") text members

abbrev pub with_sub : Option (List ℕ) → Members → Members
with_sub None members = members
with_sub (Some text) members = text_member (codes "sub") text members

abbrev pub type_member : TokenKind → Members
type_member Access = text_member (codes "token_type") (codes "Bearer") no_members
type_member Refresh = no_members

abbrev pub string_items : List (List ℕ) → Items
string_items [] = no_items
string_items (text ∷ texts) = item (string text) (string_items texts)

abbrev pub with_member : Member → Members → Members
with_member (Text name text) members = text_member name text members
with_member (Number name n) members = number_member name n members
with_member (Texts name texts) members = member name (array (string_items texts)) members

abbrev pub each_member : List Member → Members
each_member [] = no_members
each_member (m ∷ ms) = with_member m (each_member ms)

abbrev pub json_of : Body → Option Data
json_of Empty = None
json_of (Failure error) = Some (object (text_member (codes "error") (error_text error) no_members))
json_of (Tokens access life refresh scope) =
    Some (object (text_member (codes "access_token") access
    (number_member (codes "expires_in") life
    (refresh_member refresh
    (text_member (codes "scope") scope
    (type_member Access))))))
json_of (Active client expires issued scope sub kind) =
    Some (object (member (codes "active") (boolean true)
    (text_member (codes "client_id") client
    (number_member (codes "exp") expires
    (number_member (codes "iat") issued
    (text_member (codes "scope") scope
    (with_sub sub
    (type_member kind))))))))
json_of Inactive = Some (object (member (codes "active") (boolean false) no_members))
json_of (Told members) = Some (object (each_member members))

-- TEXTS

-- the JSON text of a body, without spaces
abbrev pub body_text : Body → Option (List ℕ)
body_text body = option_map compact_text (json_of body)

-- the redirect URI, `?` and the pairs as a form
abbrev pub location_text : Redirection → List ℕ
location_text r = r.uri ++ codes "?" ++ extend_pairs [] r.pairs

-- a reply's status and its texts
pub record Written : Type 0 where
  pub status : ℕ
  pub location : Option (List ℕ)
  pub body : Option (List ℕ)

abbrev pub in_writing : Reply → Written
in_writing reply = record {
  status = reply.status;
  location = option_map location_text reply.location;
  body = body_text reply.body;
}

-- BYTES (RFC 9112, section 4)

abbrev pub crlf : List ℕ
crlf = 13 ∷ 10 ∷ []

abbrev pub line : List ℕ → List ℕ
line text = text ++ crlf

abbrev pub line_if : Bool → List ℕ → List ℕ
line_if applies text = if applies then line text else []

abbrev pub status_line : ℕ → List ℕ
status_line status = line (codes "HTTP/1.1 " ++ status_text status)

abbrev pub type_line : Option (List ℕ) → List ℕ
type_line body = line_if (is_some body) (codes "Content-Type: application/json")

-- these say nothing but their status
abbrev pub is_bare : ℕ → Bool
is_bare status = status == 404 || status == 405 || status == 503

-- all others are not to be kept (RFC 6749, section 5.1)
abbrev pub cache_lines : ℕ → List ℕ
cache_lines status =
    if is_bare status then [] else line (codes "Cache-Control: no-store") ++ line (codes "Pragma: no-cache")

abbrev pub location_line : Option (List ℕ) → List ℕ
location_line None = []
location_line (Some text) = line (codes "Location: " ++ text)

abbrev pub challenge_line : ℕ → List ℕ
challenge_line status = line_if (status == 401) (codes "WWW-Authenticate: Basic realm=\"oauthd\"")

abbrev pub length_line : ℕ → List ℕ
length_line n = line (codes "Content-Length: " ++ decimal n)

abbrev pub head_bytes : Written → List ℕ
head_bytes w =
    status_line w.status ++ type_line w.body ++ cache_lines w.status
    ++ location_line w.location ++ challenge_line w.status ++ length_line (length (unwrap_or w.body []))

abbrev pub reply_bytes : Written → List ℕ
reply_bytes w = head_bytes w ++ crlf ++ unwrap_or w.body []

-- what is answered to a head that is none
abbrev pub faulty_bytes : List ℕ
faulty_bytes =
    line (codes "HTTP/1.1 400 Bad Request") ++ line (codes "Content-Length: 0") ++ line (codes "Connection: close") ++ crlf
