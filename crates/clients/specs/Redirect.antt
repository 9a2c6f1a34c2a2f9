-- Redirect URIs (RFC 6749, section 3.1.2).
use Rattle.std.specs.Prelude.{ℕ, List, [], ◌∷◌, ◌++◌, length, Bool, false, ◌&&◌, ◌||◌, nat_le, is_none, codes, Result, Ok, Err, Some, None, if◌then◌else◌}
use Rattle.clients.specs.Names.{Data, Items, no_items, item, ConfigFault, BadRedirect, Refusal, Redirects, Client}
use Rattle.std.specs.Str.{bytes_eq}
use Rattle.url.specs.Parts.{Parts, serialize}
use Rattle.url.specs.Parser.{Parsed, parse_url}
use Rattle.clients.specs.Limits.{redirect_limit}
use Rattle.registry_json.specs.Faults.{◌>>=◌}
use Rattle.registry_json.specs.Json.{text_of}
use Rattle.registry_json.specs.Spots.{located}

-- an http or https URL without query and fragment
abbrev pub is_plain_web : Parts → Bool
is_plain_web url = (bytes_eq url.scheme (codes "http") || bytes_eq url.scheme (codes "https"))
    && is_none url.query && is_none url.fragment

-- such a URL that is written as this text
abbrev pub is_written : List ℕ → Parsed Parts → Bool
is_written text (Ok url) = is_plain_web url && bytes_eq (serialize url) text
is_written text (Err _) = false

-- at most 2,048 bytes, which are the URL Standard's spelling of a plain web URL
abbrev pub is_redirect : List ℕ → Bool
is_redirect text = nat_le (length text) redirect_limit && is_written text (parse_url None text)

-- a string that is a redirect URI
abbrev pub redirect_of : Data → Result (List ℕ) ConfigFault
redirect_of value = do
  text ← text_of value
  if is_redirect text then Ok text else Err BadRedirect

-- the redirect URIs of the client with the number so far, and those of these items after them
abbrev pub redirects_after : ℕ → List (List ℕ) → Items → Result (List (List ℕ)) Refusal
redirects_after client redirects no_items = Ok redirects
redirects_after client redirects (item d ds) = do
  redirect ← located (Client client (Redirects (Some (length redirects)))) (redirect_of d)
  redirects_after client (redirects ++ redirect ∷ []) ds
