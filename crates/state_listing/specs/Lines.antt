-- The lines that tell what a state file stands for. Each is an object of JSON (RFC 8259), and a line feed.
use Rattle.std.specs.Prelude.{◌++◌, ◌-◌, ◌==◌, ℕ, List, [], ◌∷◌, Bool, Option, None, Some, codes, decimal, flat_map, length, map, nat_lt, option_map, take, if◌then◌else◌, slice_get}
use Rattle.std.specs.List.{list_any}
use Rattle.consent.specs.Versions.{version_number}
use Rattle.consent.specs.declared.grant.TokenKind.TheVariants.{Access, Refresh}
use Rattle.consent.specs.declared.kept_consent.KeptConsent.{KeptConsent}
use Rattle.hex.specs.Hex.{encode_lower}
use Rattle.change_codec.specs.Rules.{ClientFact, RulesFact}
use Rattle.consent.specs.RecordFacts.{Code, KindFact, RecordFact, Token as TokenFact}
use Rattle.rules_codec.specs.Facts.{HookFact, StandingFact}
use Rattle.json.specs.Print.{print}
use Rattle.json.specs.Token.{Token, begin_array, begin_object, boolean, end_array, end_object, key, number, string}
use Rattle.params.specs.Scope.{names_in_mask}
use Rattle.state_listing.specs.declared.facts.FileFacts.{FileFacts}

-- MEMBERS

-- an object of which the first member is its kind
abbrev pub opened : List ℕ → List Token
opened kind = begin_object ∷ key (codes "kind") ∷ string kind ∷ []

-- the object of these tokens, closed, in a line
abbrev pub object_line : List Token → List ℕ
object_line tokens = print (tokens ++ end_object ∷ []) ++ codes "\n"

abbrev pub text_tokens : List ℕ → List ℕ → List Token
text_tokens name text = key name ∷ string text ∷ []

abbrev pub number_tokens : List ℕ → ℕ → List Token
number_tokens name n = key name ∷ number (decimal n) ∷ []

abbrev pub boolean_member : List ℕ → Bool → List Token
boolean_member name b = key name ∷ boolean b ∷ []

-- the name of the client with the number, if there is one
abbrev pub client_name : List ClientFact → ℕ → Option (List ℕ)
client_name clients client = if client == 0 then None else option_map (λ c. c.name) (slice_get clients (client - 1))

-- the client by its name, or by its number where it has none
abbrev pub client_by : Option (List ℕ) → ℕ → List Token
client_by (Some name) client = text_tokens (codes "client") name
client_by None client = number_tokens (codes "client") client

abbrev pub client_members : RulesFact → ℕ → List Token
client_members rules client = client_by (client_name rules.clients client) client

-- the names of the scope, in the order of the rules
abbrev pub scope_members : RulesFact → ℕ → List Token
scope_members rules scope = key (codes "scope") ∷ begin_array ∷ map string (names_in_mask rules.scopes scope) ++ end_array ∷ []

-- an owner; a family of the client's own has none
abbrev pub owner_members : ℕ → List Token
owner_members owner = if owner == 0 then [] else number_tokens (codes "owner") owner

-- the scope of a family's code, if one opened it
abbrev pub code_scope_members : RulesFact → Option ℕ → List Token
code_scope_members rules (Some scope) = scope_members rules scope
code_scope_members rules None = []

-- an age below 0: so many seconds the last moment is ahead
abbrev pub age_ahead : ℕ → List Token
age_ahead seconds = key (codes "age") ∷ number (codes "-" ++ decimal seconds) ∷ []

-- how many seconds lie between the last moment and now, where that is known
abbrev pub age_members : ℕ → Option ℕ → List Token
age_members last (Some now) = if nat_lt now last then age_ahead (last - now) else number_tokens (codes "age") (now - last)
age_members last None = []

-- LINES

abbrev pub consent_line : RulesFact → KeptConsent → List ℕ
consent_line rules c =
    object_line (opened (codes "consent")
    ++ number_tokens (codes "owner") c.owner
    ++ client_members rules c.client
    ++ scope_members rules c.mask)

-- the family of a code or token
abbrev pub family_line : RulesFact → RecordFact → List ℕ
family_line rules r =
    object_line (opened (codes "family")
    ++ number_tokens (codes "family") r.family
    ++ client_members rules r.client
    ++ owner_members r.owner
    ++ code_scope_members rules r.code_scope
    ++ boolean_member (codes "ended") r.ended)

abbrev pub kind_name : KindFact → List ℕ
kind_name (Code owner redirect challenge) = codes "code"
kind_name (TokenFact Access) = codes "access"
kind_name (TokenFact Refresh) = codes "refresh"

-- a code or token; of its digest the first four bytes are told
abbrev pub token_line : RulesFact → RecordFact → List ℕ
token_line rules r =
    object_line (opened (kind_name r.kind)
    ++ text_tokens (codes "digest") (encode_lower (take 4 r.digest))
    ++ number_tokens (codes "family") r.family
    ++ scope_members rules r.scope
    ++ number_tokens (codes "moment") r.moment
    ++ number_tokens (codes "life") r.life
    ++ boolean_member (codes "spent") r.spent)

abbrev pub hook_line : HookFact → List ℕ
hook_line h =
    object_line (opened (codes "hook")
    ++ text_tokens (codes "name") h.name
    ++ number_tokens (codes "version") (version_number h.version)
    ++ number_tokens (codes "bytes") (length h.code))

-- the file as a whole; `last` is the greatest moment that it tells
abbrev pub file_line : ℕ → FileFacts → List ℕ
file_line last file =
    object_line (opened (codes "file")
    ++ number_tokens (codes "bytes") file.bytes
    ++ number_tokens (codes "batches") file.batches
    ++ number_tokens (codes "torn") file.torn
    ++ number_tokens (codes "last") last
    ++ age_members last file.looked_at)

-- ALL LINES

-- the first record of each family but those seen before
abbrev pub firsts : List ℕ → List RecordFact → List RecordFact
firsts seen [] = []
firsts seen (r ∷ rs) =
    if list_any (λ f. f == r.family) seen then firsts seen rs else r ∷ firsts (r.family ∷ seen) rs

abbrev pub listing_text : StandingFact → FileFacts → List ℕ
listing_text standing file =
    flat_map (consent_line standing.rules) standing.consents
    ++ (flat_map (family_line standing.rules) (firsts [] standing.records)
    ++ (flat_map (token_line standing.rules) standing.records
    ++ (flat_map hook_line standing.hooks ++ file_line standing.greatest file)))
