-- What replies tell: what is wanted has to be there, in its form; what a reply has beside it is passed over.
use Rattle.std.specs.Prelude.{ℕ, List, [], ◌∷◌, length, Bool, false, ◌&&◌, nat_lt, if◌then◌else◌, codes, map, Option, None, Some, option_and_then, option_map}
use Rattle.std.specs.Char.{is_ascii_digit}
use Rattle.std.specs.List.{list_all}
use Rattle.std.specs.Str.{is_utf8}
use Rattle.std.specs.Str.Parse.{digits_value}
use Rattle.base64.specs.Engines.{standard}
use Rattle.base64.specs.GeneralPurpose.{decoded_of}
use Rattle.json.specs.Find.{as_array, as_bool, as_number, as_str, get}
use Rattle.json.specs.Json.{Json, Items, no_items, item, document}
use Rattle.etcd_json.specs.declared.reply.Entry.{Entry}
use Rattle.etcd_json.specs.declared.reply.Found.{Found}
use Rattle.etcd_json.specs.declared.reply.Granted.{Granted}
use Rattle.etcd_json.specs.declared.reply.Header.{Header}
use Rattle.etcd_json.specs.declared.reply.Reply.{Reply}
use Rattle.etcd_json.specs.declared.reply.Response.{Response}
use Rattle.etcd_json.specs.declared.reply.Response.TheVariants as response

-- the next step, where this one has a value
infixl 10 ◌>>=◌
abbrev pub ◌>>=◌ : {A B : Type 0} → Option A → (A → Option B) → Option B
found >>= next = option_and_then next found

-- MEMBERS

-- one digit or more, for a number below 2^64
abbrev pub is_number : List ℕ → Bool
is_number text = nat_lt 0 (length text) && list_all is_ascii_digit text && nat_lt (digits_value 10 text) 0x10000000000000000

-- the number that digits tell
abbrev pub number_told : List ℕ → Option ℕ
number_told text = if is_number text then Some (digits_value 10 text) else None

-- a text that is in the object
abbrev pub text_in : List ℕ → Json → Option (List ℕ)
text_in name value = get name value >>= as_str

-- a number that is, as digits in quotes
abbrev pub number_in : List ℕ → Json → Option ℕ
number_in name value = text_in name value >>= number_told

-- bytes that are, in base64
abbrev pub bytes_in : List ℕ → Json → Option (List ℕ)
bytes_in name value = text_in name value >>= decoded_of standard

-- what is left out where it is 0, empty or false
abbrev pub or_absent : {A : Type 0} → A → (Json → Option A) → Option Json → Option A
or_absent nothing told None = Some nothing
or_absent nothing told (Some member) = told member

abbrev pub number_or_0 : List ℕ → Json → Option ℕ
number_or_0 name value = or_absent 0 (λ member. as_str member >>= number_told) (get name value)

abbrev pub bytes_or_none : List ℕ → Json → Option (List ℕ)
bytes_or_none name value = or_absent [] (λ member. as_str member >>= decoded_of standard) (get name value)

abbrev pub flag_in : List ℕ → Json → Option Bool
flag_in name value = or_absent false as_bool (get name value)

-- what each of the items tells
abbrev pub each_of : {A : Type 0} → (Json → Option A) → Items → Option (List A)
each_of told no_items = Some []
each_of told (item value later) = told value >>= λ first. option_map (λ rest. first ∷ rest) (each_of told later)

-- what each item of a list tells
abbrev pub each_in : {A : Type 0} → List ℕ → (Json → Option A) → Json → Option (List A)
each_in name told value = or_absent [] (λ member. as_array member >>= each_of told) (get name value)

-- WHAT IS TOLD

abbrev pub header_of : Json → Option Header
header_of value = do
  cluster ← number_in (codes "cluster_id") value
  revision ← number_in (codes "revision") value
  Some (record { cluster = cluster; revision = revision })

abbrev pub header_in : Json → Option Header
header_in value = get (codes "header") value >>= header_of

-- what stands under a key
pub record EntryFact : Type 0 where
  pub key : List ℕ
  pub value : List ℕ
  pub created : ℕ
  pub written : ℕ
  pub lease : ℕ

abbrev pub entry_in : Json → Option EntryFact
entry_in value = do
  key ← bytes_in (codes "key") value
  content ← bytes_or_none (codes "value") value
  created ← number_in (codes "create_revision") value
  written ← number_in (codes "mod_revision") value
  lease ← number_or_0 (codes "lease") value
  Some (record { key = key; value = content; created = created; written = written; lease = lease })

-- what stands under keys, and whether there is more
pub record FoundFact : Type 0 where
  pub entries : List EntryFact
  pub more : Bool

abbrev pub found_in : Json → Option FoundFact
found_in value = do
  entries ← each_in (codes "kvs") entry_in value
  more ← flag_in (codes "more") value
  Some (record { entries = entries; more = more })

-- what an operation comes to
pub data ResponseFact : Type 0 where
  Put : ResponseFact
  Deleted : ResponseFact
  FoundThere : FoundFact → ResponseFact

-- which of the three members is there
abbrev pub response_by : Option Json → Option Json → Option Json → Option ResponseFact
response_by (Some range) put deleted = option_map FoundThere (found_in range)
response_by None (Some put) deleted = Some Put
response_by None None (Some deleted) = Some Deleted
response_by None None None = None

abbrev pub response_in : Json → Option ResponseFact
response_in value =
    response_by (get (codes "response_range") value) (get (codes "response_put") value) (get (codes "response_delete_range") value)

-- what a transaction comes to
pub record ReplyFact : Type 0 where
  pub header : Header
  pub succeeded : Bool
  pub responses : List ResponseFact

abbrev pub reply_in : Json → Option ReplyFact
reply_in value = do
  header ← header_in value
  succeeded ← flag_in (codes "succeeded") value
  responses ← each_in (codes "responses") response_in value
  Some (record { header = header; succeeded = succeeded; responses = responses })

abbrev pub granted_in : Json → Option Granted
granted_in value = do
  lease ← number_in (codes "ID") value
  seconds ← number_in (codes "TTL") value
  Some (record { lease = lease; seconds = seconds })

-- for how many seconds a lease begins anew: 0 where it is no more
abbrev pub seconds_in : Json → Option ℕ
seconds_in value = do
  result ← get (codes "result") value
  number_or_0 (codes "TTL") result

-- THE TEXT OF A REPLY

-- the JSON that the bytes are
abbrev pub json_of : List ℕ → Option Json
json_of bytes = if is_utf8 bytes then document bytes else None

abbrev pub transaction_told : List ℕ → Option ReplyFact
transaction_told bytes = json_of bytes >>= reply_in

abbrev pub granted_told : List ℕ → Option Granted
granted_told bytes = json_of bytes >>= granted_in

abbrev pub keepalive_told : List ℕ → Option ℕ
keepalive_told bytes = json_of bytes >>= seconds_in

abbrev pub revision_told : List ℕ → Option Header
revision_told bytes = json_of bytes >>= header_in

abbrev pub login_told : List ℕ → Option (List ℕ)
login_told bytes = json_of bytes >>= text_in (codes "token")

-- the code of a fault
abbrev pub code_told : List ℕ → Option ℕ
code_told bytes = json_of bytes >>= λ value. get (codes "code") value >>= as_number >>= number_told

-- WHAT IS READ

abbrev pub entry_fact : Entry → EntryFact
entry_fact e = record { key = e.key.items; value = e.value.items; created = e.created; written = e.written; lease = e.lease }

abbrev pub found_fact : Found → FoundFact
found_fact f = record { entries = map entry_fact f.entries.items; more = f.more }

abbrev pub response_fact : Response → ResponseFact
response_fact response.Put = Put
response_fact response.Deleted = Deleted
response_fact (response.Found f) = FoundThere (found_fact f)

abbrev pub reply_fact : Reply → ReplyFact
reply_fact r = record { header = r.header; succeeded = r.succeeded; responses = map response_fact r.responses.items }
