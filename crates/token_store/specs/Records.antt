-- The store's tables, and what is seen of them.
use Rattle.std.specs.Prelude.{◌≡◌, ◌+◌, ◌-◌, ◌%◌, ℕ, List, [], Bool, true, false, ◌==◌, ◌&&◌, if◌then◌else◌, Option, Some, None, is_some, nat_lt, not, unwrap_or, option_map, map, count_by, string_bytes, nat_eq, ◌<◌, ◌≤◌}
use Rattle.std.specs.List.{list_any, IsDistinct}
use Rattle.std.specs.declared.boxed.Box.{Box}
use Rattle.std.specs.declared.alloc.Global.{Global}
use Rattle.std.specs.Str.{bytes_eq}
use Rattle.std.specs.Ordering.{nat_cmp, ordering_then}
use Rattle.std.specs.declared.cmp.Ordering.{Ordering}
use Rattle.std.specs.BTreeMap.{is_at}
use Rattle.std.specs.Map.{lookup, keys_of, values_of}
use Rattle.consent.specs.RecordFacts as fact
use Rattle.consent.specs.RecordFacts.{KindFact}
use Rattle.consent.specs.Owners.{owner_number}
use Rattle.consent.specs.Limits.{code_life}
use Rattle.consent.specs.declared.change.Home.{Home}
use Rattle.shelf.specs.Standing.{stand_entries, IsStanding}
use Rattle.token_store.specs.declared.record.CodeTexts.{CodeTexts}
use Rattle.token_store.specs.declared.record.Given.{Given}
use Rattle.token_store.specs.declared.record.Given.TheVariants.{Code, Token, UsedCode}
use Rattle.token_store.specs.declared.record.Record.{Record}
use Rattle.token_store.specs.declared.record.Shared.{Shared}
use Rattle.token_store.specs.declared.tables.Tables.{Tables}
use Rattle.consent.specs.declared.change.CodeFacts.{CodeFacts}
use Rattle.token_store.specs.Found.{SeenFamily}
use Rattle.token_store.specs.Kept.{Kept}
use Rattle.token_store.specs.Image.{kept_told}

-- RECORDS

-- a code by the texts that are kept
abbrev pub texts_seen : Box CodeTexts Global → KindFact
texts_seen texts = fact.Code texts.value.owner (string_bytes texts.value.redirect) (string_bytes texts.value.challenge)

-- what was given, without where its texts lie in memory
abbrev pub fact_in : Given → KindFact
fact_in (Code client texts) = texts_seen texts
fact_in (UsedCode client owner) = fact.Code owner [] []
fact_in (Token client life spent kind) = fact.Token kind

-- it was used
abbrev pub is_used : Given → Bool
is_used (Code client texts) = false
is_used (UsedCode client owner) = true
is_used (Token client life spent kind) = spent

-- as it is once it was used: a code's texts are gone
abbrev pub used_given : Given → Given
used_given (Code client texts) = UsedCode client texts.value.owner
used_given (UsedCode client owner) = UsedCode client owner
used_given (Token client life spent kind) = Token client life true kind

abbrev pub used : Record → Record
used r = record r { given = used_given r.given }

-- whose it is
abbrev pub client_in : Given → ℕ
client_in (Code client texts) = client
client_in (UsedCode client owner) = client
client_in (Token client life spent kind) = client

abbrev pub client_of : Record → ℕ
client_of r = client_in r.given

-- how many seconds it is good for: a code's are always as many
abbrev pub life_in : Given → ℕ
life_in (Code client texts) = code_life
life_in (UsedCode client owner) = code_life
life_in (Token client life spent kind) = life

abbrev pub life_of : Record → ℕ
life_of r = life_in r.given

-- as it is where it is of the client
abbrev pub homed_given : ℕ → Given → Given
homed_given home (Code client texts) = Code home texts
homed_given home (UsedCode client owner) = UsedCode home owner
homed_given home (Token client life spent kind) = Token home life spent kind

abbrev pub homed : ℕ → Record → Record
homed home r = record r { given = homed_given home r.given }

-- FAMILIES

-- the scope of the family's code, if one opened it
abbrev pub code_scope : Shared → Option ℕ
code_scope s = if s.coded then Some s.scope else None

-- RECORDS

-- a record under its digest as it is seen, by what its family shares
abbrev pub kept_under : Shared → List ℕ → Record → Kept
kept_under s digest r = kept_told (record {
  digest = digest;
  kind = fact_in r.given;
  family = r.family;
  client = s.client;
  owner = s.owner;
  scope = r.scope;
  moment = r.moment;
  life = life_of r;
  code_scope = code_scope s;
  spent = is_used r.given;
  ended = s.ended;
})

-- FAMILIES

-- what no family has
abbrev pub nothing_shared : Shared
nothing_shared = record { client = 0; owner = 0; scope = 0; until = 0; count = 0; coded = false; ended = false }

abbrev pub or_nothing : Option Shared → Shared
or_nothing s = unwrap_or s nothing_shared

-- the family with the number
abbrev pub family_numbered : List (ℕ × Shared) → ℕ → Option Shared
family_numbered families n = lookup (nat_eq n) families

-- what the family with the number shares
abbrev pub shared_at : List (ℕ × Shared) → ℕ → Shared
shared_at families n = or_nothing (family_numbered families n)

-- what is seen of a family
abbrev pub shared_seen : Shared → SeenFamily
shared_seen s = record { client = s.client; owner = s.owner; code_scope = code_scope s; ended = s.ended }

-- THE VIEW

abbrev pub kept_in : List (ℕ × Shared) → List ℕ × Record → Kept
kept_in families e = kept_under (shared_at families e.1.family) e.0 e.1

abbrev pub all_kept : List (ℕ × Shared) → List (List ℕ × Record) → List Kept
all_kept families records = map (kept_in families) records

-- all records, each with what its family shares
abbrev pub kept_of : Tables → List Kept
kept_of t = all_kept t.families.entries (stand_entries t.records)

-- THE TIES

-- the first moment at which a record is expired
abbrev pub expiry : Record → ℕ
expiry r = r.moment + life_of r

abbrev pub expiry_of : Option Record → Option ℕ
expiry_of o = option_map expiry o

-- how many records are of the family
abbrev pub member_count : List (List ℕ × Record) → ℕ → ℕ
member_count records n = count_by (λ r. r.family == n) (values_of records)

-- the number's place in the index: each sixteen from its last to its first, which fills the nodes of numbers that are given in their order
unfoldable pub turned : ℕ → ℕ
turned n = n - n % 16 + (15 - n % 16)

-- what the index tells of a family: its owner and client, and the place of its number
abbrev pub OwnerKey : Type 0
OwnerKey = (ℕ × ℕ) × ℕ

-- the family has not ended, and its code is of this owner and this client
abbrev pub is_coded : OwnerKey → Option Shared → Bool
is_coded key None = false
is_coded key (Some s) = not s.ended && s.coded && (s.owner == key.0.0) && (s.client == key.0.1)

-- the order of the index
abbrev pub owner_cmp : OwnerKey → OwnerKey → Ordering
owner_cmp x y =
    ordering_then (ordering_then (nat_cmp x.0.0 y.0.0) (nat_cmp x.0.1 y.0.1)) (nat_cmp x.1 y.1)

-- the family is in the index
abbrev pub has_owner : List OwnerKey → OwnerKey → Bool
has_owner owners key = list_any (is_at (owner_cmp key)) owners

-- the index has those that have not ended and whose code is known
abbrev pub IsOwned : List (ℕ × Shared) → List OwnerKey → Type 0
IsOwned families owners = (key : OwnerKey) → has_owner owners key ≡ is_coded key (family_numbered families (turned key.1))

-- each family's count is that of its records
abbrev pub IsCounted : List (ℕ × Shared) → List (List ℕ × Record) → Type 0
IsCounted families records = (n : ℕ) → (shared_at families n).count ≡ member_count records n

-- each family has records
abbrev pub ArePeopled : List (ℕ × Shared) → Type 0
ArePeopled families = (n : ℕ) → is_some (family_numbered families n) ≡ true → 0 < (shared_at families n).count

-- no record is of a family of a greater number
abbrev pub IsBelow : List (List ℕ × Record) → ℕ → Type 0
IsBelow records last = (n : ℕ) → last < n → member_count records n ≡ 0

-- each record is of the client of its family
abbrev pub AllHomed : List (ℕ × Shared) → List (List ℕ × Record) → Type 0
AllHomed families records =
    (digest : List ℕ) (r : Record) → lookup (bytes_eq digest) records ≡ Some r → client_of r ≡ (shared_at families r.family).client

-- the record is of the family, and unexpired
abbrev pub is_member_at : ℕ → ℕ → Record → Bool
is_member_at family moment r = (r.family == family) && nat_lt moment (expiry r)

-- from then on, until when something of each family is unexpired is known
abbrev pub IsLasting : List (ℕ × Shared) → List (List ℕ × Record) → ℕ → Type 0
IsLasting families records swept =
    (n t : ℕ) → swept ≤ t → list_any (is_member_at n t) (values_of records) ≡ nat_lt t (shared_at families n).until

-- The tables tell of the same records and families, and of no family of a greater number than the last.
pub record Ties (families : List (ℕ × Shared)) (records : List (List ℕ × Record)) (owners : List OwnerKey) (last swept : ℕ) : Type 0 where
  -- each digest is there once
  pub once : IsDistinct bytes_eq (keys_of records)
  pub homed : AllHomed families records
  pub lasting : IsLasting families records swept
  pub counted : IsCounted families records
  pub owned : IsOwned families owners
  pub below : IsBelow records last

pub record IsTied (t : Tables) : Type 0 where
  pub standing : IsStanding expiry client_of t.records
  pub ties : Ties t.families.entries (stand_entries t.records) t.owners.keys t.last t.swept

-- NEW RECORDS

-- a code by the texts that it is given for
abbrev pub texts_given : CodeFacts → KindFact
texts_given facts = fact.Code facts.owner facts.redirect.now facts.challenge.now

-- what a new family without a code shares
abbrev pub home_shared : Home → ℕ → Shared
home_shared home count =
    record { client = home.client; owner = owner_number home.owner; scope = 0; until = 0; count = count; coded = false; ended = false }

-- what a new code's family shares, with so many records
abbrev pub code_shared : CodeFacts → ℕ → Shared
code_shared facts count =
    record { client = facts.client; owner = facts.owner; scope = facts.scope; until = 0; count = count; coded = true; ended = false }
