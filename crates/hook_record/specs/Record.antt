-- The record that a token hook is given: its fields in both versions, and the ask that it holds.
use Rattle.std.specs.Prelude.{ℕ, ◌≡◌, ◌==◌, ◌&&◌, List, [], ◌∷◌, take, drop, if◌then◌else◌, Option, Some, None}
use Rattle.std.specs.Int.{Width, w32, w64, byte_len, to_le_bytes, from_le_bytes}
use Rattle.std.specs.List.{flat_map}
use Rattle.std.specs.Option.{option_map}
use Rattle.hook_record.specs.declared.Kind.{Kind}
use Rattle.hook_record.specs.declared.Kind.TheVariants.{Code, Refresh, ClientCredentials}
use Rattle.hook_record.specs.declared.Ask.{Ask}

-- a field of a record: the offset of its first byte, its width, and the number in it
pub record Field : Type 0 where
  pub offset : ℕ
  pub width : Width
  pub number : ℕ

abbrev pub u32 : ℕ → ℕ → Field
u32 offset number = record { offset = offset; width = w32; number = number }

abbrev pub u64 : ℕ → ℕ → Field
u64 offset number = record { offset = offset; width = w64; number = number }

-- the number by which a record names the kind of a grant
abbrev pub kind_number : Kind → ℕ
kind_number Code = 1
kind_number Refresh = 2
kind_number ClientCredentials = 3

-- where the scope mask and the lifetime of the grant stand, which the hook may write
abbrev pub scope_offset : ℕ
scope_offset = 40

abbrev pub life_offset : ℕ
life_offset = 48

-- the fields that both versions have, in their order, before those of version 2 alone
abbrev pub fields_before : List Field → ℕ → Ask → List Field
fields_before further version ask =
    u32 0 version
    ∷ u32 4 (kind_number ask.kind)
    ∷ u64 8 ask.now
    ∷ u64 16 ask.client
    ∷ u64 24 ask.owner
    ∷ u64 32 ask.asked
    ∷ u64 scope_offset ask.scope
    ∷ u32 life_offset ask.life
    ∷ u32 52 0
    ∷ u64 56 ask.allowed
    ∷ further

-- the fields that version 2 has behind them
abbrev pub further_fields : Ask → List Field
further_fields ask =
    u64 64 ask.consented
    ∷ u32 72 ask.access_limit
    ∷ u32 76 ask.refresh_limit
    ∷ u64 80 0
    ∷ u64 88 0
    ∷ []

abbrev pub fields_v1 : Ask → List Field
fields_v1 ask = fields_before [] 1 ask

abbrev pub fields_v2 : Ask → List Field
fields_v2 ask = fields_before (further_fields ask) 2 ask

-- the bytes of fields, one behind the other, each with its low byte first
abbrev pub bytes_of : List Field → List ℕ
bytes_of fields = flat_map (λ f. to_le_bytes f.width f.number) fields

-- the record of an ask in version 1
abbrev pub record_v1 : Ask → List ℕ
record_v1 ask = bytes_of (fields_v1 ask)

-- the record of an ask in version 2
abbrev pub record_v2 : Ask → List ℕ
record_v2 ask = bytes_of (fields_v2 ask)

-- the number that stands at an offset
abbrev pub number_at : Width → List ℕ → ℕ → ℕ
number_at width bytes offset = from_le_bytes width (take (byte_len width) (drop offset bytes))

abbrev pub u32_at : List ℕ → ℕ → ℕ
u32_at bytes offset = number_at w32 bytes offset

abbrev pub u64_at : List ℕ → ℕ → ℕ
u64_at bytes offset = number_at w64 bytes offset

-- the number of a field stands at its offset
abbrev pub StandsIn : List ℕ → Field → Type 0
StandsIn bytes f = number_at f.width bytes f.offset ≡ f.number

-- the kind that a number names
abbrev pub kind_of : ℕ → Option Kind
kind_of n =
    if n == 1 then Some Code else if n == 2 then Some Refresh else if n == 3 then Some ClientCredentials else None

-- an ask with 0 for what version 1 does not tell
abbrev pub without_further : Ask → Ask
without_further ask = record ask { consented = 0; access_limit = 0; refresh_limit = 0 }

-- the ask of a given kind that stands in the fields of both versions
abbrev pub ask_of : List ℕ → Kind → Ask
ask_of bytes kind = record {
  kind = kind;
  now = u64_at bytes 8;
  client = u64_at bytes 16;
  owner = u64_at bytes 24;
  asked = u64_at bytes 32;
  scope = u64_at bytes scope_offset;
  life = u32_at bytes life_offset;
  allowed = u64_at bytes 56;
  consented = 0;
  access_limit = 0;
  refresh_limit = 0;
}

-- an ask with what version 2 tells beyond it
abbrev pub with_further : List ℕ → Ask → Ask
with_further bytes ask = record ask {
  consented = u64_at bytes 64;
  access_limit = u32_at bytes 72;
  refresh_limit = u32_at bytes 76;
}

-- the ask in the fields of both versions, unless the version is another, the kind is none or bytes 52 to 55 are not 0
abbrev pub ask_at_version : ℕ → List ℕ → Option Ask
ask_at_version version bytes =
    if (u32_at bytes 0 == version) && (u32_at bytes 52 == 0) then option_map (ask_of bytes) (kind_of (u32_at bytes 4))
    else None

-- the ask of a record of version 1
abbrev pub ask_in_v1 : List ℕ → Option Ask
ask_in_v1 bytes = ask_at_version 1 bytes

-- the ask of a record of version 2, unless bytes 80 to 95 are not 0
abbrev pub ask_in_v2 : List ℕ → Option Ask
ask_in_v2 bytes =
    if (u64_at bytes 80 == 0) && (u64_at bytes 88 == 0) then option_map (with_further bytes) (ask_at_version 2 bytes)
    else None
