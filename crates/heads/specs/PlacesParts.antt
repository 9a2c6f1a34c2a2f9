-- Beside Places: only the contracts of this crate's own parts and their proofs cite this, no public clause.
use Rattle.std.specs.Prelude.{◌≡◌, ◌≤◌, ◌++◌, ℕ, List, [], ◌∷◌, length, map, Option, Some, MatchOption, codes, ⊤}
use Rattle.httparse.specs.Spans.{header_bytes, span_bytes, IsWithin}
use Rattle.httparse.specs.declared.spans.HeaderSpan.{HeaderSpan}
use Rattle.httparse.specs.declared.spans.Span.{Span}
use Rattle.heads.specs.Limits.{body_size_limit}
use Rattle.heads.specs.Fields.{AreGoodFields, field_values, field_value, content_length}
use Rattle.heads.specs.declared.fields.Lookup.{Lookup}
use Rattle.heads.specs.declared.fields.Lookup.TheVariants.{Absent, One, Twice}
use Rattle.heads.specs.declared.fields.FieldSpans.{FieldSpans}
use Rattle.heads.specs.declared.fields.Lookups.{Lookups}
use Rattle.heads.specs.Places.{IsOptionWithin, bytes_at_place}

-- a look-up's answer, where these values have the name
abbrev pub IsLookupOf : List (List ℕ) → List ℕ → Lookup → Type 0
IsLookupOf values bytes Absent = values ≡ []
IsLookupOf values bytes (One span) = values ≡ span_bytes bytes span ∷ []
IsLookupOf values bytes Twice = 2 ≤ length values

abbrev pub IsLookup : List ℕ → List (List ℕ × List ℕ) → List ℕ → Lookup → Type 0
IsLookup name fields bytes lookup = IsLookupOf (field_values name fields) bytes lookup

-- with one value more the one answer is the other
abbrev pub LooksOn : Lookup → Span → Lookup → Type 0
LooksOn old span new =
    (values : List (List ℕ)) (bytes : List ℕ) → IsLookupOf values bytes old → IsLookupOf (values ++ span_bytes bytes span ∷ []) bytes new

-- the names and the values at these places
abbrev pub fields_at : List ℕ → List HeaderSpan → List (List ℕ × List ℕ)
fields_at bytes headers = map (header_bytes bytes) headers

-- the place lies in the first n bytes
abbrev pub IsLookupWithin : ℕ → Lookup → Type 0
IsLookupWithin n Absent = ⊤
IsLookupWithin n (One span) = IsWithin n span
IsLookupWithin n Twice = ⊤

-- what a name finds among the fields at these places
pub record Looks (name bytes : List ℕ) (headers : List HeaderSpan) (lookup : Lookup) : Type 0 where
  pub found : IsLookup name (fields_at bytes headers) bytes lookup
  pub within : IsLookupWithin (length bytes) lookup

-- what those names find that count
pub record AreLookups (bytes : List ℕ) (headers : List HeaderSpan) (found : Lookups) : Type 0 where
  pub transfer : Looks (codes "transfer-encoding") bytes headers found.transfer
  pub authorization : Looks (codes "authorization") bytes headers found.authorization
  pub content_type : Looks (codes "content-type") bytes headers found.content_type
  pub owner_key : Looks (codes "x-owner-key") bytes headers found.owner_key
  pub operator_key : Looks (codes "x-operator-key") bytes headers found.operator_key
  pub content_length : Looks (codes "content-length") bytes headers found.content_length

-- the place of the value of this name, which stands at most once
pub record IsPlaceOf (name bytes : List ℕ) (fields : List (List ℕ × List ℕ)) (place : Option Span) : Type 0 where
  pub once : length (field_values name fields) ≤ 1
  pub value : bytes_at_place bytes place ≡ field_value name fields
  pub within : IsOptionWithin (length bytes) place

-- it is answered; nothing, where the name stands twice or more
abbrev pub FindsPlaceOf : List ℕ → List ℕ → List (List ℕ × List ℕ) → Option (Option Span) → Type 0
FindsPlaceOf name bytes fields found = MatchOption found (2 ≤ length (field_values name fields)) (λ place. IsPlaceOf name bytes fields place)

-- the fields are good, and their values lie at these places
pub record AreFieldsIn (bytes : List ℕ) (fields : List (List ℕ × List ℕ)) (spans : FieldSpans) : Type 0 where
  pub transfer : field_values (codes "transfer-encoding") fields ≡ []
  pub authorization : IsPlaceOf (codes "authorization") bytes fields spans.authorization
  pub content_type : IsPlaceOf (codes "content-type") bytes fields spans.content_type
  pub owner_key : IsPlaceOf (codes "x-owner-key") bytes fields spans.owner_key
  pub operator_key : IsPlaceOf (codes "x-operator-key") bytes fields spans.operator_key
  pub body : content_length fields ≡ Some spans.body_length
  pub small : spans.body_length ≤ body_size_limit

-- that is answered; nothing, where they are not good
abbrev pub FindsFields : List ℕ → List (List ℕ × List ℕ) → Option FieldSpans → Type 0
FindsFields bytes fields found = MatchOption found (¬ (AreGoodFields fields)) (λ spans. AreFieldsIn bytes fields spans)
