-- One more field is looked at.
use Rattle.std.proofs.Common.{◌≡◌, ℕ, List, [], ◌∷◌, ◌++◌, map, true, false, refl, append-nil}
use Rattle.std.proofs.lemmas.List.{map-append}
use Rattle.std.proofs.lemmas.List.Elements.{filter-append}
use Rattle.httparse.specs.Spans.{header_bytes, span_bytes}
use Rattle.httparse.specs.declared.spans.HeaderSpan.{HeaderSpan}
use Rattle.heads.specs.declared.fields.Lookup.{Lookup}
use Rattle.heads.specs.Fields.{field_values, field_has_name}
use Rattle.heads.specs.declared.fields.Lookup.TheVariants.{Absent}
use Rattle.heads.specs.declared.fields.TheConstants.{NOTHING}
use Rattle.heads.specs.PlacesParts.{AreLookups, IsLookup, Looks, LooksOn, fields_at}

values_more : (name : List ℕ) (fields : List (List ℕ × List ℕ)) (f : List ℕ × List ℕ) → field_values name (fields ++ f ∷ []) ≡ field_values name fields ++ field_values name (f ∷ [])
unfolding field_values
values_more name fields f = rw (filter-append (field_has_name name) fields (f ∷ []), map-append) refl

one_named : (name : List ℕ) (f : List ℕ × List ℕ) → field_has_name name f ≡ true → field_values name (f ∷ []) ≡ f.1 ∷ []
unfolding field_values
one_named name f e = rw e refl

one_other : (name : List ℕ) (f : List ℕ × List ℕ) → field_has_name name f ≡ false → field_values name (f ∷ []) ≡ []
unfolding field_values
one_other name f e = rw e refl

pub no_values : (name : List ℕ) → field_values name [] ≡ []
unfolding field_values
no_values name = refl

-- a field more was looked at
module _ (name bytes : List ℕ) (headers : List HeaderSpan) (h : HeaderSpan) where
  all_more : field_values name (fields_at bytes (headers ++ h ∷ [])) ≡ field_values name (fields_at bytes headers) ++ field_values name (header_bytes bytes h ∷ [])
  all_more = rw map-append (values_more name (map (header_bytes bytes) headers) (header_bytes bytes h))

  pub lookup_named : (old found : Lookup) → field_has_name name (header_bytes bytes h) ≡ true → LooksOn old h.value found
      → IsLookup name (fields_at bytes headers) bytes old → IsLookup name (fields_at bytes (headers ++ h ∷ [])) bytes found
  lookup_named old found e on was = rw (all_more, one_named name (header_bytes bytes h) e) (on _ bytes was)

  pub lookup_other : (found : Lookup) → field_has_name name (header_bytes bytes h) ≡ false
      → IsLookup name (fields_at bytes headers) bytes found → IsLookup name (fields_at bytes (headers ++ h ∷ [])) bytes found
  lookup_other found e was = rw (all_more, one_other name (header_bytes bytes h) e, append-nil) was

-- before the first no name finds anything
nothing_named : (name bytes : List ℕ) → Looks name bytes [] Absent
nothing_named name bytes = record { found = no_values name; within = tt }

pub nothing_found : (bytes : List ℕ) → AreLookups bytes [] NOTHING
nothing_found bytes = record {
  transfer = nothing_named _ bytes;
  authorization = nothing_named _ bytes;
  content_type = nothing_named _ bytes;
  owner_key = nothing_named _ bytes;
  operator_key = nothing_named _ bytes;
  content_length = nothing_named _ bytes;
}
