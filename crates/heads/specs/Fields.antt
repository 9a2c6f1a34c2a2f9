-- What of a head's fields counts (RFC 9110, section 5).
use Rattle.std.specs.Prelude.{◌≡◌, ℕ, ◌≤◌, List, [], ◌∷◌, length, map, filter, Bool, bytes_eq, Option, Some, None, codes, IsSome}
use Rattle.std.specs.Char.{to_ascii_lowercase}
use Rattle.heads.specs.ContentLength.{length_by}

abbrev pub lowercase : List ℕ → List ℕ
lowercase text = map to_ascii_lowercase text

-- whether a field, its name and its value, has this name, ASCII case ignored
abbrev pub field_has_name : List ℕ → List ℕ × List ℕ → Bool
field_has_name name field = bytes_eq (lowercase field.0) (lowercase name)

-- the values of the fields of this name, in order
unfoldable pub field_values : List ℕ → List (List ℕ × List ℕ) → List (List ℕ)
field_values name fields = map (λ f. f.1) (filter (field_has_name name) fields)

abbrev pub first_value : List (List ℕ) → Option (List ℕ)
first_value [] = None
first_value (value ∷ more) = Some value

-- the value of the field of this name, where there is one
abbrev pub field_value : List ℕ → List (List ℕ × List ℕ) → Option (List ℕ)
field_value name fields = first_value (field_values name fields)

-- how long the body is. None: Content-Length is faulty
abbrev pub content_length : List (List ℕ × List ℕ) → Option ℕ
content_length fields = length_by (field_values (codes "content-length") fields)

-- no Transfer-Encoding, a Content-Length that is not faulty, and the others at most once
pub record AreGoodFields (fields : List (List ℕ × List ℕ)) : Type 0 where
  pub transfer : field_values (codes "transfer-encoding") fields ≡ []
  pub authorization : length (field_values (codes "authorization") fields) ≤ 1
  pub content_type : length (field_values (codes "content-type") fields) ≤ 1
  pub owner_key : length (field_values (codes "x-owner-key") fields) ≤ 1
  pub operator_key : length (field_values (codes "x-operator-key") fields) ≤ 1
  pub body : IsSome (content_length fields)
