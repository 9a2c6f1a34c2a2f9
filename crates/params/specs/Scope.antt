-- Scope names, and the sets of them that scope texts stand for (RFC 6749, section 3.3).
use Rattle.std.specs.Prelude.{◌≡◌, ◌⊎◌, ◌<◌, ◌^◌, ℕ, ◌+◌, ◌*◌, ◌/◌, ◌%◌, ◌≤◌, nat_le, nat_lt, ◌==◌, ◌&&◌, not, Bool, false, List, [], ◌∷◌, ◌++◌, length, IsTrue, bytes_eq, Option, Some, None, if◌then◌else◌}
use Rattle.std.specs.List.{list_any, list_all, slice_split, join_with_byte, position_from}
use Rattle.params.specs.Limits.{scope_name_count_limit, scope_name_limit}
use Rattle.params.specs.Form.{any_twice}
use Rattle.params.specs.declared.catalogue.CatalogueFault.{CatalogueFault}
use Rattle.params.specs.declared.catalogue.CatalogueFault.TheVariants.{BadScope, TooLong, Twice, Full, Memory}

-- a character of a scope token: %x21 / %x23-5B / %x5D-7E
abbrev pub is_scope_character : ℕ → Bool
is_scope_character b = nat_le 0x21 b && nat_le b 0x7E && not (b == 0x22) && not (b == 0x5C)

-- scope-token = 1*( %x21 / %x23-5B / %x5D-7E )
abbrev pub is_scope_token : List ℕ → Bool
is_scope_token text = nat_lt 0 (length text) && list_all is_scope_character text

-- a scope name: a scope token that is not too long
abbrev pub is_scope_name : List ℕ → Bool
is_scope_name text = is_scope_token text && nat_le (length text) scope_name_limit

-- the name stands in the list
abbrev pub is_among : List ℕ → List (List ℕ) → Bool
is_among name names = list_any (bytes_eq name) names

-- the place of the name in the list
abbrev pub place_among : List ℕ → List (List ℕ) → Option ℕ
place_among name names = position_from (bytes_eq name) 0 names

-- scope names, not too many, no two equal
pub record IsCatalogue (names : List (List ℕ)) : Type 0 where
  pub count : length names ≤ scope_name_count_limit
  pub scope_names : IsTrue (list_all is_scope_name names)
  pub distinct : any_twice names ≡ false

-- why the catalogue of these names does not take a further one: the first that holds
abbrev pub name_fault : List (List ℕ) → List ℕ → Option CatalogueFault
name_fault names name =
    if not (is_scope_token name) then Some BadScope
    else (if nat_lt scope_name_limit (length name) then Some TooLong
    else (if is_among name names then Some Twice
    else (if nat_le scope_name_count_limit (length names) then Some Full else None)))

-- why a further name was refused: its fault, or memory where it has none
abbrev pub IsNameRefusal : List (List ℕ) → List ℕ → CatalogueFault → Type 0
IsNameRefusal names name fault = (name_fault names name ≡ Some fault) ⊎ ((fault ≡ Memory) × (name_fault names name ≡ None))

-- the tokens of a scope text: the pieces between its spaces
abbrev pub tokens_of : List ℕ → List (List ℕ)
tokens_of text = slice_split (λ b. b == 0x20) text

-- the mask of the names that are among the tokens: bit i stands for name i
abbrev pub mask_of : List (List ℕ) → List (List ℕ) → ℕ
mask_of [] tokens = 0
mask_of (name ∷ names) tokens = (if is_among name tokens then 1 else 0) + 2 * mask_of names tokens

-- the set that a scope text stands for, where each of its tokens is a name of the catalogue
abbrev pub scope_mask : List (List ℕ) → List ℕ → Option ℕ
scope_mask names text =
    if list_all (λ token. is_among token names) (tokens_of text) then Some (mask_of names (tokens_of text)) else None

-- the names of a mask, in catalogue order
abbrev pub names_in_mask : List (List ℕ) → ℕ → List (List ℕ)
names_in_mask [] mask = []
names_in_mask (name ∷ names) mask = if mask % 2 == 1 then name ∷ names_in_mask names (mask / 2) else names_in_mask names (mask / 2)

-- the one written text of a set
abbrev pub scope_text : List (List ℕ) → ℕ → List ℕ
scope_text names mask = join_with_byte 0x20 (names_in_mask names mask)

-- the text with one more name
abbrev pub text_with_name : List ℕ → List ℕ → List ℕ
text_with_name [] name = name
text_with_name (b ∷ text) name = (b ∷ text) ++ 0x20 ∷ name

-- a text of a set of names is read as that set
abbrev pub IsReadBack : List (List ℕ) → ℕ → List ℕ → Type 0
IsReadBack names mask text = 0 < mask → mask < 2 ^ length names → scope_mask names text ≡ Some mask
