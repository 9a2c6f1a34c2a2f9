-- The parameters of a query or a form (RFC 6749, section 3.1 and appendix B).
use Rattle.std.specs.Prelude.{◌≡◌, ◌⊎◌, ◌<◌, ℕ, List, [], ◌∷◌, length, map, filter, Bool, false, ◌||◌, bytes_eq, nat_eq, Option, Result, Ok, Err, if◌then◌else◌}
use Rattle.std.specs.List.{list_any, starts_with}
use Rattle.std.specs.Map.{lookup}
use Rattle.std.specs.Cow.{cow_str_bytes}
use Rattle.std.specs.declared.borrow.CowStr.{CowStr}
use Rattle.std.specs.Str.Lossy.{utf8_lossy, replacement_bytes}
use Rattle.form_urlencoded.specs.Form.{raw_pairs, decode, is_nonempty}
use Rattle.params.specs.declared.params.ParamFault.{ParamFault}
use Rattle.params.specs.declared.params.ParamFault.TheVariants.{Twice, NotUtf8, Memory}

-- the text of a name or a value, with U+FFFD where its bytes are not UTF-8
abbrev pub lossy_text : List ℕ → List ℕ
lossy_text bytes = utf8_lossy (decode bytes)

-- the pairs, decoded, less those with an empty value
abbrev pub sent : List (List ℕ × List ℕ) → List (List ℕ × List ℕ)
sent raw = filter (λ p. is_nonempty p.1) (map (λ p. (lossy_text p.0, lossy_text p.1)) raw)

-- the pairs of a form that count as sent
abbrev pub pairs : List ℕ → List (List ℕ × List ℕ)
pairs input = sent (raw_pairs input)

-- U+FFFD stands in the text
abbrev pub has_replacement : List ℕ → Bool
has_replacement [] = false
has_replacement (b ∷ bs) = starts_with nat_eq (b ∷ bs) replacement_bytes || has_replacement bs

-- U+FFFD stands in the name or in the value
abbrev pub is_damaged : List ℕ × List ℕ → Bool
is_damaged p = has_replacement p.0 || has_replacement p.1

-- some text of the list stands in it twice
abbrev pub any_twice : List (List ℕ) → Bool
any_twice [] = false
any_twice (x ∷ xs) = list_any (bytes_eq x) xs || any_twice xs

-- the names of the pairs
abbrev pub names_of_pairs : List (List ℕ × List ℕ) → List (List ℕ)
names_of_pairs ps = map (λ p. p.0) ps

-- the pairs, where none is damaged and no name stands twice, or the first fault
abbrev pub checked : List (List ℕ × List ℕ) → Result (List (List ℕ × List ℕ)) ParamFault
checked ps =
    if list_any is_damaged ps then Err NotUtf8
    else (if any_twice (names_of_pairs ps) then Err Twice else Ok ps)

-- the parameters of a form in the order in which they were sent, or the first fault
abbrev pub read_params : List ℕ → Result (List (List ℕ × List ℕ)) ParamFault
read_params input = checked (pairs input)

-- why a form was refused: its fault, or memory where it has a pair
abbrev pub IsFormRefusal : List ℕ → ParamFault → Type 0
IsFormRefusal input fault =
    (read_params input ≡ Err fault) ⊎ ((fault ≡ Memory) × (0 < length (raw_pairs input)))

-- the texts of names and values
abbrev pub texts_of : {A : Type 0} → List (CowStr A × CowStr A) → List (List ℕ × List ℕ)
texts_of ps = map (λ p. (cow_str_bytes p.0, cow_str_bytes p.1)) ps

-- the value of the parameter of this name
abbrev pub value_sent : List ℕ → List (List ℕ × List ℕ) → Option (List ℕ)
value_sent name params = lookup (bytes_eq name) params
