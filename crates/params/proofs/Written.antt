-- The written text of a set of names, and that it is read back as that set.
use Rattle.std.proofs.Common.{◌≡◌, ◌≢◌, ◌≤◌, ℕ, ◌+◌, ◌/◌, ◌%◌, ◌^◌, ◌<◌, List, [], ◌∷◌, ◌++◌, length, Bool, true, false, ◌==◌, refl, sym, ap, ◌∙◌, arith, append_assoc, drop, take, nat_le, nat_lt, Some}
use Rattle.params.proofs.Names.{bytes_eq, All, list_all, join_with_byte, pow-succ', or_parts, or_left, or_right, and_parts, and_from, ne_eqb, eq-eqb}
use Rattle.params.proofs.Names.{take-append-drop, drop_all, list_all-append, list_any-append, bytes_eq-Decides, any_twice, is_scope_character, is_scope_token, is_scope_name, is_among, IsCatalogue}
use Rattle.params.proofs.Names.{tokens_of, mask_of, names_in_mask, scope_mask, scope_text, text_with_name, list_all-names_of}
use Rattle.std.proofs.lemmas.List.Elements.{All-nil, All-cons}
use Rattle.std.proofs.lemmas.List.Splits.{slice_split_none, slice_split_at}
use Rattle.params.proofs.Masks.{mask_of-cons_other, mask_of-nil}
use Rattle.std.proofs.lemmas.Bool.Decides.{nat_tests}

-- the written text, when the names so far have this text and those are left
abbrev pub text_after : List ℕ → List (List ℕ) → List ℕ
text_after text [] = text
text_after text (name ∷ names) = text_with_name text (join_with_byte 0x20 (name ∷ names))

pub text_after-cons : (text name : List ℕ) (names : List (List ℕ)) → is_scope_name name ≡ true → text_after text (name ∷ names) ≡ text_after (text_with_name text name) names
text_after-cons text name [] is = refl
text_after-cons [] [] (m ∷ ms) is = cc is
text_after-cons [] (c ∷ cs) (m ∷ ms) is = refl
text_after-cons (b ∷ bs) name (m ∷ ms) is = ap (λ l. b ∷ l) (sym (append_assoc bs (0x20 ∷ name) (0x20 ∷ join_with_byte 0x20 (m ∷ ms))))

list_all-drop : (p : List ℕ → Bool) (i : ℕ) (names : List (List ℕ)) → list_all p names ≡ true → list_all p (drop i names) ≡ true
list_all-drop p i names all =
    (and_parts (list_all p (take i names)) (list_all p (drop i names)) (sym (list_all-append p (take i names) (drop i names)) ∙ ap (λ l. list_all p l) (take-append-drop i names) ∙ all)).1

-- one turn of the loop over the names, where the bit is set
pub text_after-odd : (text : List ℕ) (names : List (List ℕ)) (i left : ℕ) (name : List ℕ) → list_all is_scope_name names ≡ true → drop i names ≡ name ∷ drop (i + 1) names → left % 2 ≡ 1
    → text_after text (names_in_mask (drop i names) left) ≡ text_after (text_with_name text name) (names_in_mask (drop (i + 1) names) (left / 2))
text_after-odd text names i left name all at odd =
    let is = (and_parts (is_scope_name name) (list_all is_scope_name (drop (i + 1) names)) (ap (λ l. list_all is_scope_name l) (sym at) ∙ list_all-drop is_scope_name i names all)).0 in
    rw (at, eq-eqb (left % 2) 1 odd) (text_after-cons text name (names_in_mask (drop (i + 1) names) (left / 2)) is)

-- and where it is not
pub text_after-even : (text : List ℕ) (names : List (List ℕ)) (i left : ℕ) (name : List ℕ) → drop i names ≡ name ∷ drop (i + 1) names → left % 2 ≢ 1
    → text_after text (names_in_mask (drop i names) left) ≡ text_after text (names_in_mask (drop (i + 1) names) (left / 2))
text_after-even text names i left name at even = rw (at, ne_eqb (left % 2) 1 even) refl

-- past the last name the text is whole
pub text_after-end : (text whole : List ℕ) (names : List (List ℕ)) (i left : ℕ) → length names ≤ i
    → text_after text (names_in_mask (drop i names) left) ≡ whole → text ≡ whole
text_after-end text whole names i left past is = ap (λ l. text_after text (names_in_mask l left)) (sym (drop_all i names past)) ∙ is

-- the text is not empty where a name is left
some_after : (text name : List ℕ) (names : List (List ℕ)) → is_scope_name name ≡ true → 0 < length (text_after text (name ∷ names))
some_after (b ∷ text) name names is = omega arith
some_after [] [] names is = cc is
some_after [] (c ∷ cs) [] is = omega arith
some_after [] (c ∷ cs) (m ∷ ms) is = omega arith

pub text_after-some : (text : List ℕ) (names : List (List ℕ)) (i left : ℕ) (name : List ℕ) → list_all is_scope_name names ≡ true → drop i names ≡ name ∷ drop (i + 1) names → left % 2 ≡ 1
    → 0 < length (text_after text (names_in_mask (drop i names) left))
text_after-some text names i left name all at odd =
    let is = (and_parts (is_scope_name name) (list_all is_scope_name (drop (i + 1) names)) (ap (λ l. list_all is_scope_name l) (sym at) ∙ list_all-drop is_scope_name i names all)).0 in
    rw (at, eq-eqb (left % 2) 1 odd) (some_after text name (names_in_mask (drop (i + 1) names) (left / 2)) is)

-- ---- read back

space_free : (b : ℕ) → is_scope_character b ≡ true → (b == 0x20) ≡ false
space_free b is = grind (arith, nat_tests, is)

-- a scope name has no space
no_space : (name : List ℕ) → list_all is_scope_character name ≡ true → All (λ b. (b == 0x20) ≡ false) name
no_space [] is = All-nil (λ b. (b == 0x20) ≡ false)
no_space (b ∷ bs) is =
    let parts = and_parts (is_scope_character b) (list_all is_scope_character bs) is in
    All-cons (λ x. (x == 0x20) ≡ false) b bs (space_free b parts.0) (no_space bs parts.1)

name_free : (name : List ℕ) → is_scope_name name ≡ true → All (λ b. (b == 0x20) ≡ false) name
name_free name is = no_space name (and_parts (nat_lt 0 (length name)) (list_all is_scope_character name) (and_parts (is_scope_token name) (nat_le (length name) 32) is).0).1

tokens_of-join : (name : List ℕ) (names : List (List ℕ)) → list_all is_scope_name (name ∷ names) ≡ true → tokens_of (join_with_byte 0x20 (name ∷ names)) ≡ name ∷ names
tokens_of-join name [] all = slice_split_none (λ b. b == 0x20) name (name_free name (and_parts (is_scope_name name) true all).0)
tokens_of-join name (m ∷ ms) all =
    let parts = and_parts (is_scope_name name) (list_all is_scope_name (m ∷ ms)) all in
    slice_split_at (λ b. b == 0x20) name 0x20 (join_with_byte 0x20 (m ∷ ms)) (name_free name parts.0) refl ∙ ap (λ l. name ∷ l) (tokens_of-join m ms parts.1)

all_among : (front names : List (List ℕ)) → list_all (λ t. is_among t (front ++ names)) names ≡ true
all_among front [] = refl
all_among front (n ∷ names) = and_from _ _
    (list_any-append (bytes_eq n) front (n ∷ names) ∙ or_right _ _ (or_left _ _ ((bytes_eq-Decides n n).1 refl)))
    (ap (λ l. list_all (λ t. is_among t l) names) (sym (append_assoc front (n ∷ []) names)) ∙ all_among (front ++ n ∷ []) names)

-- a name that is not in the list is not among those of a mask
among-names_of : (q : List ℕ) (names : List (List ℕ)) (mask : ℕ) → is_among q names ≡ false → is_among q (names_in_mask names mask) ≡ false
among-names_of q [] mask new = refl
among-names_of q (n ∷ names) mask new = let later = among-names_of q names (mask / 2) in grind (arith, later, new)

-- the mask of the names of a mask is that mask
mask_of-names_of : (names : List (List ℕ)) (mask : ℕ) → any_twice names ≡ false → mask < 2 ^ length names → mask_of names (names_in_mask names mask) ≡ mask
mask_of-names_of [] mask once fits = omega arith
mask_of-names_of (n ∷ names) mask once fits =
    let parts = or_parts (is_among n names) (any_twice names) once in
    let itself = (bytes_eq-Decides n n).1 refl in
    let other = mask_of-cons_other names n (names_in_mask names (mask / 2)) parts.0 in
    let none = among-names_of n names (mask / 2) parts.0 in
    let later = mask_of-names_of names (mask / 2) parts.1 (omega (arith, pow-succ' 2 (length names))) in
    grind (arith, nat_tests, itself, other, none, later)

pub read_back : (names : List (List ℕ)) (mask : ℕ) → IsCatalogue names → 0 < mask → mask < 2 ^ length names → scope_mask names (scope_text names mask) ≡ Some mask
read_back names mask is some fits =
    by (names_in_mask names mask) (mask_of-names_of names mask is.distinct fits) (list_all-names_of is_scope_name names mask is.scope_names) (list_all-names_of (λ t. is_among t names) names mask (all_among [] names))
  where
    by : (ts : List (List ℕ)) → mask_of names ts ≡ mask → list_all is_scope_name ts ≡ true → list_all (λ t. is_among t names) ts ≡ true → scope_mask names (join_with_byte 0x20 ts) ≡ Some mask
    by [] made all known = absurd (omega (arith, made, mask_of-nil names))
    by (t ∷ ts) made all known = rw (tokens_of-join t ts all, known, made) refl
