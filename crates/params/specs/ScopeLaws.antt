-- Laws of scope texts.
use Rattle.std.proofs.Common.{◌≡◌, ◌≤◌, ◌<◌, ◌^◌, ℕ, ◌+◌, ◌*◌, ◌-◌, ◌/◌, ◌==◌, List, [], ◌∷◌, ◌++◌, length, Bool, true, if◌then◌else◌, nat_le, Some, None, is_some, refl, arith, length-append}
use Rattle.std.specs.List.{list_all, list_any, position_from, join_with_byte}
use Rattle.std.proofs.lemmas.List.Folds.{list_all-append}
use Rattle.std.proofs.lemmas.Bool.{and_parts, leb-true}
use Rattle.std.proofs.lemmas.Bool.Decides.{nat_tests}
use Rattle.std.proofs.lemmas.List.Splits.{length-slice_split}
use Rattle.std.proofs.Math.Nat.{pow-succ'}
use Rattle.params.specs.Limits.{scope_name_limit, scope_text_limit}
use Rattle.params.specs.FormLaws.{any_twice-append, bytes_eq-sym}
use Rattle.params.specs.Scope.{IsCatalogue, name_fault, is_among, is_scope_name, is_scope_token, names_in_mask, scope_text, scope_mask, mask_of, tokens_of}

pub is_some-position_from : (t : List ℕ → Bool) (i : ℕ) (names : List (List ℕ)) → is_some (position_from t i names) ≡ list_any t names
is_some-position_from t i [] = refl
is_some-position_from t i (n ∷ names) = let later = is_some-position_from t (i + 1) names in grind (arith, later)

-- the names with one more are still a catalogue's, where it has no fault
pub IsCatalogue-push : (names : List (List ℕ)) (name : List ℕ) → IsCatalogue names → name_fault names name ≡ None → IsCatalogue (names ++ name ∷ [])
IsCatalogue-push names name is e =
    let more = length-append names (name ∷ []) in
    let joined = list_all-append is_scope_name names (name ∷ []) in
    let once = any_twice-append names name is.distinct in
    let few = is.count in
    let are = is.scope_names in
    record {
      count = grind (arith, nat_tests, more, few, e);
      scope_names = grind (arith, nat_tests, joined, are, e);
      distinct = grind (arith, once, e);
    }

-- what holds of each name holds of those of a mask
pub list_all-names_of : (p : List ℕ → Bool) (names : List (List ℕ)) (mask : ℕ) → list_all p names ≡ true → list_all p (names_in_mask names mask) ≡ true
list_all-names_of p [] mask all = refl
list_all-names_of p (n ∷ names) mask all = let later = list_all-names_of p names (mask / 2) in grind (arith, later, all)

length-names_of : (names : List (List ℕ)) (mask : ℕ) → length (names_in_mask names mask) ≤ length names
length-names_of [] mask = omega arith
length-names_of (n ∷ names) mask = let later = length-names_of names (mask / 2) in grind (arith, later)

length-name : (name : List ℕ) → is_scope_name name ≡ true → length name ≤ scope_name_limit
length-name name is = leb-true (length name) scope_name_limit (and_parts (is_scope_token name) (nat_le (length name) scope_name_limit) is).1

-- each name takes its characters and a space, and the last one no space
length-join : (names : List (List ℕ)) → list_all is_scope_name names ≡ true → length (join_with_byte 0x20 names) ≤ 33 * length names - 1
length-join [] all = omega arith
length-join (n ∷ []) all = omega (arith, length-name n (and_parts (is_scope_name n) true all).0)
length-join (n ∷ m ∷ names) all =
    let parts = and_parts (is_scope_name n) (list_all is_scope_name (m ∷ names)) all in
    omega (arith, length-name n parts.0, length-join (m ∷ names) parts.1, length-append n (0x20 ∷ join_with_byte 0x20 (m ∷ names)))

-- the written text of a set is short
pub length-scope_text : (names : List (List ℕ)) (mask : ℕ) → IsCatalogue names → length (scope_text names mask) ≤ scope_text_limit
length-scope_text names mask is =
    omega (arith, is.count, length-names_of names mask, length-join (names_in_mask names mask) (list_all-names_of is_scope_name names mask is.scope_names))

-- no names are a catalogue
pub IsCatalogue-nil : IsCatalogue []
IsCatalogue-nil = record { count = omega arith; scope_names = refl; distinct = refl }

-- ---- masks that are read

-- how a list of tokens sets the bit of a name
abbrev pub bit_of : List ℕ → List (List ℕ) → ℕ
bit_of n ts = if is_among n ts then 1 else 0

pub bit_of-small : (n : List ℕ) (ts : List (List ℕ)) → bit_of n ts < 2
bit_of-small n ts = grind arith

pub mask_of-lt : (names ts : List (List ℕ)) → mask_of names ts < 2 ^ length names
mask_of-lt [] ts = omega arith
mask_of-lt (n ∷ names) ts = omega (arith, mask_of-lt names ts, bit_of-small n ts, pow-succ' 2 (length names))

pub mask_of-positive : (names : List (List ℕ)) (t : List ℕ) (ts : List (List ℕ)) → is_among t names ≡ true → 0 < mask_of names (t ∷ ts)
mask_of-positive [] t ts known = cc known
mask_of-positive (n ∷ names) t ts known =
    let same = bytes_eq-sym n t in let later = mask_of-positive names t ts in grind (arith, same, later, known)

-- a mask that was read is of some names, and of no others
pub scope_mask-within : (names : List (List ℕ)) (text : List ℕ) (mask : ℕ) → scope_mask names text ≡ Some mask → (0 < mask) × (mask < 2 ^ length names)
scope_mask-within names text mask is = by (tokens_of text) (omega (arith, length-slice_split (λ b. b == 0x20) text)) is
  where
    by : (ts : List (List ℕ)) → 0 < length ts → (if list_all (λ token. is_among token names) ts then Some (mask_of names ts) else None) ≡ Some mask → (0 < mask) × (mask < 2 ^ length names)
    by [] some e = absurd (omega arith)
    by (t ∷ ts) some e =
        let positive = mask_of-positive names t ts in let small = mask_of-lt names (t ∷ ts) in grind (arith, positive, small, e)
