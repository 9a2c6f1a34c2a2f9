-- Laws of parameters.
use Rattle.std.proofs.Common.{◌≡◌, ◌≤◌, ℕ, zero, suc, ◌+◌, List, [], ◌∷◌, ◌++◌, length, length-drop, map, take, Bool, true, false, ◌||◌, ◌==◌, refl, sym, ap, ◌∙◌, arith, Some, Ok, if◌then◌else◌, nat_eq}
use Rattle.std.specs.Prelude.{bytes_eq, All}
use Rattle.std.specs.List.{list_any, starts_with, position_or_len}
use Rattle.std.specs.Str.Lossy.{utf8_lossy, utf8_lossy_within, utf8_valid_len, replacement_bytes, after_first_chunk}
use Rattle.std.proofs.lemmas.Bool.{or_right}
use Rattle.std.proofs.lemmas.Bool.Decides.{nat_tests}
use Rattle.std.specs.Bool.{one_answer}
use Rattle.std.proofs.lemmas.List.{length-map}
use Rattle.std.proofs.lemmas.List.Folds.{list_any-append}
use Rattle.std.proofs.lemmas.Slice.Eq.{bytes_eq-Decides}
use Rattle.std.proofs.lemmas.List.Elements.{All-nil, All-cons, All-head, All-tail, All-map, All-filter, All-weaker}
use Rattle.std.proofs.lemmas.Str.{utf8_lossy_step}
use Rattle.percent_encoding.proofs.PercentLemmas.{length-percent_decode}
use Rattle.form_urlencoded.specs.Form.{raw_pairs, split, onto_first, split_pair, ampersand, decode, plus_to_space, is_nonempty}
use Rattle.params.specs.Form.{lossy_text, sent, pairs, has_replacement, is_damaged, any_twice, checked, read_params, value_sent}

pub same_bytes : (a b : List ℕ) → bytes_eq a b ≡ true → a ≡ b
same_bytes a b e = (bytes_eq-Decides a b).0 e

pub bytes_eq-sym : (a b : List ℕ) → bytes_eq a b ≡ bytes_eq b a
bytes_eq-sym a b = one_answer _ _ (bytes_eq-Decides a b) (λ e. sym (same_bytes b a e), λ e. (bytes_eq-Decides b a).1 (sym e))

-- no name stands twice behind a new one
pub any_twice-append : (names : List (List ℕ)) (name : List ℕ) → any_twice names ≡ false → list_any (bytes_eq name) names ≡ false → any_twice (names ++ name ∷ []) ≡ false
any_twice-append [] name once new = refl
any_twice-append (n ∷ names) name once new =
    let any = list_any-append (bytes_eq n) names (name ∷ []) in
    let same = bytes_eq-sym n name in
    let later = any_twice-append names name in
    grind (arith, any, same, later, once, new)

-- where U+FFFD doesn't stand in the text its bytes are those that were sent
has_replacement-after : (a b : List ℕ) → has_replacement b ≡ true → has_replacement (a ++ b) ≡ true
has_replacement-after [] b h = h
has_replacement-after (x ∷ a) b h =
    ap (λ r. starts_with nat_eq (x ∷ (a ++ b)) replacement_bytes || r) (has_replacement-after a b h) ∙ or_right _ true refl

undamaged : (bytes : List ℕ) → has_replacement (utf8_lossy bytes) ≡ false → utf8_lossy bytes ≡ bytes
unfolding utf8_lossy
undamaged bytes h =
    let step = utf8_lossy_step bytes in
    let damaged = has_replacement-after (take (utf8_valid_len bytes) bytes) (replacement_bytes ++ utf8_lossy (after_first_chunk bytes)) refl in
    let same = whole (length bytes) in
    grind (arith, nat_tests, step, damaged, same, h)
  where
    whole : (n : ℕ) → (utf8_valid_len bytes == length bytes) ≡ true → utf8_lossy_within n bytes ≡ bytes
    whole zero is = refl
    whole (suc n) is = ap (λ b. if b then bytes else take (utf8_valid_len bytes) bytes ++ (replacement_bytes ++ utf8_lossy_within n (after_first_chunk bytes))) is

-- a text without U+FFFD is no longer than the bytes that were sent for it
pub length-text_of : (bytes : List ℕ) → has_replacement (lossy_text bytes) ≡ false → length (lossy_text bytes) ≤ length bytes
length-text_of bytes h =
    let same = ap (λ (l : List ℕ). length l) (undamaged (decode bytes) h) in
    omega (arith, same, (length-percent_decode (map plus_to_space bytes)).0, length-map bytes plus_to_space)

-- ---- a value is no longer than its form

abbrev IsShort : ℕ → List ℕ → Type 0
IsShort n piece = length piece ≤ n

abbrev AllShort : ℕ → List (List ℕ) → Type 0
AllShort n pieces = All (IsShort n) pieces

abbrev HasShortValue : ℕ → List ℕ × List ℕ → Type 0
HasShortValue n p = length p.1 ≤ n

-- no piece of the bytes is longer than they are
short_pieces : (s : ℕ) (bytes : List ℕ) → AllShort (length bytes) (split s bytes)
unfolding split
short_pieces s [] = All-cons (IsShort 0) [] [] (omega arith) (All-nil (IsShort 0))
short_pieces s (b ∷ bytes) = by (b == s) (short_pieces s bytes)
  where
    longer : (pieces : List (List ℕ)) → AllShort (length bytes) pieces → AllShort (length (b ∷ bytes)) pieces
    longer pieces short = All-weaker (IsShort (length bytes)) (IsShort (length (b ∷ bytes))) (λ piece h. omega (arith, h)) pieces short

    onto : (pieces : List (List ℕ)) → AllShort (length bytes) pieces → AllShort (length (b ∷ bytes)) (onto_first b pieces)
    onto [] short = All-cons (IsShort (length (b ∷ bytes))) (b ∷ []) [] (omega arith) (All-nil (IsShort (length (b ∷ bytes))))
    onto (p ∷ ps) short = All-cons (IsShort (length (b ∷ bytes))) (b ∷ p) ps (omega (arith, All-head (IsShort (length bytes)) p ps short)) (longer ps (All-tail (IsShort (length bytes)) p ps short))

    by : (same : Bool) → AllShort (length bytes) (split s bytes)
        → AllShort (length (b ∷ bytes)) (if same then [] ∷ split s bytes else onto_first b (split s bytes))
    by true short = All-cons (IsShort (length (b ∷ bytes))) [] (split s bytes) (omega arith) (longer (split s bytes) short)
    by false short = onto (split s bytes) short

short_values : (input : List ℕ) → All (HasShortValue (length input)) (raw_pairs input)
unfolding raw_pairs
short_values input =
    All-map (HasShortValue (length input)) split_pair _
    (All-filter is_nonempty (λ piece. length (split_pair piece).1 ≤ length input) (split ampersand input)
    (All-weaker (IsShort (length input)) (λ piece. length (split_pair piece).1 ≤ length input) (λ piece h. omega (arith, h, length-drop (position_or_len (λ b. b == 61) piece + 1) piece))
    (split ampersand input) (short_pieces ampersand input)))

value_among : (name value : List ℕ) (n : ℕ) (raw : List (List ℕ × List ℕ)) → All (HasShortValue n) raw
    → list_any is_damaged (sent raw) ≡ false → value_sent name (sent raw) ≡ Some value → length value ≤ n
value_among name value n [] short whole found = cc found
value_among name value n (p ∷ raw) short whole found =
    let here = length-text_of p.1 in
    let first = All-head (HasShortValue n) p raw short in
    let later = value_among name value n raw (All-tail (HasShortValue n) p raw short) in
    grind (arith, here, first, later, whole, found)

checked_parts : (ps params : List (List ℕ × List ℕ)) → checked ps ≡ Ok params → (list_any is_damaged ps ≡ false) × (ps ≡ params)
checked_parts ps params ok = grind (arith, ok)

-- the value of a parameter is no longer than its form
pub length-value_of : (input name value : List ℕ) (params : List (List ℕ × List ℕ)) → read_params input ≡ Ok params
    → value_sent name params ≡ Some value → length value ≤ length input
length-value_of input name value params ok found =
    let parts = checked_parts (pairs input) params ok in
    value_among name value (length input) (raw_pairs input) (short_values input) parts.0 (ap (λ ps. value_sent name ps) parts.1 ∙ found)
