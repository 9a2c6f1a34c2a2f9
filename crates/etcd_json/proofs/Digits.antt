-- A text of digits, as `parse` reads it.
use Rattle.std.proofs.Common.{◌≡◌, ◌<◌, ◌^◌, ◌&&◌, ℕ, Bool, true, false, nat_lt, List, [], ◌∷◌, length, None, Result, Ok, Err, refl, subst, arith}
use Rattle.std.specs.Char.{digit_value, is_ascii_digit}
use Rattle.std.specs.List.{list_all}
use Rattle.std.specs.Result.{OkIff, result_ok}
use Rattle.std.specs.Str.Parse.{AllDigits, digits_value, IsNumeral, ParsesUnsigned, without_leading_plus}
use Rattle.std.proofs.lemmas.Bool.{and_parts}
use Rattle.etcd_json.specs.Replies.{is_number, number_told}

digit_below : (b : ℕ) → is_ascii_digit b ≡ true → digit_value b < 10
digit_below b is = grind arith

pub all_digits : (text : List ℕ) → list_all is_ascii_digit text ≡ true → AllDigits 10 text
all_digits [] are = tt
all_digits (b ∷ bs) are =
    let parts = and_parts (is_ascii_digit b) (list_all is_ascii_digit bs) are in
    (digit_below b parts.0, all_digits bs parts.1)

pub no_plus : (text : List ℕ) → list_all is_ascii_digit text ≡ true → without_leading_plus text ≡ text
no_plus [] are = refl
no_plus (b ∷ bs) are =
    let parts = and_parts (is_ascii_digit b) (list_all is_ascii_digit bs) are in
    grind (arith, parts.0)

none_of : (text : List ℕ) (b : Bool) → is_number text ≡ b → list_all is_ascii_digit text ≡ true → (IsNumeral 10 text × (digits_value 10 text < 2 ^ 64) → ⊥) → None ≡ number_told text
none_of text false is are not = rw is refl
none_of text true is are not =
    let parts = and_parts (nat_lt 0 (length text) && list_all is_ascii_digit text) (nat_lt (digits_value 10 text) 0x10000000000000000) is in
    let some = and_parts (nat_lt 0 (length text)) (list_all is_ascii_digit text) parts.0 in
    let long : 0 < length text = grind (arith, some.0) in
    let below : digits_value 10 text < 2 ^ 64 = grind (arith, parts.1) in
    absurd (not ((long, all_digits text are), below))

number : {E : Type 0} (text : List ℕ) (r : Result ℕ E) → list_all is_ascii_digit text ≡ true
    → OkIff r (IsNumeral 10 text × (digits_value 10 text < 2 ^ 64)) (digits_value 10 text) → result_ok r ≡ number_told text
number text (Ok n) are parses =
    let long : 0 < length text = parses.0.0.0 in
    let below : digits_value 10 text < 2 ^ 64 = parses.0.1 in
    let is : is_number text ≡ true = grind (arith, are, long, below) in
    rw (is, parses.1) refl
number text (Err e) are parses = none_of text (is_number text) refl are parses

-- what `parse` gives is the number that the digits say
pub parsed : {E : Type 0} (text : List ℕ) (r : Result ℕ E) → list_all is_ascii_digit text ≡ true → ParsesUnsigned 64 10 text r → result_ok r ≡ number_told text
parsed text r are parses =
    number text r are (subst (λ t. OkIff r (IsNumeral 10 t × (digits_value 10 t < 2 ^ 64)) (digits_value 10 t)) (no_plus text are) parses)
