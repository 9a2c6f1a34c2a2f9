-- Laws of what a gateway sends: each number has one text, and no own key has a space.
use Rattle.std.proofs.Common.{◌≡◌, ◌≤◌, ◌<◌, ◌∙◌, ◌^◌, ℕ, ◌+◌, ◌-◌, ◌*◌, ◌/◌, ◌%◌, eqb, List, [], ◌∷◌, ◌++◌, append_assoc, Bool, true, false, cond, map, refl, sym, ap, subst, arith, Option, Some, None}
use Rattle.std.specs.Char.{is_ascii_digit}
use Rattle.std.specs.Fmt.{decimal}
use Rattle.std.specs.Prelude.{◌&&◌, nat_le}
use Rattle.std.specs.List.{list_all, after_first, before_first}
use Rattle.std.specs.Option.{option_and_then}
use Rattle.std.specs.Int.Digits.{digits_of}
use Rattle.std.proofs.lemmas.Bool.Decides.{nat_tests}
use Rattle.std.proofs.lemmas.Fmt.{decimal_by_steps, decimal_digit, decimal-digits_of}
use Rattle.std.proofs.lemmas.Int.Digits.{digits_of_step, first_digits_of}
use Rattle.std.proofs.lemmas.List.{append-nil, map-append}
use Rattle.clients.specs.Limits.{owner_number_limit}
use Rattle.consent.specs.Owners.{owner_numbered}
use Rattle.clients.specs.Gateway.{is_space, is_gateway_key, gateway_owner, with_digit, with_digits, number_in}
use Rattle.clients.specs.Owners.{own_owner}
use Rattle.clients.specs.RegistryRecord.{RegistryRecord}
use Rattle.registry_json.specs.Texts.{is_key, is_visible}

-- a digit behind a number's text
decimal_more : (k d : ℕ) → 1 ≤ k → k ≤ owner_number_limit → d < 10 → decimal (k * 10 + d) ≡ decimal k ++ (48 + d) ∷ []
decimal_more k d least most digit =
    let whole : (k * 10 + d) / 10 ≡ k = omega (arith, digit) in
    let rest : (k * 10 + d) % 10 ≡ d = omega (arith, digit) in
    let short : k * 10 + d < 2 ^ 64 = omega (arith, most, digit) in
    let shorter : k < 2 ^ 64 = omega (arith, most) in
    let behind : map (λ (e : ℕ). 48 + e) (digits_of 10 ((k * 10 + d) / 10) ++ ((k * 10 + d) % 10 ∷ [])) ≡ map (λ (e : ℕ). 48 + e) (digits_of 10 k) ++ (48 + d) ∷ [] =
    rw (whole, rest) (map-append (λ (e : ℕ). 48 + e) (digits_of 10 k) (d ∷ [])) in
    decimal-digits_of (k * 10 + d) (omega (arith, least)) short
    ∙ ap (λ (ds : List ℕ). map (λ (e : ℕ). 48 + e) ds) (digits_of_step 10 (k * 10 + d) (omega arith) (omega (arith, least)))
    ∙ behind
    ∙ ap (λ (ds : List ℕ). ds ++ (48 + d) ∷ []) (sym (decimal-digits_of k least shorter))

-- what is read is behind the number's text
digits_read : (k n : ℕ) (bs : List ℕ) → 1 ≤ k → k ≤ owner_number_limit → with_digits k bs ≡ Some n → decimal k ++ bs ≡ decimal n
digits_read k n [] least most read = let same : k ≡ n = cc read in append-nil (decimal k) ∙ ap decimal same
digits_read k n (b ∷ bs) least most read = by (is_ascii_digit b && nat_le (with_digit k b) owner_number_limit) refl (λ more below. digits_read (with_digit k b) n bs more below)
  where
    by : (t : Bool) → (is_ascii_digit b && nat_le (with_digit k b) owner_number_limit) ≡ t
        → (1 ≤ with_digit k b → with_digit k b ≤ owner_number_limit → with_digits (with_digit k b) bs ≡ Some n → decimal (with_digit k b) ++ bs ≡ decimal n)
        → decimal k ++ b ∷ bs ≡ decimal n
    by false test later = cc (sym (ap (λ t. cond t (with_digits (with_digit k b) bs) None) test) ∙ read)
    by true test later =
        let digit : (48 ≤ b) × (b ≤ 57) = (grind (arith, nat_tests, test), grind (arith, nat_tests, test)) in
        let below : with_digit k b ≤ owner_number_limit = grind (arith, nat_tests, test) in
        let same : 48 + (b - 48) ≡ b = omega (arith, digit.0) in
        let read_on : with_digits (with_digit k b) bs ≡ Some n = sym (ap (λ t. cond t (with_digits (with_digit k b) bs) None) test) ∙ read in
        let text : decimal (with_digit k b) ≡ decimal k ++ b ∷ [] = decimal_more k (b - 48) least most (omega (arith, digit.1)) ∙ ap (λ c. decimal k ++ c ∷ []) same in
        sym (append_assoc (decimal k) (b ∷ []) bs) ∙ sym (ap (λ ds. ds ++ bs) text) ∙ later (omega (arith, least)) below read_on

-- what is read as a number is its text
pub number_in-only : (text : List ℕ) (n : ℕ) → number_in text ≡ Some n → text ≡ decimal n
number_in-only [] n read = cc read
number_in-only (b ∷ bs) n read =
    let other : eqb b 48 ≡ false = grind (arith, read) in
    let test : (is_ascii_digit b && nat_le (with_digit 0 b) owner_number_limit) ≡ true = grind (arith, read) in
    let behind : with_digits (with_digit 0 b) bs ≡ Some n = grind (arith, nat_tests, read) in
    let above : 48 < b = grind (arith, nat_tests, other, test) in
    let below : b ≤ 57 = grind (arith, nat_tests, test) in
    let same : 48 + (b - 48) ≡ b = omega (arith, above) in
    let first : decimal (b - 48) ≡ b ∷ [] = decimal_digit (b - 48) (omega (arith, below)) ∙ ap (λ c. c ∷ []) same in
    let number : with_digit 0 b ≡ b - 48 = omega arith in
    sym (ap (λ ds. ds ++ bs) first)
    ∙ digits_read (b - 48) n bs (omega (arith, above)) (omega (arith, below)) (subst (λ (m : ℕ). with_digits m bs ≡ Some n) number behind)

one_more : (k d : ℕ) (xs : List ℕ) → with_digits k (xs ++ d ∷ []) ≡ option_and_then (λ m. with_digits m (d ∷ [])) (with_digits k xs)
one_more k d [] = refl
one_more k d (x ∷ xs) = by (is_ascii_digit x && nat_le (with_digit k x) owner_number_limit) (one_more (with_digit k x) d xs)
  where
    by : (t : Bool) → with_digits (with_digit k x) (xs ++ d ∷ []) ≡ option_and_then (λ m. with_digits m (d ∷ [])) (with_digits (with_digit k x) xs)
        → cond t (with_digits (with_digit k x) (xs ++ d ∷ [])) None ≡ option_and_then (λ m. with_digits m (d ∷ [])) (cond t (with_digits (with_digit k x) xs) None)
    by true later = later
    by false later = refl

last_digit : (k d : ℕ) → d < 10 → k * 10 + d ≤ owner_number_limit → with_digits k ((48 + d) ∷ []) ≡ Some (k * 10 + d)
last_digit k d digit most = grind (arith, nat_tests, digit, most)

digits_back : (n : ℕ) → n < 2 ^ 64 → n ≤ owner_number_limit → with_digits 0 (decimal n) ≡ Some n
digits_back = decimal_by_steps (λ n ds. n ≤ owner_number_limit → with_digits 0 ds ≡ Some n)
    (λ n digit most. (let whole : 0 * 10 + n ≡ n = omega arith in last_digit 0 n digit (omega (arith, most)) ∙ ap (λ m. Some m) whole))
    (λ n ds ten back most. (let whole : n / 10 * 10 + n % 10 ≡ n = omega arith in
    one_more 0 (48 + n % 10) ds
    ∙ ap (option_and_then (λ m. with_digits m ((48 + n % 10) ∷ []))) (back (omega (arith, most)))
    ∙ last_digit (n / 10) (n % 10) (omega arith) (omega (arith, most, whole))
    ∙ ap (λ m. Some m) whole))

-- and a number's text is read as the number
pub number_in-decimal : (n : ℕ) → 1 ≤ n → n ≤ owner_number_limit → number_in (decimal n) ≡ Some n
number_in-decimal n least most = by (digits_of 10 n) refl
  where
    by : (ds : List ℕ) → digits_of 10 n ≡ ds → number_in (decimal n) ≡ Some n
    by [] is = (let first = first_digits_of 10 n (omega arith) (omega (arith, least)) in absurd (omega (arith, rw is at first)))
    by (d ∷ ds) is =
        let first = first_digits_of 10 n (omega arith) (omega (arith, least)) in
        let more : 0 < d = rw is at first in
        let text : decimal n ≡ (48 + d) ∷ map (λ (e : ℕ). 48 + e) ds =
        decimal-digits_of n (omega (arith, least)) (omega (arith, most)) ∙ ap (map (λ (e : ℕ). 48 + e)) is in
        let back : with_digits 0 ((48 + d) ∷ map (λ (e : ℕ). 48 + e) ds) ≡ Some n = sym (ap (with_digits 0) text) ∙ digits_back n (omega (arith, most)) most in
        let other : eqb (48 + d) 48 ≡ false = grind (arith, nat_tests, more) in
        let numbered : owner_numbered n ≡ Some n = grind (arith, nat_tests, least) in
        ap number_in text ∙ ap (λ z. cond z None (option_and_then owner_numbered (with_digits 0 ((48 + d) ∷ map (λ (e : ℕ). 48 + e) ds)))) other
        ∙ ap (option_and_then owner_numbered) back ∙ numbered

-- what has the form of a key has nothing behind a space
no_space : (text : List ℕ) → list_all is_visible text ≡ true → after_first is_space text ≡ []
no_space [] visible = refl
no_space (b ∷ bs) visible = (let later = no_space bs in grind (arith, nat_tests, later, visible))

-- so who sends an own key does not speak by the gateway
pub own-apart : (sent : List ℕ) (rules : RegistryRecord) (number : ℕ) → own_owner sent rules.owners ≡ Some number → gateway_owner sent rules ≡ None
own-apart sent rules number own =
    let key : is_key sent ≡ true = grind (arith, own) in
    let visible : list_all is_visible sent ≡ true = grind (arith, key) in
    let none : number_in (after_first is_space sent) ≡ None = ap number_in (no_space sent visible) in
    by (is_gateway_key (before_first is_space sent) rules) none
  where
    by : (t : Bool) → number_in (after_first is_space sent) ≡ None → cond t (number_in (after_first is_space sent)) None ≡ None
    by true none = none
    by false none = refl
