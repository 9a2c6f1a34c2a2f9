-- The order of keys is the order of the numbers that they spell.
use Rattle.std.proofs.Common.{◌≡◌, ◌<◌, ◌≤◌, ◌^◌, ◌%◌, ◌/◌, ◌+◌, ◌*◌, ◌==◌, ◌&&◌, ◌||◌, ◌++◌, ◌∙◌, ◌⊎◌, inl, inr, ℕ, zero, suc, List, [], ◌∷◌, length, nat_lt, slice_index, Bool, true, false, refl, sym, ap, subst, arith, append-nil}
use Rattle.std.proofs.lemmas.Bool.{cases_lt, eq-eqb}
use Rattle.std.proofs.lemmas.Bool.Decides.{nat_tests}
use Rattle.std.proofs.lemmas.Nat.{from_be_bytes-to_be_bytes_8}
use Rattle.std.specs.Int.{from_be_bytes, to_be_bytes, w64}
use Rattle.hex.specs.Hex.{encode_with, lower_digits}
use Rattle.etcd_client.specs.Effects.{is_below}
use Rattle.etcd_keys.specs.Keys.{digits}

-- at the first place at which they differ, the one has the lesser byte
pub data Ahead : List ℕ → List ℕ → Type 0 where
  here : (x y : ℕ) (xs ys : List ℕ) → x < y → Ahead (x ∷ xs) (y ∷ ys)
  later : (x : ℕ) (xs ys : List ℕ) → Ahead xs ys → Ahead (x ∷ xs) (x ∷ ys)

self_eq : (x : ℕ) → (x == x) ≡ true
self_eq x = eq-eqb x x refl

self_lt : (x : ℕ) → nat_lt x x ≡ false
self_lt x = grind (arith, nat_tests)

pub less : (x y : ℕ) → x < y → nat_lt x y ≡ true
less x y lt = grind (arith, nat_tests, lt)

pub not_less : (x y : ℕ) → x < y → nat_lt y x ≡ false
not_less x y lt = grind (arith, nat_tests, lt)

pub not_same : (x y : ℕ) → x < y → (y == x) ≡ false
not_same x y lt = grind (arith, nat_tests, lt)

pub not_same_up : (x y : ℕ) → x < y → (x == y) ≡ false
not_same_up x y lt = grind (arith, nat_tests, lt)

three_by : (x y : ℕ) → (x < y) ⊎ (y ≤ x) → (y < x) ⊎ (x ≤ y) → (x < y) ⊎ ((x ≡ y) ⊎ (y < x))
three_by x y (inl lt) other = inl lt
three_by x y (inr ge) (inl gt) = inr (inr gt)
three_by x y (inr ge) (inr le) = inr (inl (omega (arith, ge, le)))

pub three : (x y : ℕ) → (x < y) ⊎ ((x ≡ y) ⊎ (y < x))
three x y = three_by x y (cases_lt x y) (cases_lt y x)

-- behind the same bytes
one_front : (x : ℕ) (rest : Bool) → (nat_lt x x || (x == x && rest)) ≡ rest
one_front x rest = ap (λ (lt : Bool). lt || (x == x && rest)) (self_lt x) ∙ ap (λ (same : Bool). same && rest) (self_eq x)

pub behind_front : (front a b : List ℕ) → is_below (front ++ a) (front ++ b) ≡ is_below a b
behind_front [] a b = refl
behind_front (x ∷ xs) a b = one_front x (is_below (xs ++ a) (xs ++ b)) ∙ behind_front xs a b

pub not_below_itself : (xs : List ℕ) → is_below xs xs ≡ false
not_below_itself [] = refl
not_below_itself (x ∷ xs) = one_front x (is_below xs xs) ∙ not_below_itself xs

pub not_below_nothing : (xs : List ℕ) → is_below xs [] ≡ false
not_below_nothing [] = refl
not_below_nothing (x ∷ xs) = refl

pub ahead_below : (xs ys c d : List ℕ) → Ahead xs ys → is_below (xs ++ c) (ys ++ d) ≡ true
ahead_below xs ys c d (here x y more others lt) = ap (λ (b : Bool). b || (x == y && is_below (more ++ c) (others ++ d))) (less x y lt)
ahead_below xs ys c d (later x more others ahead) = one_front x (is_below (more ++ c) (others ++ d)) ∙ ahead_below more others c d ahead

pub ahead_above : (xs ys c d : List ℕ) → Ahead xs ys → is_below (ys ++ d) (xs ++ c) ≡ false
ahead_above xs ys c d (here x y more others lt) =
    let rest : Bool = is_below (others ++ d) (more ++ c) in
    ap (λ (b : Bool). b || (y == x && rest)) (not_less x y lt) ∙ ap (λ (b : Bool). b && rest) (not_same x y lt)
ahead_above xs ys c d (later x more others ahead) = one_front x (is_below (others ++ d) (more ++ c)) ∙ ahead_above more others c d ahead

-- NUMBERS AS BYTES

abbrev AreBytes : List ℕ → Type 0
AreBytes [] = Unit {0}
AreBytes (x ∷ xs) = (x < 256) × AreBytes xs

-- what bytes are worth behind a number, the high byte first
abbrev worth : ℕ → List ℕ → ℕ
worth n [] = n
worth n (x ∷ xs) = worth (n * 256 + x) xs

more_worth : (a b : ℕ) (xs ys : List ℕ) → a < b → length xs ≡ length ys → AreBytes xs → AreBytes ys → worth a xs < worth b ys
more_worth a b [] [] lt long fit too = lt
more_worth a b [] (y ∷ ys) lt long fit too = absurd (omega (arith, long))
more_worth a b (x ∷ xs) [] lt long fit too = absurd (omega (arith, long))
more_worth a b (x ∷ xs) (y ∷ ys) lt long fit too =
    let small : x < 256 = fit.0 in
    more_worth (a * 256 + x) (b * 256 + y) xs ys (omega (arith, lt, small)) (omega (arith, long)) fit.1 too.1

worth_more : (a x y : ℕ) (xs ys : List ℕ) → length xs ≡ length ys → AreBytes xs → AreBytes ys → (worth (a * 256 + x) xs < worth (a * 256 + x) ys → Ahead xs ys)
    → worth (a * 256 + x) xs < worth (a * 256 + y) ys → (x < y) ⊎ ((x ≡ y) ⊎ (y < x)) → Ahead (x ∷ xs) (y ∷ ys)
worth_more a x y xs ys long fit too further lt (inl smaller) = here x y xs ys smaller
worth_more a x y xs ys long fit too further lt (inr (inl same)) =
    subst (λ (z : ℕ). Ahead (x ∷ xs) (z ∷ ys)) same (later x xs ys (further (subst (λ (z : ℕ). worth (a * 256 + x) xs < worth (a * 256 + z) ys) (sym same) lt)))
worth_more a x y xs ys long fit too further lt (inr (inr greater)) =
    let more : worth (a * 256 + y) ys < worth (a * 256 + x) xs = more_worth (a * 256 + y) (a * 256 + x) ys xs (omega (arith, greater)) (sym long) too fit in
    absurd (omega (arith, more, lt))

worth_ahead : (a : ℕ) (xs ys : List ℕ) → length xs ≡ length ys → AreBytes xs → AreBytes ys → worth a xs < worth a ys → Ahead xs ys
worth_ahead a [] [] long fit too lt = absurd (omega (arith, lt))
worth_ahead a [] (y ∷ ys) long fit too lt = absurd (omega (arith, long))
worth_ahead a (x ∷ xs) [] long fit too lt = absurd (omega (arith, long))
worth_ahead a (x ∷ xs) (y ∷ ys) long fit too lt =
    let same : length xs ≡ length ys = omega (arith, long) in
    worth_more a x y xs ys same fit.1 too.1 (λ less_worth. worth_ahead (a * 256 + x) xs ys same fit.1 too.1 less_worth) lt (three x y)

worth_of : (a b c d e f g h : ℕ) → worth 0 (a ∷ b ∷ c ∷ d ∷ e ∷ f ∷ g ∷ h ∷ []) ≡ from_be_bytes w64 (a ∷ b ∷ c ∷ d ∷ e ∷ f ∷ g ∷ h ∷ [])
worth_of a b c d e f g h = omega arith

rest_fits : (n : ℕ) → n % 256 < 256
rest_fits n = omega arith

are_bytes : (n : ℕ) → AreBytes (to_be_bytes w64 n)
are_bytes n =
    (rest_fits (n / 256 ^ 7), (rest_fits (n / 256 ^ 6), (rest_fits (n / 256 ^ 5), (rest_fits (n / 256 ^ 4), (rest_fits (n / 256 ^ 3), (rest_fits (n / 256 ^ 2), (rest_fits (n / 256 ^ 1), (rest_fits n, tt))))))))

worth_is : (n : ℕ) → n < 2 ^ 64 → worth 0 (to_be_bytes w64 n) ≡ n
worth_is n fits = worth_of _ _ _ _ _ _ _ _ ∙ from_be_bytes-to_be_bytes_8 n fits

-- BYTES AS DIGITS

digit_is : (i : ℕ) → i < 16 → ((i < 10) × (slice_index lower_digits i ≡ 48 + i)) ⊎ ((10 ≤ i) × (slice_index lower_digits i ≡ 87 + i))
digit_is zero fits = inl (omega arith, refl)
digit_is (suc zero) fits = inl (omega arith, refl)
digit_is (suc (suc zero)) fits = inl (omega arith, refl)
digit_is (suc (suc (suc zero))) fits = inl (omega arith, refl)
digit_is (suc (suc (suc (suc zero)))) fits = inl (omega arith, refl)
digit_is (suc (suc (suc (suc (suc zero))))) fits = inl (omega arith, refl)
digit_is (suc (suc (suc (suc (suc (suc zero)))))) fits = inl (omega arith, refl)
digit_is (suc (suc (suc (suc (suc (suc (suc zero))))))) fits = inl (omega arith, refl)
digit_is (suc (suc (suc (suc (suc (suc (suc (suc zero)))))))) fits = inl (omega arith, refl)
digit_is (suc (suc (suc (suc (suc (suc (suc (suc (suc zero))))))))) fits = inl (omega arith, refl)
digit_is (suc (suc (suc (suc (suc (suc (suc (suc (suc (suc zero)))))))))) fits = inr (omega arith, refl)
digit_is (suc (suc (suc (suc (suc (suc (suc (suc (suc (suc (suc zero))))))))))) fits = inr (omega arith, refl)
digit_is (suc (suc (suc (suc (suc (suc (suc (suc (suc (suc (suc (suc zero)))))))))))) fits = inr (omega arith, refl)
digit_is (suc (suc (suc (suc (suc (suc (suc (suc (suc (suc (suc (suc (suc zero))))))))))))) fits = inr (omega arith, refl)
digit_is (suc (suc (suc (suc (suc (suc (suc (suc (suc (suc (suc (suc (suc (suc zero)))))))))))))) fits = inr (omega arith, refl)
digit_is (suc (suc (suc (suc (suc (suc (suc (suc (suc (suc (suc (suc (suc (suc (suc zero))))))))))))))) fits = inr (omega arith, refl)
digit_is (suc (suc (suc (suc (suc (suc (suc (suc (suc (suc (suc (suc (suc (suc (suc (suc i)))))))))))))))) fits = absurd (omega (arith, fits))

less_by : (p q a b : ℕ) → p ≡ a → q ≡ b → a < b → p < q
less_by p q a b first second lt = omega (arith, first, second, lt)

digit_less : (i j : ℕ) → i < j → ((i < 10) × (slice_index lower_digits i ≡ 48 + i)) ⊎ ((10 ≤ i) × (slice_index lower_digits i ≡ 87 + i))
    → ((j < 10) × (slice_index lower_digits j ≡ 48 + j)) ⊎ ((10 ≤ j) × (slice_index lower_digits j ≡ 87 + j)) → slice_index lower_digits i < slice_index lower_digits j
digit_less i j lt (inl a) (inl b) = less_by _ _ (48 + i) (48 + j) a.1 b.1 (omega (arith, lt))
digit_less i j lt (inl a) (inr b) = less_by _ _ (48 + i) (87 + j) a.1 b.1 (omega (arith, lt))
digit_less i j lt (inr a) (inl b) =
    let low = a.0 in
    let high = b.0 in
    absurd (omega (arith, lt, low, high))
digit_less i j lt (inr a) (inr b) = less_by _ _ (87 + i) (87 + j) a.1 b.1 (omega (arith, lt))

digit_more : (i j : ℕ) → i < j → j < 16 → slice_index lower_digits i < slice_index lower_digits j
digit_more i j lt fits = digit_less i j lt (digit_is i (omega (arith, lt, fits))) (digit_is j fits)

hex_here : (x y : ℕ) (more others : List ℕ) → x < y → y < 256 → (x / 16 < y / 16) ⊎ ((x / 16 ≡ y / 16) ⊎ (y / 16 < x / 16))
    → Ahead (encode_with lower_digits (x ∷ more)) (encode_with lower_digits (y ∷ others))
unfolding encode_with
hex_here x y more others lt fits (inl high) = here _ _ _ _ (digit_more (x / 16) (y / 16) high (omega (arith, fits)))
hex_here x y more others lt fits (inr (inl same)) =
    let low : x % 16 < y % 16 = omega (arith, lt, same) in
    subst (λ (z : ℕ). Ahead (slice_index lower_digits (x / 16) ∷ slice_index lower_digits (x % 16) ∷ encode_with lower_digits more)
    (slice_index lower_digits z ∷ slice_index lower_digits (y % 16) ∷ encode_with lower_digits others)) same
    (later _ _ _ (here _ _ _ _ (digit_more (x % 16) (y % 16) low (omega arith))))
hex_here x y more others lt fits (inr (inr high)) = absurd (omega (arith, lt, high))

hex_ahead : (xs ys : List ℕ) → AreBytes ys → Ahead xs ys → Ahead (encode_with lower_digits xs) (encode_with lower_digits ys)
unfolding encode_with
hex_ahead xs ys fit (here x y more others lt) = hex_here x y more others lt fit.0 (three (x / 16) (y / 16))
hex_ahead xs ys fit (later x more others ahead) = later _ _ _ (later _ _ _ (hex_ahead more others fit.1 ahead))

pub digits_ahead : (m n : ℕ) → m < n → n < 2 ^ 64 → Ahead (digits m) (digits n)
digits_ahead m n lt fits =
    hex_ahead (to_be_bytes w64 m) (to_be_bytes w64 n) (are_bytes n)
    (worth_ahead 0 (to_be_bytes w64 m) (to_be_bytes w64 n) refl (are_bytes m) (are_bytes n) (less_by _ _ m n (worth_is m (omega (arith, lt, fits))) (worth_is n fits) lt))

-- places, in the order of their digits
places_by : (p q : ℕ) → p < 2 ^ 64 → q < 2 ^ 64 → (p < q) ⊎ ((p ≡ q) ⊎ (q < p)) → is_below (digits p) (digits q) ≡ nat_lt p q
places_by p q fits too (inl lt) =
    ap (λ (l : List ℕ). is_below l (digits q)) (sym (append-nil (digits p))) ∙ ap (λ (l : List ℕ). is_below (digits p ++ []) l) (sym (append-nil (digits q)))
    ∙ ahead_below (digits p) (digits q) [] [] (digits_ahead p q lt too) ∙ sym (less p q lt)
places_by p q fits too (inr (inl same)) =
    subst (λ (z : ℕ). is_below (digits p) (digits z) ≡ nat_lt p z) same (not_below_itself (digits p) ∙ sym (self_lt p))
places_by p q fits too (inr (inr gt)) =
    ap (λ (l : List ℕ). is_below l (digits q)) (sym (append-nil (digits p))) ∙ ap (λ (l : List ℕ). is_below (digits p ++ []) l) (sym (append-nil (digits q)))
    ∙ ahead_above (digits q) (digits p) [] [] (digits_ahead q p gt fits) ∙ sym (not_less q p gt)

pub places_below : (p q : ℕ) → p < 2 ^ 64 → q < 2 ^ 64 → is_below (digits p) (digits q) ≡ nat_lt p q
places_below p q fits too = places_by p q fits too (three p q)
