-- Keys and heads, read again as they were spelled.
use Rattle.std.proofs.Common.{◌≡◌, ◌≢◌, ◌<◌, ◌^◌, ◌%◌, ◌/◌, ◌+◌, ◌==◌, ◌++◌, ◌∙◌, ℕ, zero, suc, List, [], ◌∷◌, length, drop, nat_eq, Bool, true, false, if◌then◌else◌, refl, sym, ap, arith, codes, length-append}
use Rattle.std.proofs.Math.Seq.{drop-append_seam}
use Rattle.std.proofs.lemmas.Bool.{eq-eqb}
use Rattle.std.proofs.lemmas.Bool.Decides.{Decides-eqb, nat_tests}
use Rattle.std.proofs.lemmas.List.{append_cancel_left, append_cancel_right}
use Rattle.std.proofs.lemmas.Nat.{from_be_bytes-to_be_bytes_8}
use Rattle.std.proofs.lemmas.Slice.Eq.{bytes_eq-Decides, starts_is}
use Rattle.std.specs.Int.{to_be_bytes, w64}
use Rattle.std.specs.List.{starts_with}
use Rattle.std.specs.Prelude.{bytes_eq, Option, None, Some, option_and_then, Result}
use Rattle.hex.proofs.HexLemmas.{decode_sized-encode_lower, length-encode_with}
use Rattle.hex.specs.Hex.{IsBytes, lower_digits}
use Rattle.hex.specs.declared.error.FromHexError.{FromHexError}
use Rattle.etcd_cluster.specs.declared.change.Head.{Head}
use Rattle.etcd_keys.specs.Keys.{IsOfWords, before_key, digits, first_key, head_at, head_bytes, head_told, number_of, number_told, piece_key, place_told, where_spelled, worth}

-- NUMBERS

eight_fit : (a b c d e f g h : ℕ) → a < 256 → b < 256 → c < 256 → d < 256 → e < 256 → f < 256 → g < 256 → h < 256 → IsBytes (a ∷ b ∷ c ∷ d ∷ e ∷ f ∷ g ∷ h ∷ [])
eight_fit a b c d e f g h p q r s t u v w zero = p
eight_fit a b c d e f g h p q r s t u v w (suc zero) = q
eight_fit a b c d e f g h p q r s t u v w (suc (suc zero)) = r
eight_fit a b c d e f g h p q r s t u v w (suc (suc (suc zero))) = s
eight_fit a b c d e f g h p q r s t u v w (suc (suc (suc (suc zero)))) = t
eight_fit a b c d e f g h p q r s t u v w (suc (suc (suc (suc (suc zero))))) = u
eight_fit a b c d e f g h p q r s t u v w (suc (suc (suc (suc (suc (suc zero)))))) = v
eight_fit a b c d e f g h p q r s t u v w (suc (suc (suc (suc (suc (suc (suc zero))))))) = w
eight_fit a b c d e f g h p q r s t u v w (suc (suc (suc (suc (suc (suc (suc (suc i)))))))) = omega arith

rest_fits : (n : ℕ) → n % 256 < 256
rest_fits n = omega arith

bytes_fit : (n : ℕ) → IsBytes (to_be_bytes w64 n)
bytes_fit n =
    eight_fit _ _ _ _ _ _ _ _ (rest_fits (n / 256 ^ 7)) (rest_fits (n / 256 ^ 6)) (rest_fits (n / 256 ^ 5)) (rest_fits (n / 256 ^ 4)) (rest_fits (n / 256 ^ 3)) (rest_fits (n / 256 ^ 2))
    (rest_fits (n / 256 ^ 1)) (rest_fits n)

worth_again : (n : ℕ) → n < 2 ^ 64 → worth (digits n) ≡ Some n
worth_again n fits =
    ap (λ (told : Result (List ℕ) FromHexError). number_of told) (decode_sized-encode_lower (to_be_bytes w64 n) 8 refl (bytes_fit n))
    ∙ ap (λ (m : ℕ). Some m) (from_be_bytes-to_be_bytes_8 n fits)

number_again : (n : ℕ) → n < 2 ^ 64 → number_told (digits n) ≡ Some n
number_again n fits =
    ap (λ (m : Option ℕ). option_and_then (where_spelled (digits n)) m) (worth_again n fits)
    ∙ ap (λ (b : Bool). if b then Some n else None) ((bytes_eq-Decides (digits n) (digits n)).1 refl)

digits_apart : (m n : ℕ) → m < 2 ^ 64 → n < 2 ^ 64 → digits m ≡ digits n → m ≡ n
digits_apart m n fits too same =
    let first = number_again m fits in
    let second = number_again n too in
    let both : number_told (digits m) ≡ number_told (digits n) = ap number_told same in
    cc

sixteen : (n : ℕ) → length (digits n) ≡ 16
sixteen n = length-encode_with lower_digits (to_be_bytes w64 n)

-- KEYS

begins : (before rest : List ℕ) → starts_with nat_eq (before ++ rest) before ≡ true
begins before rest = (starts_is Decides-eqb (before ++ rest) before (starts_with nat_eq (before ++ rest) before) refl).1 rest refl

pub place_again : (prefix : List ℕ) (generation at : ℕ) → at < 2 ^ 64 → place_told (before_key prefix generation) (piece_key prefix generation at) ≡ Some at
place_again prefix generation at fits =
    let before = before_key prefix generation in
    ap (λ (yes : Bool). if yes then number_told (drop (length before) (before ++ digits at)) else None) (begins before (digits at))
    ∙ ap number_told (drop-append_seam before (digits at)) ∙ number_again at fits

parted : (a b c d : List ℕ) → length a ≡ length b → a ++ c ≡ b ++ d → (a ≡ b) × (c ≡ d)
parted [] [] c d long is = (refl, is)
parted [] (y ∷ ys) c d long is = absurd (omega (arith, long))
parted (x ∷ xs) [] c d long is = absurd (omega (arith, long))
parted (x ∷ xs) (y ∷ ys) c d long is =
    let first : x ≡ y = cc in
    let behind : xs ++ c ≡ ys ++ d = cc in
    let rest = parted xs ys c d (omega (arith, long)) behind in
    let front : xs ≡ ys = rest.0 in
    (cc, rest.1)

before_long : (prefix : List ℕ) (generation : ℕ) → length (before_key prefix generation) ≡ length (first_key prefix) + 17
before_long prefix generation =
    length-append (first_key prefix) (digits generation ++ codes "/")
    ∙ ap (λ (n : ℕ). length (first_key prefix) + n) (length-append (digits generation) (codes "/") ∙ ap (λ (n : ℕ). n + length (codes "/")) (sixteen generation))

pub pieces_apart : (prefix : List ℕ) (generation other at place : ℕ) → generation < 2 ^ 64 → other < 2 ^ 64 → at < 2 ^ 64 → place < 2 ^ 64
    → piece_key prefix generation at ≡ piece_key prefix other place → (generation ≡ other) × (at ≡ place)
pieces_apart prefix generation other at place fits too at_fits place_fits same =
    let both = parted (before_key prefix generation) (before_key prefix other) (digits at) (digits place) (before_long prefix generation ∙ sym (before_long prefix other)) same in
    let names = append_cancel_right (digits generation) (digits other) (codes "/") (append_cancel_left (first_key prefix) (digits generation ++ codes "/") (digits other ++ codes "/") both.0) in
    (digits_apart generation other fits too names, digits_apart at place at_fits place_fits both.1)

-- what is read is what is spelled so

where_true : (b : Bool) (n m : ℕ) → (if b then Some n else None) ≡ Some m → (b ≡ true) × (n ≡ m)
where_true true n m is = (refl, cc)
where_true false n m is = absurd cc

number_by : (worth_of : Option ℕ) (text : List ℕ) (n : ℕ) → option_and_then (where_spelled text) worth_of ≡ Some n → text ≡ digits n
number_by None text n is = absurd cc
number_by (Some m) text n is =
    let both = where_true (bytes_eq text (digits m)) m n is in
    (bytes_eq-Decides text (digits m)).0 both.0 ∙ ap digits both.1

if_there : (b : Bool) (told : Option ℕ) (n : ℕ) → (if b then told else None) ≡ Some n → (b ≡ true) × (told ≡ Some n)
if_there true told n is = (refl, is)
if_there false told n is = absurd cc

pub place_is : (before key : List ℕ) (at : ℕ) → place_told before key ≡ Some at → key ≡ before ++ digits at
place_is before key at told =
    let both = if_there (starts_with nat_eq key before) (number_told (drop (length before) key)) at told in
    (starts_is Decides-eqb key before (starts_with nat_eq key before) refl).0 both.0
    ∙ ap (λ (l : List ℕ). before ++ l) (number_by (worth (drop (length before) key)) (drop (length before) key) at both.1)

-- HEADS

abbrev made : ℕ → ℕ → ℕ → ℕ → ℕ → Head
made server turn generation end room = record { server = server; turn = turn; generation = generation; end = end; room = room }

head_is : (cluster : ℕ) (head : Head) → IsOfWords head → head_at (head_bytes cluster head) ≡ head
head_is cluster head words =
    let at = head_at (head_bytes cluster head) in
    ap (λ (n : ℕ). made n at.turn at.generation at.end at.room) (from_be_bytes-to_be_bytes_8 head.server words.server)
    ∙ ap (λ (n : ℕ). made head.server n at.generation at.end at.room) (from_be_bytes-to_be_bytes_8 head.turn words.turn)
    ∙ ap (λ (n : ℕ). made head.server head.turn n at.end at.room) (from_be_bytes-to_be_bytes_8 head.generation words.generation)
    ∙ ap (λ (n : ℕ). made head.server head.turn head.generation n at.room) (from_be_bytes-to_be_bytes_8 head.end words.end)
    ∙ ap (λ (n : ℕ). made head.server head.turn head.generation head.end n) (from_be_bytes-to_be_bytes_8 head.room words.room)

pub head_again : (cluster : ℕ) (head : Head) → cluster < 2 ^ 64 → IsOfWords head → head_told cluster (head_bytes cluster head) ≡ Some head
head_again cluster head fits words =
    ap (λ (same : Bool). if same then Some (head_at (head_bytes cluster head)) else None) (eq-eqb _ cluster (from_be_bytes-to_be_bytes_8 cluster fits))
    ∙ ap (λ (h : Head). Some h) (head_is cluster head words)

different : (a b : ℕ) → a ≢ b → (a == b) ≡ false
different a b not = grind (arith, nat_tests, not)

pub head_of_another : (cluster known : ℕ) (head : Head) → cluster < 2 ^ 64 → cluster ≢ known → head_told known (head_bytes cluster head) ≡ None
head_of_another cluster known head fits not =
    ap (λ (n : ℕ). if n == known then Some (head_at (head_bytes cluster head)) else None) (from_be_bytes-to_be_bytes_8 cluster fits)
    ∙ ap (λ (same : Bool). if same then Some (head_at (head_bytes cluster head)) else None) (different cluster known not)
