-- Who is found at a place, and the places of a list with one more.
use Rattle.std.proofs.Common.{◌≡◌, ◌∙◌, ◌≤◌, ℕ, suc, ◌+◌, ◌-◌, eqb, Bool, true, false, cond, List, [], ◌∷◌, ◌++◌, length, Option, Some, None, Bor, nat_lt, get_or, refl, sym, ap, arith}
use Rattle.std.specs.Prelude.{slice_get, is_some, option_copied, IfSome}
use Rattle.std.proofs.lemmas.Option.{slice_get_read, slice_get_past}
use Rattle.std.specs.List.{find}
use Rattle.std.specs.Option.{option_and_then}
use Rattle.std.specs.Map.{lookup}
use Rattle.std.proofs.lemmas.Bool.Decides.{nat_tests}
use Rattle.std.proofs.lemmas.Slice.Eq.{bytes_eq-Decides}
use Rattle.params.specs.FormLaws.{bytes_eq-sym}
use Rattle.clients.specs.OwnerRecord.{OwnerRecord}
use Rattle.clients.specs.Owners.{owner_keyed, owner_listed}
use Rattle.clients.specs.OwnersParts.{ArePlacesByKey, ArePlacesByNumber}
use Rattle.clients.proofs.Names.{position_from, bytes_eq}
use Rattle.clients.proofs.Places.{place_before, place_last, place_within}

-- where nothing is found there is no place
pub no_place : {X : Type 0} (p : X → Bool) (i : ℕ) (xs : List X) → find p xs ≡ None → position_from p i xs ≡ None
no_place p i [] none = refl
no_place p i (x ∷ xs) none = let later = no_place p (i + 1) xs in grind (arith, none, later)

-- what is found stands at the place
found_from : {X : Type 0} (p : X → Bool) (i : ℕ) (xs : List X) → find p xs ≡ option_and_then (λ n. slice_get xs (n - i)) (position_from p i xs)
found_from p i [] = refl
found_from {X} p i (x ∷ xs) = by (p x) refl (found_from p (i + 1) xs)
  where
    later : (o : Option ℕ) → position_from p (i + 1) xs ≡ o → option_and_then (λ n. slice_get xs (n - (i + 1))) o ≡ option_and_then (λ n. slice_get (x ∷ xs) (n - i)) o
    later None at = refl
    later (Some n) at =
        let within = place_within p (i + 1) n xs at in
        let one : n - i ≡ suc (n - (i + 1)) = omega (arith, within.0) in
        sym (ap (λ m. slice_get (x ∷ xs) m) one)

    by : (b : Bool) → p x ≡ b → find p xs ≡ option_and_then (λ n. slice_get xs (n - (i + 1))) (position_from p (i + 1) xs)
        → find p (x ∷ xs) ≡ option_and_then (λ n. slice_get (x ∷ xs) (n - i)) (position_from p i (x ∷ xs))
    by true is rest = (let none : i - i ≡ 0 = omega arith in
        ap (λ b. cond b (Some x) (find p xs)) is
        ∙ sym (ap (λ b. option_and_then (λ n. slice_get (x ∷ xs) (n - i)) (cond b (Some i) (position_from p (i + 1) xs))) is ∙ ap (λ m. slice_get (x ∷ xs) m) none))
    by false is rest =
        ap (λ b. cond b (Some x) (find p xs)) is ∙ rest ∙ later (position_from p (i + 1) xs) refl
        ∙ sym (ap (λ b. option_and_then (λ n. slice_get (x ∷ xs) (n - i)) (cond b (Some i) (position_from p (i + 1) xs))) is)

pub found_at : {X : Type 0} (p : X → Bool) (xs : List X) → find p xs ≡ option_and_then (λ n. slice_get xs n) (position_from p 0 xs)
found_at {X} p xs = found_from p 0 xs ∙ whole (position_from p 0 xs)
  where
    whole : (o : Option ℕ) → option_and_then (λ n. slice_get xs (n - 0)) o ≡ option_and_then (λ n. slice_get xs n) o
    whole None = refl
    whole (Some n) = (let same : n - 0 ≡ n = omega arith in ap (λ m. slice_get xs m) same)

-- the place of one more, and of the others
pub place_more : {X : Type 0} (p : X → Bool) (xs : List X) (x : X) → (p x ≡ true → find p xs ≡ None)
    → position_from p 0 (xs ++ x ∷ []) ≡ cond (p x) (Some (length xs)) (position_from p 0 xs)
place_more p xs x new =
    let last = place_last p 0 xs x in
    let before = place_before p 0 xs x in
    let none = no_place p 0 xs in
    grind (arith, last, before, none, new)

-- OWNERS

-- what is read at the place
pub owner_read : (owners : List OwnerRecord) (i : ℕ) (got : Option (Bor OwnerRecord)) → is_some got ≡ nat_lt i (length owners) → IfSome got (λ x. x.now ≡ get_or owners i x.now)
    → option_copied got ≡ slice_get owners i
owner_read owners i None some is = sym (slice_get_past owners i (grind (arith, nat_tests, some)))
owner_read owners i (Some x) some is = sym (slice_get_read owners (length owners) i x.now refl (grind (arith, nat_tests, some)) is)

pub keyed_at : (places : List (List ℕ × ℕ)) (owners : List OwnerRecord) (digest : List ℕ) → ArePlacesByKey places owners
    → owner_keyed digest owners ≡ option_and_then (λ n. slice_get owners n) (lookup (bytes_eq digest) places)
keyed_at places owners digest are = found_at (λ o. bytes_eq digest o.key) owners ∙ ap (option_and_then (λ n. slice_get owners n)) (sym (are digest))

pub numbered_at : (places : List (ℕ × ℕ)) (owners : List OwnerRecord) (number : ℕ) → ArePlacesByNumber places owners
    → owner_listed number owners ≡ option_and_then (λ n. slice_get owners n) (lookup (eqb number) places)
numbered_at places owners number are = found_at (λ o. eqb number o.number) owners ∙ ap (option_and_then (λ n. slice_get owners n)) (sym (are number))

-- with one more owner there are the places of all
pub ArePlacesByKey-push : (old new : List (List ℕ × ℕ)) (owners : List OwnerRecord) (owner : OwnerRecord) → ArePlacesByKey old owners → owner_keyed owner.key owners ≡ None
    → ((d : List ℕ) → lookup (bytes_eq d) new ≡ cond (bytes_eq owner.key d) (Some (length owners)) (lookup (bytes_eq d) old))
    → ArePlacesByKey new (owners ++ owner ∷ [])
ArePlacesByKey-push old new owners owner are none puts = λ d.
    let same = (bytes_eq-Decides d owner.key).0 in
    let fresh : bytes_eq d owner.key ≡ true → owner_keyed d owners ≡ None =
    λ is. ap (λ k. owner_keyed k owners) (same is) ∙ none in
    let more = place_more (λ o. bytes_eq d o.key) owners owner fresh in
    puts d ∙ ap (λ b. cond b (Some (length owners)) (lookup (bytes_eq d) old)) (bytes_eq-sym owner.key d)
    ∙ ap (λ f. cond (bytes_eq d owner.key) (Some (length owners)) f) (are d) ∙ sym more

pub ArePlacesByNumber-push : (old new : List (ℕ × ℕ)) (owners : List OwnerRecord) (owner : OwnerRecord) → ArePlacesByNumber old owners → owner_listed owner.number owners ≡ None
    → ((n : ℕ) → lookup (eqb n) new ≡ cond (eqb owner.number n) (Some (length owners)) (lookup (eqb n) old))
    → ArePlacesByNumber new (owners ++ owner ∷ [])
ArePlacesByNumber-push old new owners owner are none puts = λ n.
    let same : eqb n owner.number ≡ true → n ≡ owner.number = λ is. grind (arith, nat_tests, is) in
    let fresh : eqb n owner.number ≡ true → owner_listed n owners ≡ None =
    λ is. ap (λ k. owner_listed k owners) (same is) ∙ none in
    let turned : eqb owner.number n ≡ eqb n owner.number = grind (arith, nat_tests) in
    let more = place_more (λ o. eqb n o.number) owners owner fresh in
    puts n ∙ ap (λ b. cond b (Some (length owners)) (lookup (eqb n) old)) turned
    ∙ ap (λ f. cond (eqb n owner.number) (Some (length owners)) f) (are n) ∙ sym more
