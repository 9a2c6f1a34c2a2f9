-- A further text among numbered ones.
use Rattle.std.proofs.Common.{◌≡◌, ◌<◌, ◌≤◌, IfSome, ℕ, ◌+◌, Bool, true, false, cond, List, [], ◌∷◌, ◌++◌, length, Option, Some, None, refl, sym, ◌∙◌, arith, string_bytes, String, Global}
use Rattle.clients.proofs.Names.{position_from, bytes_eq, string_cmp, BTreeMap, Updates, number_among, IsIndex}
use Rattle.std.proofs.lemmas.Slice.Eq.{bytes_eq-Decides}
use Rattle.std.proofs.lemmas.Map.Text.{btree_map_updates_text}

-- where the last one does not pass, the place is as before
pub place_before : {X : Type 0} (p : X → Bool) (i : ℕ) (xs : List X) (x : X) → p x ≡ false
    → position_from p i (xs ++ x ∷ []) ≡ position_from p i xs
place_before p i [] x fails = rw fails refl
place_before p i (y ∷ ys) x fails = rw (place_before p (i + 1) ys x fails) refl

-- where only the last one passes, it is the place
pub place_last : {X : Type 0} (p : X → Bool) (i : ℕ) (xs : List X) (x : X) → p x ≡ true → position_from p i xs ≡ None
    → position_from p i (xs ++ x ∷ []) ≡ Some (i + length xs)
place_last p i [] x passes none = grind (arith, passes)
place_last p i (y ∷ ys) x passes none = let later = place_last p (i + 1) ys x passes in grind (arith, none, later)

-- a new text has the next number, and the others keep theirs
pub number_of-push : (texts : List (List ℕ)) (new text : List ℕ) → number_among new texts ≡ None
    → number_among text (texts ++ new ∷ []) ≡ cond (bytes_eq new text) (Some (length texts + 1)) (number_among text texts)
number_of-push texts new text none =
    let same = (bytes_eq-Decides new text).0 in
    let turned = (bytes_eq-Decides text new).1 in
    let back = (bytes_eq-Decides text new).0 in
    let again = (bytes_eq-Decides new text).1 in
    let last = place_last (bytes_eq text) 1 texts new in
    let before = place_before (bytes_eq text) 1 texts new in
    grind (arith, same, turned, back, again, last, before, none)

-- an index with the next number of a new text is an index of the texts with it
pub IsIndex-push : (old new : BTreeMap (String Global) ℕ) (texts : List (List ℕ)) (key : String Global)
    → IsIndex old texts → number_among (string_bytes key) texts ≡ None
    → Updates string_cmp old new key (Some (length texts + 1))
    → IsIndex new (texts ++ string_bytes key ∷ [])
IsIndex-push old new texts key index absent updates = λ text.
    btree_map_updates_text (string_bytes key) old new _ updates text
    ∙ rw (index text) (sym (number_of-push texts (string_bytes key) text absent))

-- a place is in the list
pub place_within : {X : Type 0} (p : X → Bool) (i n : ℕ) (xs : List X) → position_from p i xs ≡ Some n → (i ≤ n) × (n < i + length xs)
place_within p i n [] at = cc at
place_within p i n (y ∷ ys) at = let later = place_within p (i + 1) n ys in grind (arith, at, later)

-- a number is from 1 to the count
pub number_of-listed : (text : List ℕ) (texts : List (List ℕ)) → IfSome (number_among text texts) (λ n. (1 ≤ n) × (n ≤ length texts))
number_of-listed text texts = by (number_among text texts) refl
  where
    by : (o : Option ℕ) → number_among text texts ≡ o → IfSome o (λ n. (1 ≤ n) × (n ≤ length texts))
    by None at = tt
    by (Some n) at = let within = place_within (bytes_eq text) 1 n texts at in (within.0, omega (arith, within.1))
