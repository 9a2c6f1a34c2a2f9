-- What look-ups and counts say of the tables' records.
use Rattle.std.proofs.Common.{◌≡◌, ℕ, ◌+◌, List, [], ◌∷◌, ◌++◌, Option, Some, None, Bool, true, cond, refl, ap, ◌∙◌, sym, arith}
use Rattle.token_store.proofs.Names.{count_by, IsDistinct, bytes_eq, lookup, keys_of, nat_list_eq_equiv, lookup-none, none_past_head, IsDistinct-tail, bytes_eq-Decides, find-append, sum_by_push}
use Rattle.token_store.proofs.Names.{Record, Shared, Kept, kept_at, kept_in, all_kept, is_live_at, TellsSame, count_by-cons}
use Rattle.token_store.proofs.Names.{list_any, values_of, ◌||◌}
use Rattle.std.specs.Prelude.{map}
use Rattle.shelf.specs.Shelved.{entries_in, in_slot}
use Rattle.shelf.specs.Shelved.{Named}

-- what is seen of the record of the digest
abbrev pub shown : List (ℕ × Shared) → List ℕ → ℕ → Option Record → Option Kept
shown families digest t None = None
shown families digest t (Some r) = cond (is_live_at t r) (Some (kept_in families (digest, r))) None

-- the look-up among the records that are seen is the table's
pub found : (families : List (ℕ × Shared)) (es : List (List ℕ × Record)) (digest : List ℕ) (t : ℕ) → IsDistinct bytes_eq (keys_of es) →
    kept_at (all_kept families es) digest t ≡ shown families digest t (lookup (bytes_eq digest) es)
found families [] digest t distinct = refl
found families (e ∷ es) digest t distinct =
    let more = found families es digest t (IsDistinct-tail bytes_eq e.0 (keys_of es) distinct) in
    let is = (bytes_eq-Decides digest e.0).0 in
    let none : bytes_eq digest e.0 ≡ true → lookup (bytes_eq digest) es ≡ None = λ h. lookup-none (bytes_eq digest) es (none_past_head nat_list_eq_equiv digest e es distinct h) in
    grind (arith, more, is, none)

-- one of what is in the slots passes where one of the records does
pub any_slots : (p : Record → Bool) (slots : List (Option (Named Record))) → list_any (in_slot p) slots ≡ list_any p (values_of (entries_in slots))
any_slots p [] = refl
any_slots p (None ∷ ss) = any_slots p ss
any_slots p (Some s ∷ ss) = ap (λ b. p s.kept || b) (any_slots p ss)

-- WHAT IS SEEN ALIKE

-- a count of what f makes of a list
pub count-map : {X Y : Type 0} (f : X → Y) (p : Y → Bool) (xs : List X) → count_by p (map f xs) ≡ count_by (λ x. p (f x)) xs
count-map f p [] = refl
count-map f p (x ∷ xs) =
    count_by-cons p (f x) (map f xs) ∙ ap (λ n. cond {A = ℕ} (p (f x)) 1 0 + n) (count-map f p xs) ∙ sym (count_by-cons (λ y. p (f y)) x xs)

pub same_on : (a b c : List Kept) (m : ℕ) → TellsSame a b m → TellsSame b c m → TellsSame a c m
same_on a b c m first more = record {
  finds = λ d t le. more.finds d t le ∙ first.finds d t le;
  counts = λ t le. more.counts t le ∙ first.counts t le;
}

pub count-push : (p : Kept → Bool) (kept : List Kept) (k : Kept) → count_by p (kept ++ k ∷ []) ≡ count_by p kept + cond {A = ℕ} (p k) 1 0
count-push p kept k = sum_by_push (λ x. cond {A = ℕ} (p x) 1 0) kept k

-- as much the same with one more at the end of both
pub same_push : (a b : List Kept) (k : Kept) (m : ℕ) → TellsSame a b m → TellsSame (a ++ k ∷ []) (b ++ k ∷ []) m
same_push a b k m same = record { finds = λ d t le. simp (find-append, same.finds d t le); counts = λ t le. simp (count-push, same.counts t le) }
