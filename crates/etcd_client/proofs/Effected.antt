-- What the operations of a change make of keys is what the change makes of the list.
use Rattle.std.proofs.Common.{◌≡◌, ◌≢◌, ◌<◌, ◌^◌, ◌==◌, ◌&&◌, ◌||◌, ◌++◌, ◌∙◌, ◌⊎◌, inl, inr, ℕ, List, [], ◌∷◌, nat_lt, nat_le, Bool, true, false, not, if◌then◌else◌, refl, sym, ap, subst, arith, codes, append_assoc, append-nil}
use Rattle.std.proofs.lemmas.Bool.{eq-eqb}
use Rattle.std.proofs.lemmas.Bool.Decides.{eqb_tells, nat_tests}
use Rattle.std.proofs.lemmas.Slice.Eq.{bytes_eq-Decides}
use Rattle.std.specs.Prelude.{bytes_eq, flat_map, Option, None, Some}
use Rattle.etcd_cluster.specs.Stands.{ChangeFact, Clears, Forgets, Lays, Pieces, Stand, WriteFact, all_written, done_at, written}
use Rattle.etcd_json.specs.Requests.{OperationFact}
use Rattle.etcd_client.specs.Asked.{change_operations, end_key, write_operations}
use Rattle.etcd_client.specs.Effects.{AreWritesOfWords, Held, Holds, HoldsPieces, IsWriteOfWords, effect, effects, is_below, with_put, without}
use Rattle.etcd_keys.specs.Keys.{before_key, behind_key, digits, first_key, head_bytes, head_key, last_key, piece_key}
use Rattle.etcd_client.proofs.Ordered.{ahead_above, ahead_below, behind_front, digits_ahead, less, not_below_nothing, not_less, not_same, not_same_up, places_below, three}
use Rattle.etcd_client.proofs.Spelled.{pieces_apart}

-- WHERE A PIECE STANDS AMONG OTHER KEYS

-- behind the generation
abbrev at_place : ℕ → List ℕ
at_place at = codes "/" ++ digits at

piece_is : (prefix : List ℕ) (generation at : ℕ) → piece_key prefix generation at ≡ first_key prefix ++ (digits generation ++ at_place at)
piece_is prefix generation at =
    append_assoc (first_key prefix) (digits generation ++ codes "/") (digits at) ∙ ap (λ (l : List ℕ). first_key prefix ++ l) (append_assoc (digits generation) (codes "/") (digits at))

self_lt : (x : ℕ) → nat_lt x x ≡ false
self_lt x = grind (arith, nat_tests)

module _ (prefix : List ℕ) (generation at : ℕ) (fits : generation < 2 ^ 64) where
  -- beside what begins with a generation
  by_generation : (other : ℕ) (rest : List ℕ) → other < 2 ^ 64 → (generation < other) ⊎ ((generation ≡ other) ⊎ (other < generation))
      → is_below (piece_key prefix generation at) (first_key prefix ++ (digits other ++ rest)) ≡ (nat_lt generation other || (generation == other && is_below (at_place at) rest))
  by_generation other rest too (inl lt) =
      ap (λ (l : List ℕ). is_below l (first_key prefix ++ (digits other ++ rest))) (piece_is prefix generation at)
      ∙ behind_front (first_key prefix) (digits generation ++ at_place at) (digits other ++ rest)
      ∙ ahead_below (digits generation) (digits other) (at_place at) rest (digits_ahead generation other lt too)
      ∙ sym (ap (λ (b : Bool). b || (generation == other && is_below (at_place at) rest)) (less generation other lt))
  by_generation other rest too (inr (inl same)) =
      subst (λ (h : ℕ). is_below (piece_key prefix generation at) (first_key prefix ++ (digits h ++ rest)) ≡ (nat_lt generation h || (generation == h && is_below (at_place at) rest))) same
      (ap (λ (l : List ℕ). is_below l (first_key prefix ++ (digits generation ++ rest))) (piece_is prefix generation at)
      ∙ behind_front (first_key prefix) (digits generation ++ at_place at) (digits generation ++ rest)
      ∙ behind_front (digits generation) (at_place at) rest
      ∙ sym (ap (λ (b : Bool). b || (generation == generation && is_below (at_place at) rest)) (self_lt generation)
      ∙ ap (λ (b : Bool). b && is_below (at_place at) rest) (eq-eqb generation generation refl)))
  by_generation other rest too (inr (inr gt)) =
      ap (λ (l : List ℕ). is_below l (first_key prefix ++ (digits other ++ rest))) (piece_is prefix generation at)
      ∙ behind_front (first_key prefix) (digits generation ++ at_place at) (digits other ++ rest)
      ∙ ahead_above (digits other) (digits generation) rest (at_place at) (digits_ahead other generation gt fits)
      ∙ sym (ap (λ (b : Bool). b || (generation == other && is_below (at_place at) rest)) (not_less other generation gt)
      ∙ ap (λ (b : Bool). b && is_below (at_place at) rest) (not_same other generation gt))

  below_piece : (other place : ℕ) → other < 2 ^ 64 → at < 2 ^ 64 → place < 2 ^ 64
      → is_below (piece_key prefix generation at) (piece_key prefix other place) ≡ (nat_lt generation other || (generation == other && nat_lt at place))
  below_piece other place too at_fits place_fits =
      ap (λ (l : List ℕ). is_below (piece_key prefix generation at) l) (piece_is prefix other place)
      ∙ by_generation other (at_place place) too (three generation other)
      ∙ ap (λ (b : Bool). nat_lt generation other || (generation == other && b)) (behind_front (codes "/") (digits at) (digits place) ∙ places_below at place at_fits place_fits)

  below_before : (other : ℕ) → other < 2 ^ 64 → is_below (piece_key prefix generation at) (before_key prefix other) ≡ (nat_lt generation other || (generation == other && false))
  below_before other too =
      by_generation other (codes "/") too (three generation other)
      ∙ ap (λ (b : Bool). nat_lt generation other || (generation == other && b)) (behind_front (codes "/") (digits at) [] ∙ not_below_nothing (digits at))

  below_behind : (other : ℕ) → other < 2 ^ 64 → is_below (piece_key prefix generation at) (behind_key prefix other) ≡ (nat_lt generation other || (generation == other && true))
  below_behind other too = by_generation other (codes "0") too (three generation other)

  below_first : is_below (piece_key prefix generation at) (first_key prefix) ≡ false
  below_first =
      ap (λ (l : List ℕ). is_below l (first_key prefix)) (piece_is prefix generation at)
      ∙ ap (λ (l : List ℕ). is_below (first_key prefix ++ (digits generation ++ at_place at)) l) (sym (append-nil (first_key prefix)))
      ∙ behind_front (first_key prefix) (digits generation ++ at_place at) [] ∙ not_below_nothing (digits generation ++ at_place at)

  below_last : is_below (piece_key prefix generation at) (last_key prefix) ≡ true
  below_last =
      ap (λ (l : List ℕ). is_below l (last_key prefix)) (piece_is prefix generation at ∙ append_assoc prefix (codes "/at/") (digits generation ++ at_place at))
      ∙ behind_front prefix (codes "/at/" ++ (digits generation ++ at_place at)) (codes "/at0")

  below_end : (other to : ℕ) → other < 2 ^ 64 → at < 0xffffffffffffffff → to < 2 ^ 64
      → ((to == 0xffffffffffffffff) ≡ true) × (to ≡ 0xffffffffffffffff) ⊎ ((to == 0xffffffffffffffff) ≡ false) × (to ≢ 0xffffffffffffffff)
      → is_below (piece_key prefix generation at) (end_key prefix other to) ≡ (nat_lt generation other || (generation == other && nat_lt at to))
  below_end other to too at_fits to_fits (inl last) =
      let end : to ≡ 0xffffffffffffffff = last.1 in
      ap (λ (b : Bool). is_below (piece_key prefix generation at) (if b then behind_key prefix other else piece_key prefix other to)) last.0
      ∙ below_behind other too
      ∙ ap (λ (b : Bool). nat_lt generation other || (generation == other && b)) (sym (less at to (omega (arith, end, at_fits))))
  below_end other to too at_fits to_fits (inr before) =
      ap (λ (b : Bool). is_below (piece_key prefix generation at) (if b then behind_key prefix other else piece_key prefix other to)) before.0
      ∙ below_piece other to too (omega (arith, at_fits)) to_fits

-- WHAT A WRITE MAKES OF A PIECE

is_false : (b : Bool) → (b ≡ true → ⊥) → b ≡ false
is_false true never = absurd (never refl)
is_false false never = refl

module _ (prefix : List ℕ) (generation at : ℕ) (fits : generation < 2 ^ 64) (at_fits : at < 0xffffffffffffffff) (other : ℕ) (too : other < 2 ^ 64) where
  below_64 : at < 2 ^ 64
  below_64 = omega (arith, at_fits)

  apart : (place : ℕ) → place < 2 ^ 64 → ((generation ≡ other) × (at ≡ place) → ⊥) → bytes_eq (piece_key prefix generation at) (piece_key prefix other place) ≡ false
  apart place place_fits never =
      is_false (bytes_eq (piece_key prefix generation at) (piece_key prefix other place))
      (λ holds. never (pieces_apart prefix generation other at place fits too below_64 place_fits ((bytes_eq-Decides (piece_key prefix generation at) (piece_key prefix other place)).0 holds)))

  same_piece : (place : ℕ) → place < 2 ^ 64 → ((generation == other) ≡ true) × (generation ≡ other) ⊎ ((generation == other) ≡ false) × (generation ≢ other)
      → ((at == place) ≡ true) × (at ≡ place) ⊎ ((at == place) ≡ false) × (at ≢ place)
      → bytes_eq (piece_key prefix generation at) (piece_key prefix other place) ≡ (generation == other && at == place)
  same_piece place place_fits (inl same) (inl there) =
      (bytes_eq-Decides (piece_key prefix generation at) (piece_key prefix other place)).1 (ap (λ (h : ℕ). piece_key prefix h at) same.1 ∙ ap (λ (q : ℕ). piece_key prefix other q) there.1)
      ∙ sym (ap (λ (b : Bool). b && at == place) same.0 ∙ there.0)
  same_piece place place_fits (inl same) (inr elsewhere) =
      apart place place_fits (λ both. elsewhere.1 both.1) ∙ sym (ap (λ (b : Bool). b && at == place) same.0 ∙ elsewhere.0)
  same_piece place place_fits (inr differs) there =
      apart place place_fits (λ both. differs.1 both.0) ∙ sym (ap (λ (b : Bool). b && at == place) differs.0)

  in_run : (low end le lt : Bool) → not low ≡ le → end ≡ lt → (generation < other) ⊎ ((generation ≡ other) ⊎ (other < generation))
      → (not (nat_lt generation other || (generation == other && low)) && (nat_lt generation other || (generation == other && end))) ≡ (generation == other && le && lt)
  in_run low end le lt from to (inl before) =
      ap (λ (b : Bool). not (b || (generation == other && low)) && (b || (generation == other && end))) (less generation other before)
      ∙ sym (ap (λ (b : Bool). b && le && lt) (not_same_up generation other before))
  in_run low end le lt from to (inr (inl same)) =
      ap (λ (b : Bool). not (b || (generation == other && low)) && (b || (generation == other && end))) (ap (λ (h : ℕ). nat_lt generation h) (sym same) ∙ self_lt generation)
      ∙ ap (λ (b : Bool). not (b && low) && (b && end)) (eq-eqb generation other same)
      ∙ ap (λ (b : Bool). b && end) from ∙ ap (λ (b : Bool). le && b) to
      ∙ sym (ap (λ (b : Bool). b && le && lt) (eq-eqb generation other same))
  in_run low end le lt from to (inr (inr behind)) =
      ap (λ (b : Bool). not (b || (generation == other && low)) && (b || (generation == other && end))) (not_less other generation behind)
      ∙ ap (λ (b : Bool). not (b && low) && (b && end)) (not_same other generation behind)
      ∙ sym (ap (λ (b : Bool). b && le && lt) (not_same other generation behind))

  in_others : (piece : Option (List ℕ)) → (generation < other) ⊎ ((generation ≡ other) ⊎ (other < generation))
      → (if not (nat_lt generation other || (generation == other && true)) && true then None else (if nat_lt generation other || (generation == other && false) then None else piece))
      ≡ (if generation == other then piece else None)
  in_others piece (inl before) =
      ap (λ (b : Bool). if not (b || (generation == other && true)) && true then None else (if b || (generation == other && false) then None else piece)) (less generation other before)
      ∙ sym (ap (λ (b : Bool). if b then piece else None) (not_same_up generation other before))
  in_others piece (inr (inl same)) =
      ap (λ (b : Bool). if not (b || (generation == other && true)) && true then None else (if b || (generation == other && false) then None else piece))
      (ap (λ (h : ℕ). nat_lt generation h) (sym same) ∙ self_lt generation)
      ∙ ap (λ (b : Bool). if not (b && true) && true then None else (if b && false then None else piece)) (eq-eqb generation other same)
      ∙ sym (ap (λ (b : Bool). if b then piece else None) (eq-eqb generation other same))
  in_others piece (inr (inr behind)) =
      ap (λ (b : Bool). if not (b || (generation == other && true)) && true then None else (if b || (generation == other && false) then None else piece)) (not_less other generation behind)
      ∙ ap (λ (b : Bool). if not (b && true) && true then None else (if b && false then None else piece)) (not_same other generation behind)
      ∙ sym (ap (λ (b : Bool). if b then piece else None) (not_same other generation behind))

not_lt : (a b : ℕ) → not (nat_lt a b) ≡ nat_le b a
not_lt a b = grind (arith, nat_tests)

module _ (prefix : List ℕ) (generation at : ℕ) (fits : generation < 2 ^ 64) (at_fits : at < 0xffffffffffffffff) (held : Held) (pieces : Pieces)
    (is : held (piece_key prefix generation at) ≡ pieces generation at) where
  abbrev key : List ℕ
  key = piece_key prefix generation at

  written_piece : (write : WriteFact) → IsWriteOfWords write → effects (write_operations prefix write) held key ≡ written write pieces generation at
  written_piece (Lays other place bytes) (too, place_fits) =
      ap (λ (b : Bool). if b then Some bytes else held key) (same_piece prefix generation at fits at_fits other too place place_fits (eqb_tells generation other) (eqb_tells at place))
      ∙ ap (λ (piece : Option (List ℕ)). if generation == other && at == place then Some bytes else piece) is
  written_piece (Clears other from to) (too, from_fits, to_fits) =
      ap (λ (b : Bool). if not b && is_below key (end_key prefix other to) then None else held key)
      (below_piece prefix generation at fits other from too (omega (arith, at_fits)) from_fits)
      ∙ ap (λ (b : Bool). if not (nat_lt generation other || (generation == other && nat_lt at from)) && b then None else held key)
      (below_end prefix generation at fits other to too at_fits to_fits (eqb_tells to 0xffffffffffffffff))
      ∙ ap (λ (b : Bool). if b then None else held key)
      (in_run prefix generation at fits at_fits other too (nat_lt at from) (nat_lt at to) (nat_le from at) (nat_lt at to) (not_lt at from) refl (three generation other))
      ∙ ap (λ (piece : Option (List ℕ)). if generation == other && nat_le from at && nat_lt at to then None else piece) is
  written_piece (Forgets other) too =
      let before : Option (List ℕ) = without (first_key prefix) (before_key prefix other) held key in
      ap (λ (b : Bool). if not b && is_below key (last_key prefix) then None else before) (below_behind prefix generation at fits other too)
      ∙ ap (λ (b : Bool). if not (nat_lt generation other || (generation == other && true)) && b then None else before) (below_last prefix generation at fits)
      ∙ ap (λ (piece : Option (List ℕ)). if not (nat_lt generation other || (generation == other && true)) && true then None else piece)
      (ap (λ (b : Bool). if not b && is_below key (before_key prefix other) then None else held key) (below_first prefix generation at fits)
      ∙ ap (λ (b : Bool). if b then None else held key) (below_before prefix generation at fits other too))
      ∙ in_others prefix generation at fits at_fits other too (held key) (three generation other)
      ∙ ap (λ (piece : Option (List ℕ)). if generation == other then piece else None) is

-- AND OF THE HEAD

equal_front : (front a b : List ℕ) → bytes_eq (front ++ a) (front ++ b) ≡ bytes_eq a b
equal_front [] a b = refl
equal_front (x ∷ xs) a b = ap (λ (same : Bool). same && bytes_eq (xs ++ a) (xs ++ b)) (eq-eqb x x refl) ∙ equal_front xs a b

from_prefix : (prefix rest : List ℕ) → first_key prefix ++ rest ≡ prefix ++ (codes "/at/" ++ rest)
from_prefix prefix rest = append_assoc prefix (codes "/at/") rest

head_above : (prefix rest : List ℕ) → is_below (head_key prefix) (first_key prefix ++ rest) ≡ false
head_above prefix rest =
    ap (λ (l : List ℕ). is_below (head_key prefix) l) (from_prefix prefix rest) ∙ behind_front prefix (codes "/head") (codes "/at/" ++ rest)

head_above_piece : (prefix : List ℕ) (generation at : ℕ) → is_below (head_key prefix) (piece_key prefix generation at) ≡ false
head_above_piece prefix generation at =
    ap (λ (l : List ℕ). is_below (head_key prefix) l) (piece_is prefix generation at) ∙ head_above prefix (digits generation ++ at_place at)

head_above_end : (prefix : List ℕ) (generation to : ℕ) (last : Bool) → is_below (head_key prefix) (if last then behind_key prefix generation else piece_key prefix generation to) ≡ false
head_above_end prefix generation to true = head_above prefix (digits generation ++ codes "0")
head_above_end prefix generation to false = head_above_piece prefix generation to

head_is_no_piece : (prefix : List ℕ) (generation at : ℕ) → bytes_eq (head_key prefix) (piece_key prefix generation at) ≡ false
head_is_no_piece prefix generation at =
    ap (λ (l : List ℕ). bytes_eq (head_key prefix) l) (piece_is prefix generation at ∙ from_prefix prefix (digits generation ++ at_place at))
    ∙ equal_front prefix (codes "/head") (codes "/at/" ++ (digits generation ++ at_place at))

piece_is_no_head : (prefix : List ℕ) (generation at : ℕ) → bytes_eq (piece_key prefix generation at) (head_key prefix) ≡ false
piece_is_no_head prefix generation at =
    ap (λ (l : List ℕ). bytes_eq l (head_key prefix)) (piece_is prefix generation at ∙ from_prefix prefix (digits generation ++ at_place at))
    ∙ equal_front prefix (codes "/at/" ++ (digits generation ++ at_place at)) (codes "/head")

-- what is not below the one stays, unless it is below the other
kept : (low high : Bool) (piece : Option (List ℕ)) → high ≡ false → low ≡ false → (if not low && high then None else piece) ≡ piece
kept low high piece high_no low_no =
    ap (λ (b : Bool). if not b && high then None else piece) low_no ∙ ap (λ (b : Bool). if b then None else piece) high_no

head_stays : (prefix : List ℕ) (held : Held) (write : WriteFact) → effects (write_operations prefix write) held (head_key prefix) ≡ held (head_key prefix)
head_stays prefix held (Lays generation at bytes) = ap (λ (b : Bool). if b then Some bytes else held (head_key prefix)) (head_is_no_piece prefix generation at)
head_stays prefix held (Clears generation from to) =
    kept (is_below (head_key prefix) (piece_key prefix generation from)) (is_below (head_key prefix) (end_key prefix generation to)) (held (head_key prefix))
    (head_above_end prefix generation to (to == 0xffffffffffffffff)) (head_above_piece prefix generation from)
head_stays prefix held (Forgets generation) =
    kept (is_below (head_key prefix) (behind_key prefix generation)) (is_below (head_key prefix) (last_key prefix)) (without (first_key prefix) (before_key prefix generation) held (head_key prefix))
    (behind_front prefix (codes "/head") (codes "/at0")) (head_above prefix (digits generation ++ codes "0"))
    ∙ kept (is_below (head_key prefix) (first_key prefix)) (is_below (head_key prefix) (before_key prefix generation)) (held (head_key prefix))
    (head_above prefix (digits generation ++ codes "/")) (behind_front prefix (codes "/head") (codes "/at/"))

-- ALL OF A CHANGE

one_by_one : (first later : List OperationFact) (held : Held) → effects (first ++ later) held ≡ effects later (effects first held)
one_by_one [] later held = refl
one_by_one (operation ∷ more) later held = one_by_one more later (effect operation held)

pieces_written : (prefix : List ℕ) (writes : List WriteFact) (held : Held) (pieces : Pieces) → AreWritesOfWords writes → HoldsPieces prefix held pieces
    → HoldsPieces prefix (effects (flat_map (write_operations prefix) writes) held) (all_written writes pieces)
pieces_written prefix [] held pieces words holds = holds
pieces_written prefix (write ∷ later) held pieces words holds =
    subst (λ (h : Held). HoldsPieces prefix h (all_written later (written write pieces))) (sym (one_by_one (write_operations prefix write) (flat_map (write_operations prefix) later) held))
    (pieces_written prefix later (effects (write_operations prefix write) held) (written write pieces) words.1
    (λ generation at fits at_fits. written_piece prefix generation at fits at_fits held pieces (holds generation at fits at_fits) write words.0))

head_written : (prefix : List ℕ) (writes : List WriteFact) (held : Held) → effects (flat_map (write_operations prefix) writes) held (head_key prefix) ≡ held (head_key prefix)
head_written prefix [] held = refl
head_written prefix (write ∷ later) held =
    ap (λ (h : Held). h (head_key prefix)) (one_by_one (write_operations prefix write) (flat_map (write_operations prefix) later) held)
    ∙ head_written prefix later (effects (write_operations prefix write) held) ∙ head_stays prefix held write

pub changes_made : (prefix : List ℕ) (cluster version : ℕ) (change : ChangeFact) (held : Held) (stand : Stand) → AreWritesOfWords change.writes → HoldsPieces prefix held stand.pieces
    → Holds prefix cluster (effects (change_operations prefix cluster change) held) (done_at version change stand)
changes_made prefix cluster version change held stand words holds =
    let name = head_key prefix in
    let value = head_bytes cluster change.head in
    let put : Held = with_put name value held in
    record {
      head = head_written prefix change.writes put ∙ ap (λ (b : Bool). if b then Some value else held name) ((bytes_eq-Decides name name).1 refl);
      pieces =
          pieces_written prefix change.writes put stand.pieces words
          (λ generation at fits at_fits.
          ap (λ (b : Bool). if b then Some value else held (piece_key prefix generation at)) (piece_is_no_head prefix generation at) ∙ holds generation at fits at_fits);
    }
