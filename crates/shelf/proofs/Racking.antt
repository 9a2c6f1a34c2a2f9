-- A rack with one more, or one fewer.
use Rattle.std.proofs.Common.{◌≡◌, ◌≢◌, ◌<◌, ◌≤◌, ◌+◌, ◌%◌, ◌==◌, ◌++◌, ℕ, zero, suc, List, [], ◌∷◌, Option, Some, None, Bool, true, false, length, set, refl, ap, ◌∙◌, sym, subst, length-append, arith}
use Rattle.std.specs.Prelude.{nat_eq, nat_lt}
use Rattle.std.specs.List.{filter, IsDistinct}
use Rattle.std.specs.Map.{keys_of, lookup, set_value}
use Rattle.std.proofs.lemmas.Bool.Decides.{nat_tests}
use Rattle.std.proofs.lemmas.List.{get_or-set_other, get_or-set_same, length-set}
use Rattle.std.proofs.lemmas.Map.{keys-set_value, length-set_value}
use Rattle.std.proofs.lemmas.Nat.{mod_below}
use Rattle.chains.specs.declared.chains.Chains.{Chains}
use Rattle.chains.specs.Chained.{Chained, IsShaped, moved}
use Rattle.chains.specs.ChainedLaws.{same_place}
use Rattle.shelf.specs.declared.rack.Rack.{Rack}
use Rattle.shelf.specs.declared.shelf.Slot.{Slot}
use Rattle.shelf.specs.Racked.{HasCleared, IsRacked, Racked, Spared, is_staying, leaving_in, number_place, place_in, rack_entries}
use Rattle.shelf.specs.Shelved.{entries_in, is_keyed, slot_at}
use Rattle.shelf.proofs.Keyed.{fewer_out, more_in, numbers, once_in, once_out, put_over, slot_within}
use Rattle.shelf.proofs.Putting.{blank_entries, blank_slot, no_slot, put_long, put_others, put_there}

apart_if : (x y : ℕ) → (x == y) ≡ false → x ≢ y
apart_if x y other is = absurd (grind (arith, nat_tests, other, is))

-- NOTHING IS KEPT

pub rack_begun : {V : Type 0} (names : Chains) (lists : ℕ) → Chained names (λ x. None) → 1 ≤ lists → names.heads ≡ lists + 1 → length names.cells.items ≡ names.heads → Racked {V = V} [] names lists 0 (place_in {V = V} lists [])
unfolding IsDistinct
rack_begun {V} names lists named some heads cells = record {
  named = same_place (λ x. None) (place_in {V = V} lists []) (λ x. (let is = never x in rw is refl)) named;
  once = tt;
  used_is = refl;
  some = some;
  heads = heads;
  cells = omega (arith, cells);
}
  where
    never : (x : ℕ) → nat_lt x 0 ≡ false
    never x = grind (arith, nat_tests)

-- an empty slot is in no list of a number
pub unlisted : {V : Type 0} (slots : List (Option (Slot ℕ V))) (lists n x : ℕ) → 0 < lists → number_place {V = V} lists (length slots) x None ≢ Some (n % lists)
unlisted {V} slots lists n x some is = by (nat_lt x (length slots)) refl
  where
    by : (b : Bool) → nat_lt x (length slots) ≡ b → ⊥
    by true inside = (let low = mod_below n lists some in let own : number_place {V = V} lists (length slots) x None ≡ Some lists = rw inside refl in let both : Some lists ≡ Some (n % lists) = sym own ∙ is in absurd (grind (arith, low, both)))
    by false outside = (let own : number_place {V = V} lists (length slots) x None ≡ None = rw outside refl in let both : None ≡ Some (n % lists) = sym own ∙ is in cc)

-- A FREE SLOT

-- what is in the last list is an empty slot
pub spare_empty : {V : Type 0} (lists : ℕ) (slots : List (Option (Slot ℕ V))) (x : ℕ) → 1 ≤ lists → place_in lists slots x ≡ Some lists → (slot_at slots x ≡ None) × (x < length slots)
spare_empty {V} lists slots x some at = by (slot_at slots x) refl at
  where
    by : (o : Option (Slot ℕ V)) → slot_at slots x ≡ o → number_place lists (length slots) x o ≡ Some lists → (slot_at slots x ≡ None) × (x < length slots)
    by None is there = (is, grind (arith, nat_tests, there))
    by (Some s) is there = absurd (let low : s.key % lists < lists = mod_below s.key lists (omega (arith, some)) in grind (arith, there, low))

pub rack_popped : {V : Type 0} (old : Rack V) (names : Chains) (x : ℕ) (racked : IsRacked old) → place_in old.lists old.slots.items x ≡ Some old.lists → IsShaped old.names names → Chained names (moved (place_in old.lists old.slots.items) x None) →
    Spared old.slots.items names old.lists old.used x
rack_popped old names x racked at shape out =
    let empty = spare_empty old.lists old.slots.items x racked.some at in
    record {
      racked = record {
        named = out;
        once = racked.once;
        used_is = racked.used_is;
        some = racked.some;
        heads = shape.heads ∙ racked.heads;
        cells = shape.cells ∙ racked.cells ∙ ap (λ n. n + length old.slots.items) (sym shape.heads);
      };
      inside = empty.1;
      empty = empty.0;
    }

-- one slot more, at the end
pub rack_widened : {V : Type 0} (old : Rack V) (names : Chains) (racked : IsRacked old) → names.heads ≡ old.names.heads → length names.cells.items ≡ length old.names.cells.items + 1 → Chained names (place_in old.lists old.slots.items) →
    Spared (old.slots.items ++ None ∷ []) names old.lists old.used (length old.slots.items)
rack_widened {V} old names racked heads cells named = record {
  racked = record {
    named = same_place (place_in old.lists old.slots.items) (moved (place_in old.lists (old.slots.items ++ None ∷ [])) n None) (λ y. by y (n == y) refl) named;
    once = rw (blank_entries old.slots.items) racked.once;
    used_is = rw (blank_entries old.slots.items) racked.used_is;
    some = racked.some;
    heads = heads ∙ racked.heads;
    cells = (let was = racked.cells in omega (arith, was, long, heads, cells));
  };
  inside = omega (arith, long);
  empty = blank_slot old.slots.items n ∙ no_slot old.slots.items n (omega arith);
}
  where
    n : ℕ
    n = length old.slots.items

    long : length (old.slots.items ++ None ∷ []) ≡ length old.slots.items + 1
    long = length-append old.slots.items (None ∷ [])

    beside : (y : ℕ) (o : Option (Slot ℕ V)) → length old.slots.items ≢ y → number_place old.lists (length (old.slots.items ++ None ∷ [])) y o ≡ number_place old.lists (length old.slots.items) y o
    beside y None ne = let same : nat_lt y (length (old.slots.items ++ None ∷ [])) ≡ nat_lt y (length old.slots.items) = grind (arith, nat_tests, long, ne) in rw same refl
    beside y (Some s) ne = refl

    by : (y : ℕ) (b : Bool) → (length old.slots.items == y) ≡ b → moved (place_in old.lists (old.slots.items ++ None ∷ [])) (length old.slots.items) None y ≡ place_in old.lists old.slots.items y
    by y true same =
        let is : length old.slots.items ≡ y = grind (arith, nat_tests, same) in
        let past : nat_lt y (length old.slots.items) ≡ false = grind (arith, nat_tests, is) in
        rw (same, no_slot old.slots.items y (omega (arith, is)), past) refl
    by y false other = rw (other, blank_slot old.slots.items y) (beside y (slot_at old.slots.items y) (apart_if (length old.slots.items) y other))

-- IN AND OUT

-- another is in the slot, or nothing
set_place : {V : Type 0} (lists : ℕ) (slots : List (Option (Slot ℕ V))) (x : ℕ) (o : Option (Slot ℕ V)) → x < length slots → (y : ℕ) →
    place_in lists (set slots x o) y ≡ moved (moved (place_in lists slots) x None) x (number_place lists (length slots) x o) y
set_place {V} lists slots x o inside y = by (x == y) refl
  where
    by : (b : Bool) → (x == y) ≡ b → place_in lists (set slots x o) y ≡ moved (moved (place_in lists slots) x None) x (number_place lists (length slots) x o) y
    by true same =
        let is : x ≡ y = grind (arith, nat_tests, same) in
        rw (same, put_long slots x o inside) (subst (λ z. number_place lists (length slots) z (slot_at (set slots x o) z) ≡ number_place lists (length slots) x o) is (ap (number_place lists (length slots) x) (put_there slots x o inside)))
    by false other = rw (other, put_long slots x o inside, put_others slots x o inside y (apart_if x y other)) refl

pub rack_filled : {V : Type 0} (old : Rack V) (names : Chains) (used x : ℕ) (s : Slot ℕ V) (spare : Spared old.slots.items old.names old.lists old.used x) → lookup (nat_eq s.key) (rack_entries old) ≡ None → used ≡ old.used + 1 →
    IsShaped old.names names → Chained names (moved (moved (place_in old.lists old.slots.items) x None) x (Some (s.key % old.lists))) →
    Racked (set old.slots.items x (Some s)) names old.lists used (place_in old.lists (set old.slots.items x (Some s)))
rack_filled old names used x s spare unnamed more shape put =
    let racked = spare.racked in
    let inside = spare.inside in
    record {
      named = same_place (moved (moved (place_in old.lists old.slots.items) x None) x (Some (s.key % old.lists))) (place_in old.lists (set old.slots.items x (Some s))) (set_place old.lists old.slots.items x (Some s) inside) put;
      once = once_in numbers old.slots.items x s spare.empty unnamed racked.once;
      used_is = (let longer = more_in numbers old.slots.items x s spare.empty inside in let was = racked.used_is in omega (arith, longer, was, more));
      some = racked.some;
      heads = shape.heads ∙ racked.heads;
      cells = shape.cells ∙ racked.cells ∙ ap (λ n. n + length old.slots.items) (sym shape.heads) ∙ ap (λ n. names.heads + n) (sym (put_long old.slots.items x (Some s) inside));
    }

pub rack_taken : {V : Type 0} (old : Rack V) (names : Chains) (used x : ℕ) (s : Slot ℕ V) (racked : IsRacked old) → slot_at old.slots.items x ≡ Some s → x < length old.slots.items → used + 1 ≡ old.used → names.heads ≡ old.names.heads →
    length names.cells.items ≡ length old.names.cells.items → Chained names (moved (moved (place_in old.lists old.slots.items) x None) x (Some old.lists)) →
    Racked (set old.slots.items x None) names old.lists used (place_in old.lists (set old.slots.items x None))
rack_taken {V} old names used x s racked at inside fewer heads cells put = record {
  named = same_place (moved (moved (place_in old.lists old.slots.items) x None) x (Some old.lists)) (place_in old.lists (set old.slots.items x None)) (λ y. set_place old.lists old.slots.items x None inside y ∙ free_there y) put;
  once = once_out numbers old.slots.items x racked.once;
  used_is = (let less = fewer_out numbers old.slots.items x s at in let was = racked.used_is in omega (arith, less, was, fewer));
  some = racked.some;
  heads = heads ∙ racked.heads;
  cells = cells ∙ racked.cells ∙ ap (λ n. n + length old.slots.items) (sym heads) ∙ ap (λ n. names.heads + n) (sym (put_long old.slots.items x None inside));
}
  where
    is_slot : nat_lt x (length old.slots.items) ≡ true
    is_slot = grind (arith, nat_tests, inside)

    free_there : (y : ℕ) → moved (moved (place_in old.lists old.slots.items) x None) x (number_place {V = V} old.lists (length old.slots.items) x None) y ≡ moved (moved (place_in old.lists old.slots.items) x None) x (Some old.lists) y
    free_there y = rw is_slot refl

-- IN PLACE

-- another of the same number is in the slot
pub rack_replaced : {V : Type 0} (old : Rack V) (x : ℕ) (s : Slot ℕ V) (v : V) (racked : IsRacked old) → slot_at old.slots.items x ≡ Some s →
    Racked (set old.slots.items x (Some (record { key = s.key; kept = v }))) old.names old.lists old.used (place_in old.lists (set old.slots.items x (Some (record { key = s.key; kept = v }))))
rack_replaced {V} old x s v racked at = record {
  named = same_place (place_in old.lists old.slots.items) (place_in old.lists (set old.slots.items x (Some t))) (λ y. by y (x == y) refl) racked.named;
  once = subst (λ ks. IsDistinct nat_eq ks) (sym (ap keys_of over ∙ keys-set_value (nat_eq s.key) (rack_entries old) v)) racked.once;
  used_is = racked.used_is ∙ sym (ap length over ∙ length-set_value (nat_eq s.key) (rack_entries old) v);
  some = racked.some;
  heads = racked.heads;
  cells = racked.cells ∙ ap (λ n. old.names.heads + n) (sym long);
}
  where
    t : Slot ℕ V
    t = record { key = s.key; kept = v }

    inside : x < length old.slots.items
    inside = slot_within old.slots.items x s at

    long : length (set old.slots.items x (Some t)) ≡ length old.slots.items
    long = put_long old.slots.items x (Some t) inside

    over : entries_in (set old.slots.items x (Some t)) ≡ set_value (nat_eq s.key) (rack_entries old) v
    over = put_over numbers old.slots.items x s v racked.once at

    by : (y : ℕ) (b : Bool) → (x == y) ≡ b → place_in old.lists (set old.slots.items x (Some t)) y ≡ place_in old.lists old.slots.items y
    by y true same =
        let is : x ≡ y = grind (arith, nat_tests, same) in
        subst (λ z. place_in old.lists (set old.slots.items x (Some t)) z ≡ place_in old.lists old.slots.items z) is (rw (put_there old.slots.items x (Some t) inside, at) refl)
    by y false other = rw (long, put_others old.slots.items x (Some t) inside y (apart_if x y other)) refl

-- WHAT STAYS

-- what does not stay is in no entry that does
pub cleared_entries : {V : Type 0} (stays : V → Bool) (slots : List (Option (Slot ℕ V))) (x : ℕ) → is_staying stays (slot_at slots x) ≡ false → filter (λ e. stays e.1) (entries_in (set slots x None)) ≡ filter (λ e. stays e.1) (entries_in slots)
cleared_entries stays [] x leaves = refl
cleared_entries stays (None ∷ ss) zero leaves = refl
cleared_entries stays (Some s ∷ ss) zero leaves = rw leaves refl
cleared_entries stays (None ∷ ss) (suc x) leaves = cleared_entries stays ss x leaves
cleared_entries stays (Some s ∷ ss) (suc x) leaves = let more = cleared_entries stays ss x leaves in grind (arith, more)

-- where all that is in slots stays, all entries do
pub all_stay : {V : Type 0} (stays : V → Bool) (slots : List (Option (Slot ℕ V))) → ((x : ℕ) → x < length slots → is_staying stays (slot_at slots x) ≡ true) → filter (λ e. stays e.1) (entries_in slots) ≡ entries_in slots
all_stay stays [] each = refl
all_stay stays (None ∷ ss) each = all_stay stays ss (λ x inside. each (suc x) (omega (arith, inside)))
all_stay stays (Some s ∷ ss) each =
    let here : stays s.kept ≡ true = each zero (omega arith) in
    let more = all_stay stays ss (λ x inside. each (suc x) (omega (arith, inside))) in
    grind (arith, here, more)

-- what leaves has its number there
pub left_out : {V : Type 0} (stays : V → Bool) (o : Option (Slot ℕ V)) (n : ℕ) → leaving_in stays o ≡ Some n → (is_keyed nat_eq n o ≡ true) × (is_staying stays o ≡ false)
left_out stays None n is = cc
left_out stays (Some s) n is = by (stays s.kept) refl
  where
    by : (b : Bool) → stays s.kept ≡ b → (is_keyed nat_eq n (Some s) ≡ true) × (is_staying stays (Some s) ≡ false)
    by true does = absurd (let none : leaving_in stays (Some s) ≡ None = rw does refl in let both : None ≡ Some n = sym none ∙ is in cc)
    by false fails =
        let some : leaving_in stays (Some s) ≡ Some s.key = rw fails refl in
        let both : Some s.key ≡ Some n = sym some ∙ is in
        let same : s.key ≡ n = grind (arith, both) in
        (grind (arith, nat_tests, same), fails)

pub stays_there : {V : Type 0} (stays : V → Bool) (o : Option (Slot ℕ V)) → leaving_in stays o ≡ None → is_staying stays o ≡ true
stays_there stays None is = refl
stays_there stays (Some s) is = by (stays s.kept) refl
  where
    by : (b : Bool) → stays s.kept ≡ b → is_staying stays (Some s) ≡ true
    by true does = does
    by false fails = absurd (let some : leaving_in stays (Some s) ≡ Some s.key = rw fails refl in let both : Some s.key ≡ None = sym some ∙ is in cc)

module _ {V : Type 0} (stays : V → Bool) (old new : List (Option (Slot ℕ V))) (x : ℕ) (cleared : HasCleared stays old new x) where
  pub cleared_same : filter (λ e. stays e.1) (entries_in new) ≡ filter (λ e. stays e.1) (entries_in old)
  cleared_same = by (is_staying stays (slot_at old x)) refl
    where
      by : (b : Bool) → is_staying stays (slot_at old x) ≡ b → filter (λ e. stays e.1) (entries_in new) ≡ filter (λ e. stays e.1) (entries_in old)
      by true does = let same : new ≡ old = cleared ∙ rw does refl in ap (λ ss. filter (λ e. stays e.1) (entries_in ss)) same
      by false fails = let same : new ≡ set old x None = cleared ∙ rw fails refl in ap (λ ss. filter (λ e. stays e.1) (entries_in ss)) same ∙ cleared_entries stays old x fails

  pub cleared_length : length new ≡ length old
  cleared_length = by (is_staying stays (slot_at old x)) refl
    where
      by : (b : Bool) → is_staying stays (slot_at old x) ≡ b → length new ≡ length old
      by true does = let same : new ≡ old = cleared ∙ rw does refl in ap length same
      by false fails = let same : new ≡ set old x None = cleared ∙ rw fails refl in ap length same ∙ length-set old x None

  pub cleared_stay : ((k : ℕ) → k < x → is_staying stays (slot_at old k) ≡ true) → (k : ℕ) → k < x + 1 → is_staying stays (slot_at new k) ≡ true
  cleared_stay stay k below = by (is_staying stays (slot_at old x)) refl (x == k) refl
    where
      empty_there : (o : Option (Slot ℕ V)) → slot_at old x ≡ o → is_staying stays (slot_at old x) ≡ false → is_staying stays (slot_at (set old x None) x) ≡ true
      empty_there None at fails = absurd (let yes : is_staying stays (slot_at old x) ≡ true = rw at refl in let both : true ≡ false = sym yes ∙ fails in cc)
      empty_there (Some s) at fails = ap (is_staying stays) (get_or-set_same old x None None (slot_within old x s at))

      by : (b : Bool) → is_staying stays (slot_at old x) ≡ b → (c : Bool) → (x == k) ≡ c → is_staying stays (slot_at new k) ≡ true
      by true does true same = let is : x ≡ k = grind (arith, nat_tests, same) in let all : new ≡ old = cleared ∙ rw does refl in rw all (subst (λ z. is_staying stays (slot_at old z) ≡ true) is does)
      by true does false other = let all : new ≡ old = cleared ∙ rw does refl in rw all (stay k (let ne = apart_if x k other in omega (arith, below, ne)))
      by false fails true same =
          let is : x ≡ k = grind (arith, nat_tests, same) in
          let all : new ≡ set old x None = cleared ∙ rw fails refl in
          rw all (subst (λ z. is_staying stays (slot_at (set old x None) z) ≡ true) is (empty_there (slot_at old x) refl fails))
      by false fails false other =
          let all : new ≡ set old x None = cleared ∙ rw fails refl in
          let was = get_or-set_other old x k None None (λ e. apart_if x k other (sym e)) in
          rw all (ap (is_staying stays) was ∙ stay k (let ne = apart_if x k other in omega (arith, below, ne)))
