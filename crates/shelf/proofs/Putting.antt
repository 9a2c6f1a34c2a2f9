-- A shelf with one more, or one fewer.
use Rattle.std.proofs.Common.{◌≡◌, ◌≢◌, ◌⊎◌, inl, inr, ◌<◌, ◌≤◌, ◌+◌, ◌==◌, ◌++◌, ℕ, zero, suc, List, [], ◌∷◌, Option, Some, None, Bool, true, false, length, set, refl, ap, ◌∙◌, sym, subst, length-append, arith}
use Rattle.std.specs.Prelude.{is_some, nat_le}
use Rattle.std.specs.Map.{lookup, keys_of, set_value}
use Rattle.std.specs.List.{IsDistinct}
use Rattle.std.specs.Str.{bytes_eq}
use Rattle.std.proofs.lemmas.Bool.Decides.{nat_tests}
use Rattle.std.proofs.lemmas.List.{get_or-set_same, get_or-set_other, length-set}
use Rattle.std.proofs.lemmas.Map.{keys-set_value, length-set_value}
use Rattle.chains.specs.Chained.{Chained, IsShaped, moved}
use Rattle.chains.specs.ChainedLaws.{same_place}
use Rattle.shelf.proofs.Keyed.{digests, put_over, once_out, fewer_out, once_in, more_in}
use Rattle.shelf.specs.declared.shelf.Shelf.{Shelf}
use Rattle.shelf.specs.declared.shelf.Slot.{Slot}
use Rattle.shelf.specs.Shelved.{Named}
use Rattle.shelf.specs.declared.tally.Tally.{Tally}
use Rattle.shelf.specs.Tallying.{share, EntersIf, IsSameTally, LeavesIf}
use Rattle.shelf.specs.Shelved.{IsLoose, IsShelved, IsTimed, ShelvedBy, Tallied, bucket, count_timed, entries_in, entries_of, free, is_counted, list_for, lists_of_wheel, name_place, slot_at, weight}
use Rattle.shelf.proofs.Tallying.{count_same, tally_apart, tally_in, tally_kept, tally_out}
use Rattle.shelf.proofs.Timing.{free_empty, list_counted, placed_inside, slot_inside, timed_at}

still : (tally : Tally) → IsSameTally tally tally
still tally = record { all = refl; each = λ c. refl }

-- what is in a slot is in some list, whatever else may be there that expires then
is_placed : {R : Type 0} (until : R → ℕ) (second count x : ℕ) (s : Named R) (place : Option ℕ) → IsTimed until second count x (Some s) place → is_some place ≡ true
is_placed until second count x s place (inl there) = rw there refl
is_placed until second count x s place (inr there) = rw there refl

timed_as : {R : Type 0} (until : R → ℕ) (second count count' x : ℕ) (s t : Named R) (place : Option ℕ) → until t.kept ≡ until s.kept → IsTimed until second count x (Some s) place → IsTimed until second count' x (Some t) place
timed_as until second count count' x s t place same (inl there) = inl there
timed_as until second count count' x s t place same (inr there) = inr (there ∙ ap (λ u. Some (list_for second u)) (sym same))

-- A FREE SLOT

pub popped_free : {R : Type 0} (until whose : R → ℕ) (old new : Shelf R) (x : ℕ) (stands : IsShelved until whose old) → stands.timer x ≡ Some free → new.slots ≡ old.slots → new.names ≡ old.names → new.tally ≡ old.tally → new.used ≡ old.used →
    new.second ≡ old.second → IsShaped old.wheel new.wheel → Chained new.wheel (moved stands.timer x None) → IsLoose until whose new x
popped_free {R} until whose old new x stands at slots names tally used second shape out = record {
  timer = moved stands.timer x None;
  shelved = rw (slots, names, tally, used, second) (record {
    named = shelved.named;
    timed = out;
    times = λ y ne. subst (IsTimed until old.second (length old.slots.items) y (slot_at old.slots.items y)) (other y (λ same. ne (ap (λ n. Some n) same))) (shelved.times y (λ is. cc));
    loosed = λ y is. (own y is, (within y is, empty y is));
    tallied = tally_apart whose old.slots.items old.slots.items stands.timer (moved stands.timer x None) x refl inside (λ y ne. (sym (other y (λ e. ne (sym e))), refl)) old.tally old.tally
        (λ p. rw no_slot refl) (still old.tally) shelved.tallied;
    once = shelved.once;
    used_is = shelved.used_is;
    some = shelved.some;
    all = shape.heads ∙ shelved.all;
    name_cells = shelved.name_cells;
    time_cells = shape.cells ∙ shelved.time_cells ∙ ap (λ n. n + length old.slots.items) (sym shape.heads);
  });
}
  where
    shelved : ShelvedBy until whose old stands.timer None
    shelved = stands.shelved

    inside : x < length old.slots.items
    inside = placed_inside until old.second old.slots.items x free (stands.timer x) (shelved.times x (λ is. cc)) at

    no_slot : slot_at old.slots.items x ≡ None
    no_slot = free_empty until old.second old.slots.items x (stands.timer x) (shelved.times x (λ is. cc)) at

    other : (y : ℕ) → x ≢ y → stands.timer y ≡ moved stands.timer x None y
    other y ne = let apart : (x == y) ≡ false = grind (arith, nat_tests, ne) in sym (rw apart refl)

    own : (y : ℕ) → Some x ≡ Some y → moved stands.timer x None y ≡ None
    own y is = let at : (x == y) ≡ true = grind (arith, nat_tests, is) in rw at refl

    within : (y : ℕ) → Some x ≡ Some y → y < length old.slots.items
    within y is = let same : x ≡ y = grind (arith, is) in omega (arith, inside, same)

    empty : (y : ℕ) → Some x ≡ Some y → slot_at old.slots.items y ≡ None
    empty y is = let same : x ≡ y = grind (arith, is) in subst (λ z. slot_at old.slots.items z ≡ None) same no_slot

-- A SLOT MORE

-- an empty slot at the end holds nothing, as what is no slot
pub blank_slot : {K R : Type 0} (slots : List (Option (Slot K R))) (x : ℕ) → slot_at (slots ++ None ∷ []) x ≡ slot_at slots x
blank_slot [] zero = refl
blank_slot [] (suc x) = refl
blank_slot (s ∷ ss) zero = refl
blank_slot (s ∷ ss) (suc x) = blank_slot ss x

pub blank_entries : {K R : Type 0} (slots : List (Option (Slot K R))) → entries_in (slots ++ None ∷ []) ≡ entries_in slots
blank_entries [] = refl
blank_entries (None ∷ ss) = blank_entries ss
blank_entries (Some s ∷ ss) = ap (λ es. (s.key, s.kept) ∷ es) (blank_entries ss)

pub no_slot : {K R : Type 0} (slots : List (Option (Slot K R))) (x : ℕ) → length slots ≤ x → slot_at slots x ≡ None
no_slot [] x past = refl
no_slot (s ∷ ss) zero past = absurd (omega (arith, past))
no_slot (s ∷ ss) (suc x) past = no_slot ss x (omega (arith, past))

blank_count : {R : Type 0} (p : R → Bool) (timer : ℕ → Option ℕ) (slots : List (Option (Named R))) → count_timed p timer (slots ++ None ∷ []) ≡ count_timed p timer slots
blank_count p timer [] = refl
blank_count p timer (o ∷ os) = ap (λ n. weight p (timer zero) o + n) (blank_count p (λ x. timer (suc x)) os)

pub widened : {R : Type 0} (until whose : R → ℕ) (old new : Shelf R) (stands : IsShelved until whose old) → new.slots.items ≡ old.slots.items ++ None ∷ [] → new.tally ≡ old.tally → new.used ≡ old.used → new.second ≡ old.second →
    new.names.heads ≡ old.names.heads → new.wheel.heads ≡ old.wheel.heads → length new.names.cells.items ≡ length old.names.cells.items + 1 → length new.wheel.cells.items ≡ length old.wheel.cells.items + 1 →
    Chained new.names (λ y. name_place old.names.heads (slot_at old.slots.items y)) → Chained new.wheel stands.timer → IsLoose until whose new (length old.slots.items)
widened {R} until whose old new stands slots tally used second name_heads time_heads name_cells time_cells named timed = record {
  timer = stands.timer;
  shelved = rw (slots, tally, used, second) (record {
    named = same_place (λ y. name_place old.names.heads (slot_at old.slots.items y)) (λ y. name_place new.names.heads (slot_at (old.slots.items ++ None ∷ []) y)) (λ y. rw (name_heads, blank_slot old.slots.items y) refl) named;
    timed = timed;
    times = λ y ne. rw (blank_slot old.slots.items y) (by y (λ is. ne (ap (λ n. Some n) (sym is))) (slot_at old.slots.items y) (shelved.times y (λ is. cc)));
    loosed = λ y is. (let same : length old.slots.items ≡ y = grind (arith, is) in (
      subst (λ z. stands.timer z ≡ None) same last,
      (
        omega (arith, long, same),
        blank_slot old.slots.items y ∙ no_slot old.slots.items y (omega (arith, same)),
      ),
    ));
    tallied = record { all = shelved.tallied.all ∙ sym (blank_count (λ r. true) stands.timer old.slots.items); each = λ c. shelved.tallied.each c ∙ sym (blank_count (λ r. whose r == c) stands.timer old.slots.items) };
    once = rw (blank_entries old.slots.items) shelved.once;
    used_is = rw (blank_entries old.slots.items) shelved.used_is;
    some = rw name_heads shelved.some;
    all = time_heads ∙ shelved.all;
    name_cells = (let was = shelved.name_cells in omega (arith, was, long, name_heads, name_cells));
    time_cells = (let was = shelved.time_cells in omega (arith, was, long, time_heads, time_cells));
  });
}
  where
    shelved : ShelvedBy until whose old stands.timer None
    shelved = stands.shelved

    long : length (old.slots.items ++ None ∷ []) ≡ length old.slots.items + 1
    long = length-append old.slots.items (None ∷ [])

    last : stands.timer (length old.slots.items) ≡ None
    last = (subst (λ o. IsTimed until old.second (length old.slots.items) (length old.slots.items) o (stands.timer (length old.slots.items)))
        (no_slot old.slots.items (length old.slots.items) (omega arith)) (shelved.times (length old.slots.items) (λ is. cc))).1 (omega arith)

    by : (y : ℕ) → y ≢ length old.slots.items → (o : Option (Named R)) → IsTimed until old.second (length old.slots.items) y o (stands.timer y) →
        IsTimed until old.second (length (old.slots.items ++ None ∷ [])) y o (stands.timer y)
    by y ne None timed = (λ inside. timed.0 (omega (arith, inside, long, ne)), λ past. timed.1 (omega (arith, past, long)))
    by y ne (Some s) timed = timed

-- INTO A SLOT

module _ {K R : Type 0} (old : List (Option (Slot K R))) (x : ℕ) (o : Option (Slot K R)) (inside : x < length old) where
  pub put_long : length (set old x o) ≡ length old
  put_long = length-set old x o

  pub put_there : slot_at (set old x o) x ≡ o
  put_there = get_or-set_same old x o None inside

  pub put_others : (y : ℕ) → x ≢ y → slot_at (set old x o) y ≡ slot_at old y
  put_others y ne = get_or-set_other old x y o None (λ e. ne (sym e))

apart_if : (x y : ℕ) → (x == y) ≡ false → x ≢ y
apart_if x y other is = absurd (grind (arith, nat_tests, other, is))

pub filled : {R : Type 0} (until whose : R → ℕ) (old new : Shelf R) (x : ℕ) (s : Named R) (stands : IsLoose until whose old x) → lookup (bytes_eq s.key) (entries_of old) ≡ None →
    new.slots.items ≡ set old.slots.items x (Some s) → IsShaped old.names new.names →
    Chained new.names (moved (λ y. name_place old.names.heads (slot_at old.slots.items y)) x (Some (bucket old.names.heads s.key))) → new.used ≡ old.used + 1 → new.second ≡ old.second →
    IsShaped old.wheel new.wheel → Chained new.wheel (moved stands.timer x (Some (list_for old.second (until s.kept)))) → EntersIf (nat_le old.second (until s.kept)) old.tally new.tally (whose s.kept) → IsShelved until whose new
filled {R} until whose old new x s stands unnamed slots shape put used second shape' put' enters = record {
  timer = timer';
  shelved = rw (slots, second) (record {
    named = same_place (moved (λ y. name_place old.names.heads (slot_at old.slots.items y)) x (Some (bucket old.names.heads s.key)))
        (λ y. name_place new.names.heads (slot_at (set old.slots.items x (Some s)) y)) (λ y. place y (x == y) refl) put;
    timed = put';
    times = λ y ne. by y (x == y) refl;
    loosed = λ y is. cc;
    tallied = tallied (nat_le old.second (until s.kept)) refl enters;
    once = once_in digests old.slots.items x s empty unnamed shelved.once;
    used_is = (let more = more_in digests old.slots.items x s empty inside in let was = shelved.used_is in omega (arith, more, was, used));
    some = rw shape.heads shelved.some;
    all = shape'.heads ∙ shelved.all;
    name_cells = shape.cells ∙ shelved.name_cells ∙ ap (λ n. n + length old.slots.items) (sym shape.heads) ∙ ap (λ n. new.names.heads + n) (sym long);
    time_cells = shape'.cells ∙ shelved.time_cells ∙ ap (λ n. n + length old.slots.items) (sym shape'.heads) ∙ ap (λ n. new.wheel.heads + n) (sym long);
  });
}
  where
    shelved : ShelvedBy until whose old stands.timer (Some x)
    shelved = stands.shelved

    list : ℕ
    list = list_for old.second (until s.kept)

    timer' : ℕ → Option ℕ
    timer' = moved stands.timer x (Some list)

    inside : x < length old.slots.items
    inside = (shelved.loosed x refl).1.0

    empty : slot_at old.slots.items x ≡ None
    empty = (shelved.loosed x refl).1.1

    long : length (set old.slots.items x (Some s)) ≡ length old.slots.items
    long = put_long old.slots.items x (Some s) inside

    there : slot_at (set old.slots.items x (Some s)) x ≡ Some s
    there = put_there old.slots.items x (Some s) inside

    others : (y : ℕ) → x ≢ y → slot_at (set old.slots.items x (Some s)) y ≡ slot_at old.slots.items y
    others = put_others old.slots.items x (Some s) inside

    place : (y : ℕ) → (b : Bool) → (x == y) ≡ b →
        name_place new.names.heads (slot_at (set old.slots.items x (Some s)) y) ≡ moved (λ z. name_place old.names.heads (slot_at old.slots.items z)) x (Some (bucket old.names.heads s.key)) y
    place y true same =
        let is : x ≡ y = grind (arith, nat_tests, same) in
        rw (same, subst (λ z. slot_at (set old.slots.items x (Some s)) z ≡ Some s) is there, shape.heads) refl
    place y false other = rw (other, others y (apart_if x y other), shape.heads) refl

    by : (y : ℕ) → (b : Bool) → (x == y) ≡ b →
        IsTimed until old.second (length (set old.slots.items x (Some s))) y (slot_at (set old.slots.items x (Some s)) y) (timer' y)
    by y true same =
        let is : x ≡ y = grind (arith, nat_tests, same) in
        rw (same, subst (λ z. slot_at (set old.slots.items x (Some s)) z ≡ Some s) is there) (inr refl)
    by y false other =
        rw (other, others y (apart_if x y other), long) (shelved.times y (λ is. (let same : x ≡ y = grind (arith, is) in apart_if x y other same)))

    beside : (y : ℕ) → y ≢ x → (timer' y ≡ stands.timer y) × (slot_at (set old.slots.items x (Some s)) y ≡ slot_at old.slots.items y)
    beside y ne = (let other : (x == y) ≡ false = grind (arith, nat_tests, ne) in rw other refl, others y (λ e. ne (sym e)))

    here : timer' x ≡ Some list
    here = let same : (x == x) ≡ true = grind (arith, nat_tests) in rw same refl

    counts : (b : Bool) → nat_le old.second (until s.kept) ≡ b → is_counted (timer' x) ≡ b
    counts b is = ap is_counted here ∙ list_counted old.second (until s.kept) ∙ is

    tallied : (b : Bool) → nat_le old.second (until s.kept) ≡ b → EntersIf b old.tally new.tally (whose s.kept) → Tallied whose (set old.slots.items x (Some s)) timer' new.tally
    tallied true is enters =
        tally_in whose old.slots.items (set old.slots.items x (Some s)) stands.timer timer' x long inside beside old.tally new.tally s there (counts true is) (λ p. rw empty refl) enters shelved.tallied
    tallied false is same =
        tally_apart whose old.slots.items (set old.slots.items x (Some s)) stands.timer timer' x long inside beside old.tally new.tally (λ p. rw (there, counts false is, empty) refl) same shelved.tallied

-- OUT OF ITS SLOT

pub evicted : {R : Type 0} (until whose : R → ℕ) (old new : Shelf R) (x : ℕ) (s : Named R) (stands : IsShelved until whose old) → slot_at old.slots.items x ≡ Some s → new.slots.items ≡ set old.slots.items x None →
    IsShaped old.names new.names → Chained new.names (moved (λ y. name_place old.names.heads (slot_at old.slots.items y)) x None) → new.used + 1 ≡ old.used → new.second ≡ old.second → new.wheel ≡ old.wheel →
    (counts : Bool) → is_counted (stands.timer x) ≡ counts → LeavesIf counts old.tally new.tally (whose s.kept) → IsShelved until whose new
evicted {R} until whose old new x s stands at slots shape out used second wheel counts counted leaves = record {
  timer = stands.timer;
  shelved = rw (slots, second, wheel) (record {
    named = same_place (moved (λ y. name_place old.names.heads (slot_at old.slots.items y)) x None) (λ y. name_place new.names.heads (slot_at (set old.slots.items x None) y)) (λ y. place y (x == y) refl) out;
    timed = shelved.timed;
    times = λ y ne. by y (x == y) refl;
    loosed = λ y is. cc;
    tallied = tallied counts counted leaves;
    once = once_out digests old.slots.items x shelved.once;
    used_is = (let less = fewer_out digests old.slots.items x s at in let was = shelved.used_is in omega (arith, less, was, used));
    some = rw shape.heads shelved.some;
    all = shelved.all;
    name_cells = shape.cells ∙ shelved.name_cells ∙ ap (λ n. n + length old.slots.items) (sym shape.heads) ∙ ap (λ n. new.names.heads + n) (sym long);
    time_cells = shelved.time_cells ∙ ap (λ n. old.wheel.heads + n) (sym long);
  });
}
  where
    shelved : ShelvedBy until whose old stands.timer None
    shelved = stands.shelved

    inside : x < length old.slots.items
    inside = slot_inside old.slots.items x s at

    long : length (set old.slots.items x None) ≡ length old.slots.items
    long = put_long old.slots.items x None inside

    there : slot_at (set old.slots.items x None) x ≡ None
    there = put_there old.slots.items x None inside

    others : (y : ℕ) → x ≢ y → slot_at (set old.slots.items x None) y ≡ slot_at old.slots.items y
    others = put_others old.slots.items x None inside

    is_listed : is_some (stands.timer x) ≡ true
    is_listed = is_placed until old.second (length old.slots.items) x s (stands.timer x) (timed_at until whose old stands x s at)

    place : (y : ℕ) → (b : Bool) → (x == y) ≡ b → name_place new.names.heads (slot_at (set old.slots.items x None) y) ≡ moved (λ z. name_place old.names.heads (slot_at old.slots.items z)) x None y
    place y true same = let is : x ≡ y = grind (arith, nat_tests, same) in rw same (ap (name_place new.names.heads) (subst (λ z. slot_at (set old.slots.items x None) z ≡ None) is there))
    place y false other = rw (other, others y (apart_if x y other), shape.heads) refl

    by : (y : ℕ) → (b : Bool) → (x == y) ≡ b → IsTimed until old.second (length (set old.slots.items x None)) y (slot_at (set old.slots.items x None) y) (stands.timer y)
    by y true same =
        let is : x ≡ y = grind (arith, nat_tests, same) in
        let in_list : is_some (stands.timer y) ≡ true = subst (λ z. is_some (stands.timer z) ≡ true) is is_listed in
        rw (subst (λ z. slot_at (set old.slots.items x None) z ≡ None) is there) (λ below. in_list, λ past. absurd (omega (arith, past, long, inside, is)))
    by y false other = rw (others y (apart_if x y other), long) (shelved.times y (λ is. cc))

    beside : (y : ℕ) → y ≢ x → (stands.timer y ≡ stands.timer y) × (slot_at (set old.slots.items x None) y ≡ slot_at old.slots.items y)
    beside y ne = (refl, others y (λ e. ne (sym e)))

    tallied : (b : Bool) → is_counted (stands.timer x) ≡ b → LeavesIf b old.tally new.tally (whose s.kept) → Tallied whose (set old.slots.items x None) stands.timer new.tally
    tallied true is leaves =
        tally_out whose old.slots.items (set old.slots.items x None) stands.timer stands.timer x long inside beside old.tally new.tally s at is (λ p. rw there refl) leaves shelved.tallied
    tallied false is same =
        tally_apart whose old.slots.items (set old.slots.items x None) stands.timer stands.timer x long inside beside old.tally new.tally (λ p. rw (there, at, is) refl) same shelved.tallied

-- AS IT IS ONCE IT WAS USED

pub used_there : {R : Type 0} (until whose : R → ℕ) (old new : Shelf R) (x : ℕ) (s : Named R) (r : R) (stands : IsShelved until whose old) → slot_at old.slots.items x ≡ Some s → until r ≡ until s.kept → whose r ≡ whose s.kept →
    new.slots.items ≡ set old.slots.items x (Some (record { key = s.key; kept = r })) → new.names ≡ old.names → new.wheel ≡ old.wheel → new.tally ≡ old.tally → new.used ≡ old.used → new.second ≡ old.second → IsShelved until whose new
used_there {R} until whose old new x s r stands at lasts is_whose slots names wheel tally used second = record {
  timer = stands.timer;
  shelved = rw (slots, names, wheel, tally, used, second) (record {
    named = same_place (λ y. name_place old.names.heads (slot_at old.slots.items y)) (λ y. name_place old.names.heads (slot_at (set old.slots.items x (Some t)) y)) (λ y. place y (x == y) refl) shelved.named;
    timed = shelved.timed;
    times = λ y ne. by y (x == y) refl;
    loosed = λ y is. cc;
    tallied = tally_kept whose old.slots.items (set old.slots.items x (Some t)) stands.timer stands.timer old.tally old.tally long (still old.tally) (λ q y. weighs_same q y (x == y) refl) shelved.tallied;
    once = subst (λ ks. IsDistinct bytes_eq ks) (sym (ap keys_of over ∙ keys-set_value (bytes_eq s.key) (entries_in old.slots.items) r)) shelved.once;
    used_is = shelved.used_is ∙ sym (ap length over ∙ length-set_value (bytes_eq s.key) (entries_in old.slots.items) r);
    some = shelved.some;
    all = shelved.all;
    name_cells = shelved.name_cells ∙ ap (λ n. old.names.heads + n) (sym long);
    time_cells = shelved.time_cells ∙ ap (λ n. old.wheel.heads + n) (sym long);
  });
}
  where
    shelved : ShelvedBy until whose old stands.timer None
    shelved = stands.shelved

    t : Named R
    t = record { key = s.key; kept = r }

    inside : x < length old.slots.items
    inside = slot_inside old.slots.items x s at

    over : entries_in (set old.slots.items x (Some t)) ≡ set_value (bytes_eq s.key) (entries_in old.slots.items) r
    over = put_over digests old.slots.items x s r shelved.once at

    long : length (set old.slots.items x (Some t)) ≡ length old.slots.items
    long = put_long old.slots.items x (Some t) inside

    there : slot_at (set old.slots.items x (Some t)) x ≡ Some t
    there = put_there old.slots.items x (Some t) inside

    others : (y : ℕ) → x ≢ y → slot_at (set old.slots.items x (Some t)) y ≡ slot_at old.slots.items y
    others = put_others old.slots.items x (Some t) inside

    place : (y : ℕ) → (b : Bool) → (x == y) ≡ b → name_place old.names.heads (slot_at (set old.slots.items x (Some t)) y) ≡ name_place old.names.heads (slot_at old.slots.items y)
    place y true same =
        let is : x ≡ y = grind (arith, nat_tests, same) in
        subst (λ z. name_place old.names.heads (slot_at (set old.slots.items x (Some t)) z) ≡ name_place old.names.heads (slot_at old.slots.items z)) is (rw (there, at) refl)
    place y false other = ap (name_place old.names.heads) (others y (apart_if x y other))

    weighs_same : (q : ℕ → Bool) (y : ℕ) → (b : Bool) → (x == y) ≡ b →
        weight (λ r. q (whose r)) (stands.timer y) (slot_at (set old.slots.items x (Some t)) y) ≡ weight (λ r. q (whose r)) (stands.timer y) (slot_at old.slots.items y)
    weighs_same q y true same =
        let is : x ≡ y = grind (arith, nat_tests, same) in
        subst (λ z. weight (λ r. q (whose r)) (stands.timer z) (slot_at (set old.slots.items x (Some t)) z) ≡ weight (λ r. q (whose r)) (stands.timer z) (slot_at old.slots.items z)) is (rw (there, at, is_whose) refl)
    weighs_same q y false other = ap (λ o. weight (λ r. q (whose r)) (stands.timer y) o) (others y (apart_if x y other))

    by : (y : ℕ) → (b : Bool) → (x == y) ≡ b → IsTimed until old.second (length (set old.slots.items x (Some t))) y (slot_at (set old.slots.items x (Some t)) y) (stands.timer y)
    by y true same =
        let is : x ≡ y = grind (arith, nat_tests, same) in
        subst (λ z. IsTimed until old.second (length (set old.slots.items x (Some t))) z (slot_at (set old.slots.items x (Some t)) z) (stands.timer z)) is
        (rw there (timed_as until old.second (length old.slots.items) (length (set old.slots.items x (Some t))) x s t (stands.timer x) lasts (timed_at until whose old stands x s at)))
    by y false other = rw (others y (apart_if x y other), long) (shelved.times y (λ e. cc))

-- MEMORY

-- nothing is kept yet
pub begun : {R : Type 0} (until whose : R → ℕ) (new : Shelf R) → new.slots.items ≡ [] → Chained new.names (λ x. None) → Chained new.wheel (λ x. None) → 1 ≤ new.names.heads → new.wheel.heads ≡ lists_of_wheel →
    length new.names.cells.items ≡ new.names.heads → length new.wheel.cells.items ≡ new.wheel.heads → new.tally.all ≡ 0 → ((c : ℕ) → share new.tally c ≡ 0) → new.used ≡ 0 → IsShelved until whose new
unfolding IsDistinct
begun until whose new slots named timed some all name_cells time_cells none each used = record {
  timer = λ x. None;
  shelved = rw slots (record {
    named = named;
    timed = timed;
    times = λ x ne. (λ inside. absurd (omega (arith, inside)), λ outside. refl);
    loosed = λ x is. cc;
    tallied = record { all = none; each = each };
    once = tt;
    used_is = used;
    some = some;
    all = all;
    name_cells = omega (arith, name_cells);
    time_cells = omega (arith, time_cells);
  });
}

-- there is more memory
pub reserved : {R : Type 0} (until whose : R → ℕ) (old new : Shelf R) (stands : IsShelved until whose old) → new.slots.items ≡ old.slots.items → new.names.heads ≡ old.names.heads → length new.names.cells.items ≡ length old.names.cells.items →
    Chained new.names (λ y. name_place old.names.heads (slot_at old.slots.items y)) → new.wheel.heads ≡ old.wheel.heads → length new.wheel.cells.items ≡ length old.wheel.cells.items → Chained new.wheel stands.timer → IsSameTally old.tally new.tally →
    new.used ≡ old.used → new.second ≡ old.second → IsShelved until whose new
reserved {R} until whose old new stands slots name_heads name_cells named time_heads time_cells timed tally used second = record {
  timer = stands.timer;
  shelved = rw (slots, used, second) (record {
    named = same_place (λ y. name_place old.names.heads (slot_at old.slots.items y)) (λ y. name_place new.names.heads (slot_at old.slots.items y)) (λ y. rw name_heads refl) named;
    timed = timed;
    times = shelved.times;
    loosed = shelved.loosed;
    tallied = tally_kept whose old.slots.items old.slots.items stands.timer stands.timer old.tally new.tally refl tally (λ q y. refl) shelved.tallied;
    once = shelved.once;
    used_is = shelved.used_is;
    some = rw name_heads shelved.some;
    all = time_heads ∙ shelved.all;
    name_cells = name_cells ∙ shelved.name_cells ∙ ap (λ n. n + length old.slots.items) (sym name_heads);
    time_cells = time_cells ∙ shelved.time_cells ∙ ap (λ n. n + length old.slots.items) (sym time_heads);
  });
}
  where
    shelved : ShelvedBy until whose old stands.timer None
    shelved = stands.shelved
