-- Slots whose keys a test tells apart.
use Rattle.std.proofs.Common.{◌≡◌, ◌≢◌, ◌<◌, ◌≤◌, ◌+◌, ◌==◌, ℕ, zero, suc, List, [], ◌∷◌, Option, Some, None, Bool, true, false, length, set, refl, ap, ◌∙◌, sym, arith}
use Rattle.std.specs.Prelude.{map, if◌then◌else◌, nat_eq}
use Rattle.std.specs.Bool.{Decides}
use Rattle.std.specs.Cmp.{IsEquivalence}
use Rattle.std.specs.List.{AllByRecursion, IsDistinct}
use Rattle.std.specs.List.Sorted.{IsPermutation}
use Rattle.std.specs.Map.{keys_of, lookup, remove_entry, set_value}
use Rattle.std.specs.Str.{bytes_eq}
use Rattle.std.proofs.lemmas.Bool.Decides.{Decides-eqb, nat_tests}
use Rattle.std.proofs.lemmas.Cmp.{nat_list_eq_equiv}
use Rattle.std.proofs.lemmas.List.Sorted.{IsPermutation-cons, IsPermutation-refl, IsPermutation-swap, IsPermutation-trans}
use Rattle.std.proofs.lemmas.Map.{lookup-none}
use Rattle.std.proofs.lemmas.Map.Entries.{none_past_head}
use Rattle.std.proofs.lemmas.Map.Keys.{IsDistinct-cons, IsDistinct-head, IsDistinct-tail}
use Rattle.std.proofs.lemmas.Slice.Eq.{bytes_eq-Decides}
use Rattle.shelf.specs.declared.shelf.Slot.{Slot}
use Rattle.shelf.specs.Shelved.{entries_in, entry_of, is_keyed, slot_at}

-- the test tells keys apart
pub record IsKeys {K : Type 0} (eq : K → K → Bool) : Type 0 where
  pub laws : IsEquivalence eq
  pub decides : (x y : K) → Decides (eq x y) (x ≡ y)

pub digests : IsKeys bytes_eq
digests = record { laws = nat_list_eq_equiv; decides = bytes_eq-Decides }

pub numbers : IsKeys nat_eq
numbers = record {
  laws = record { refl = λ x. grind (arith, nat_tests); symm = λ x y. grind (arith, nat_tests); congr = λ x y z same. grind (arith, nat_tests, same) };
  decides = Decides-eqb;
}

-- where a key names what is in a slot, something is in it
pub keyed_slot : {K R : Type 0} (eq : K → K → Bool) (key : K) (o : Option (Slot K R)) → is_keyed eq key o ≡ true → (s : Slot K R) × (o ≡ Some s) × (eq key s.key ≡ true)
keyed_slot eq key None is = cc
keyed_slot eq key (Some s) is = (s, refl, is)

-- what is in a slot is in one of them
pub slot_within : {K R : Type 0} (slots : List (Option (Slot K R))) (x : ℕ) (s : Slot K R) → slot_at slots x ≡ Some s → x < length slots
slot_within [] x s at = cc
slot_within (t ∷ ss) zero s at = omega arith
slot_within (t ∷ ss) (suc x) s at = let more = slot_within ss x s at in omega (arith, more)

module _ {K R : Type 0} {eq : K → K → Bool} (keys : IsKeys eq) where
  -- what is in a slot is found by what names it
  pub slot_found : (slots : List (Option (Slot K R))) (x : ℕ) (s : Slot K R) (d : K) → IsDistinct eq (keys_of (entries_in slots)) → slot_at slots x ≡ Some s →
      eq d s.key ≡ true → lookup (eq d) (entries_in slots) ≡ Some s.kept
  slot_found [] x s d once at is = cc
  slot_found (None ∷ ss) zero s d once at is = cc
  slot_found (None ∷ ss) (suc x) s d once at is = slot_found ss x s d once at is
  slot_found (Some t ∷ ss) zero s d once at is = grind (arith, at, is)
  slot_found (Some t ∷ ss) (suc x) s d once at is =
      let more = slot_found ss x s d (IsDistinct-tail eq t.key (keys_of (entries_in ss)) once) at is in
      let none : eq d t.key ≡ true → lookup (eq d) (entries_in ss) ≡ None =
      λ same. lookup-none (eq d) (entries_in ss) (none_past_head keys.laws d (entry_of t) (entries_in ss) once same) in
      grind (arith, more, none)

  -- and nothing is found by what names nothing
  pub slot_unfound : (slots : List (Option (Slot K R))) (d : K) → ((x : ℕ) → is_keyed eq d (slot_at slots x) ≡ false) → lookup (eq d) (entries_in slots) ≡ None
  slot_unfound [] d unnamed = refl
  slot_unfound (None ∷ ss) d unnamed = slot_unfound ss d (λ x. unnamed (suc x))
  slot_unfound (Some t ∷ ss) d unnamed = let here = unnamed zero in let more = slot_unfound ss d (λ x. unnamed (suc x)) in grind (arith, here, more)

  -- what is named by the key is found by it
  pub named_found : (slots : List (Option (Slot K R))) (x : ℕ) (d : K) (o : Option (Slot K R)) → IsDistinct eq (keys_of (entries_in slots)) → slot_at slots x ≡ o →
      is_keyed eq d o ≡ true → (s : Slot K R) × (o ≡ Some s) × (lookup (eq d) (entries_in slots) ≡ Some s.kept)
  named_found slots x d None once at is = cc
  named_found slots x d (Some s) once at is = (s, refl, slot_found slots x s d once at is)

  -- what is in a slot further on has another key than what is in the first
  apart : (t : Slot K R) (ss : List (Option (Slot K R))) (x : ℕ) (s : Slot K R) → IsDistinct eq (keys_of (entries_in (Some t ∷ ss))) → slot_at ss x ≡ Some s → eq s.key t.key ≡ false
  apart t ss x s once at =
      let own = (keys.decides s.key s.key).1 refl in
      let found = slot_found ss x s s.key (IsDistinct-tail eq t.key (keys_of (entries_in ss)) once) at own in
      let none : eq s.key t.key ≡ true → lookup (eq s.key) (entries_in ss) ≡ None =
      λ same. lookup-none (eq s.key) (entries_in ss) (none_past_head keys.laws s.key (entry_of t) (entries_in ss) once same) in
      grind (arith, found, none)

  -- OUT

  pub taken_out : (slots : List (Option (Slot K R))) (x : ℕ) (s : Slot K R) → IsDistinct eq (keys_of (entries_in slots)) → slot_at slots x ≡ Some s →
      entries_in (set slots x None) ≡ remove_entry (eq s.key) (entries_in slots)
  taken_out [] x s once at = cc
  taken_out (None ∷ ss) zero s once at = cc
  taken_out (None ∷ ss) (suc x) s once at = taken_out ss x s once at
  taken_out (Some t ∷ ss) zero s once at =
      let own = (keys.decides s.key s.key).1 refl in
      grind (arith, own, at)
  taken_out (Some t ∷ ss) (suc x) s once at =
      let more = taken_out ss x s (IsDistinct-tail eq t.key (keys_of (entries_in ss)) once) at in
      let other = apart t ss x s once at in
      grind (arith, more, other)

  -- ANOTHER IN ITS PLACE

  pub put_over : (slots : List (Option (Slot K R))) (x : ℕ) (s : Slot K R) (r : R) → IsDistinct eq (keys_of (entries_in slots)) → slot_at slots x ≡ Some s →
      entries_in (set slots x (Some (record { key = s.key; kept = r }))) ≡ set_value (eq s.key) (entries_in slots) r
  put_over [] x s r once at = cc
  put_over (None ∷ ss) zero s r once at = cc
  put_over (None ∷ ss) (suc x) s r once at = put_over ss x s r once at
  put_over (Some t ∷ ss) zero s r once at =
      let own = (keys.decides s.key s.key).1 refl in
      grind (arith, own, at)
  put_over (Some t ∷ ss) (suc x) s r once at =
      let more = put_over ss x s r (IsDistinct-tail eq t.key (keys_of (entries_in ss)) once) at in
      let other = apart t ss x s once at in
      grind (arith, more, other)

  -- IN

  pub filled_in : (slots : List (Option (Slot K R))) (x : ℕ) (s : Slot K R) → slot_at slots x ≡ None → x < length slots →
      IsPermutation (entry_of s ∷ entries_in slots) (entries_in (set slots x (Some s)))
  filled_in [] x s at inside = absurd (omega (arith, inside))
  filled_in (None ∷ ss) zero s at inside = IsPermutation-refl (entry_of s ∷ entries_in ss)
  filled_in (Some t ∷ ss) zero s at inside = cc
  filled_in (None ∷ ss) (suc x) s at inside = filled_in ss x s at (omega (arith, inside))
  filled_in (Some t ∷ ss) (suc x) s at inside =
      IsPermutation-trans (entry_of s ∷ entry_of t ∷ entries_in ss) (entry_of t ∷ entry_of s ∷ entries_in ss) (entry_of t ∷ entries_in (set ss x (Some s)))
      (IsPermutation-swap (entry_of s ∷ entry_of t ∷ entries_in ss) (entry_of t ∷ entry_of s ∷ entries_in ss) 0 1 (omega arith) (omega arith) refl)
      (IsPermutation-cons (entry_of t) (entry_of s ∷ entries_in ss) (entries_in (set ss x (Some s))) (filled_in ss x s at (omega (arith, inside))))

  pub filled_found : (slots : List (Option (Slot K R))) (x : ℕ) (s : Slot K R) (d : K) → slot_at slots x ≡ None → x < length slots →
      lookup (eq s.key) (entries_in slots) ≡ None →
      lookup (eq d) (entries_in (set slots x (Some s))) ≡ (if eq s.key d then Some s.kept else lookup (eq d) (entries_in slots))
  filled_found [] x s d at inside none_yet = absurd (omega (arith, inside))
  filled_found (None ∷ ss) zero s d at inside none_yet = grind (arith, (keys.decides s.key d).0, (keys.decides s.key d).1, (keys.decides d s.key).0, (keys.decides d s.key).1)
  filled_found (Some t ∷ ss) zero s d at inside none_yet = cc
  filled_found (None ∷ ss) (suc x) s d at inside none_yet = filled_found ss x s d at (omega (arith, inside)) none_yet
  filled_found (Some t ∷ ss) (suc x) s d at inside none_yet =
      let other : eq s.key t.key ≡ false = grind (arith, none_yet) in
      let rest : lookup (eq s.key) (entries_in ss) ≡ None = grind (arith, none_yet) in
      let more = filled_found ss x s d at (omega (arith, inside)) rest in
      let one = (keys.decides s.key d).0 in
      let two = (keys.decides d t.key).0 in
      let same = (keys.decides s.key t.key).1 in
      grind (arith, other, more, one, two, same)

  -- KEYS

  keys_out : (P : K → Type 0) (slots : List (Option (Slot K R))) (x : ℕ) → AllByRecursion P (keys_of (entries_in slots)) → AllByRecursion P (keys_of (entries_in (set slots x None)))
  keys_out P [] x all = all
  keys_out P (None ∷ ss) zero all = all
  keys_out P (Some t ∷ ss) zero all = all.1
  keys_out P (None ∷ ss) (suc x) all = keys_out P ss x all
  keys_out P (Some t ∷ ss) (suc x) all = (all.0, keys_out P ss x all.1)

  pub once_out : (slots : List (Option (Slot K R))) (x : ℕ) → IsDistinct eq (keys_of (entries_in slots)) → IsDistinct eq (keys_of (entries_in (set slots x None)))
  once_out [] x once = once
  once_out (None ∷ ss) zero once = once
  once_out (Some t ∷ ss) zero once = IsDistinct-tail eq t.key (keys_of (entries_in ss)) once
  once_out (None ∷ ss) (suc x) once = once_out ss x once
  once_out (Some t ∷ ss) (suc x) once =
      IsDistinct-cons eq t.key (keys_of (entries_in (set ss x None))) (keys_out (λ y. eq t.key y ≡ false) ss x (IsDistinct-head eq t.key (keys_of (entries_in ss)) once))
      (once_out ss x (IsDistinct-tail eq t.key (keys_of (entries_in ss)) once))

  pub fewer_out : (slots : List (Option (Slot K R))) (x : ℕ) (s : Slot K R) → slot_at slots x ≡ Some s → length (entries_in (set slots x None)) + 1 ≡ length (entries_in slots)
  fewer_out [] x s at = cc
  fewer_out (None ∷ ss) zero s at = cc
  fewer_out (Some t ∷ ss) zero s at = omega arith
  fewer_out (None ∷ ss) (suc x) s at = fewer_out ss x s at
  fewer_out (Some t ∷ ss) (suc x) s at = let more = fewer_out ss x s at in omega (arith, more)

  keys_in : (P : K → Type 0) (slots : List (Option (Slot K R))) (x : ℕ) (s : Slot K R) → slot_at slots x ≡ None → P s.key → AllByRecursion P (keys_of (entries_in slots)) →
      AllByRecursion P (keys_of (entries_in (set slots x (Some s))))
  keys_in P [] x s at here all = all
  keys_in P (None ∷ ss) zero s at here all = (here, all)
  keys_in P (Some t ∷ ss) zero s at here all = cc
  keys_in P (None ∷ ss) (suc x) s at here all = keys_in P ss x s at here all
  keys_in P (Some t ∷ ss) (suc x) s at here all = (all.0, keys_in P ss x s at here all.1)

  unlike : (es : List (K × R)) (d : K) → lookup (eq d) es ≡ None → AllByRecursion (λ y. eq d y ≡ false) (keys_of es)
  unlike [] d none = tt
  unlike (e ∷ es) d none = let here : eq d e.0 ≡ false = grind (arith, none) in (here, unlike es d (grind (arith, none)))

  pub once_in : (slots : List (Option (Slot K R))) (x : ℕ) (s : Slot K R) → slot_at slots x ≡ None → lookup (eq s.key) (entries_in slots) ≡ None →
      IsDistinct eq (keys_of (entries_in slots)) → IsDistinct eq (keys_of (entries_in (set slots x (Some s))))
  once_in [] x s at none once = once
  once_in (None ∷ ss) zero s at none once = IsDistinct-cons eq s.key (keys_of (entries_in ss)) (unlike (entries_in ss) s.key none) once
  once_in (Some t ∷ ss) zero s at none once = cc
  once_in (None ∷ ss) (suc x) s at none once = once_in ss x s at none once
  once_in (Some t ∷ ss) (suc x) s at none once =
      let other : eq s.key t.key ≡ false = grind (arith, none) in
      let rest : lookup (eq s.key) (entries_in ss) ≡ None = grind (arith, none) in
      let one = (keys.decides t.key s.key).0 in
      let two = (keys.decides s.key t.key).1 in
      let flip : eq t.key s.key ≡ false = grind (arith, other, one, two) in
      IsDistinct-cons eq t.key (keys_of (entries_in (set ss x (Some s))))
      (keys_in (λ y. eq t.key y ≡ false) ss x s at flip (IsDistinct-head eq t.key (keys_of (entries_in ss)) once))
      (once_in ss x s at rest (IsDistinct-tail eq t.key (keys_of (entries_in ss)) once))

  pub more_in : (slots : List (Option (Slot K R))) (x : ℕ) (s : Slot K R) → slot_at slots x ≡ None → x < length slots → length (entries_in (set slots x (Some s))) ≡ length (entries_in slots) + 1
  more_in [] x s at inside = absurd (omega (arith, inside))
  more_in (None ∷ ss) zero s at inside = omega arith
  more_in (Some t ∷ ss) zero s at inside = cc
  more_in (None ∷ ss) (suc x) s at inside = more_in ss x s at (omega (arith, inside))
  more_in (Some t ∷ ss) (suc x) s at inside = let more = more_in ss x s at (omega (arith, inside)) in omega (arith, more)
