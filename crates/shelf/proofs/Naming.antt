-- The way along a list of slots to what a key names.
use Rattle.std.proofs.Common.{◌≡◌, ◌≢◌, ◌<◌, ◌≤◌, ◌+◌, ◌==◌, ℕ, List, [], ◌∷◌, ◌++◌, Option, Some, None, Bool, true, false, refl, ap, ◌∙◌, sym, append_assoc, append-nil, arith}
use Rattle.std.specs.Map.{lookup}
use Rattle.std.specs.Str.{bytes_eq}
use Rattle.std.proofs.lemmas.Bool.Decides.{nat_tests}
use Rattle.chains.specs.declared.chains.Chains.{Chains}
use Rattle.chains.specs.Chained.{Chained, HasCell, IsBehind, first_of, to_go}
use Rattle.chains.specs.ChainedLaws.{in_place, there_once, to_go-less}
use Rattle.chains.specs.Following.{follows_cell, headed, times, times-append, times-cons, unheaded}
use Rattle.shelf.specs.declared.shelf.Shelf.{Shelf}
use Rattle.shelf.specs.declared.shelf.Slot.{Slot}
use Rattle.shelf.specs.Looking.{is_held}
use Rattle.shelf.specs.Shelved.{bucket, entries_in, is_keyed, name_place, slot_at}
use Rattle.shelf.proofs.Keyed.{IsKeys, slot_unfound}

-- these slots of the list were looked at, and the key names none of them; the first of the others is next
pub record IsPassed {K R : Type 0} (names : Chains) (slots : List (Option (Slot K R))) (placer : ℕ → Option (Slot K R) → Option ℕ) (eq : K → K → Bool) (list : ℕ) (key : K) (at : Option ℕ) : Type 0 where
  pub named : Chained names (λ x. placer x (slot_at slots x))
  pub is_list : list < names.heads
  pub front : List ℕ
  pub rest : List ℕ
  pub split : named.lists list ≡ front ++ rest
  pub next : at ≡ first_of rest
  pub unnamed : (z : ℕ) → 0 < times z front → is_keyed eq key (slot_at slots z) ≡ false

-- of what a digest names on a shelf
abbrev pub IsPassedOn : {R : Type 0} → Shelf R → List ℕ → Option ℕ → Type 0
IsPassedOn shelf digest at = IsPassed shelf.names shelf.slots.items (λ x o. name_place shelf.names.heads o) bytes_eq (bucket shelf.names.heads digest) digest at

pub way_begins : {K R : Type 0} (names : Chains) (slots : List (Option (Slot K R))) (placer : ℕ → Option (Slot K R) → Option ℕ) (eq : K → K → Bool) (list : ℕ) (key : K) (at : Option ℕ) (named : Chained names (λ x. placer x (slot_at slots x))) →
    list < names.heads → at ≡ first_of (named.lists list) → IsPassed names slots placer eq list key at
way_begins names slots placer eq list key at named is_list is = record {
  named = named;
  is_list = is_list;
  front = [];
  rest = named.lists list;
  split = refl;
  next = is;
  unnamed = λ z some. absurd (omega (arith, some));
}

module _ {K R : Type 0} (names : Chains) (slots : List (Option (Slot K R))) (placer : ℕ → Option (Slot K R) → Option ℕ) (eq : K → K → Bool) (list : ℕ) (key : K) (x : ℕ) (passed : IsPassed names slots placer eq list key (Some x)) where
  more : List ℕ
  more = (headed passed.rest x (sym passed.next)).rest

  split : passed.named.lists list ≡ passed.front ++ x ∷ more
  unfolding more
  split = passed.split ∙ ap (λ xs. passed.front ++ xs) (headed passed.rest x (sym passed.next)).is

  pub way_cell : HasCell names x
  way_cell =
      let own = times-cons x x more in
      let both = times-append x passed.front (x ∷ more) in
      let whole = ap (times x) split in
      follows_cell names.cells.items names.heads list (passed.named.lists list) x (passed.named.follows list passed.is_list) (grind (arith, nat_tests, own, both, whole))

  -- something is in the slot, where no empty one has the list for its place
  pub way_held : placer x None ≢ Some list → is_held (slot_at slots x) ≡ true
  way_held unlisted =
      let own = times-cons x x more in
      let both = times-append x passed.front (x ∷ more) in
      let whole = ap (times x) split in
      let some : 0 < times x (passed.named.lists list) = grind (arith, nat_tests, own, both, whole) in
      let at = in_place list x (times x (passed.named.lists list)) (placer x (slot_at slots x)) (passed.named.placed list x passed.is_list) some in
      by (slot_at slots x) refl at
    where
      by : (o : Option (Slot K R)) → slot_at slots x ≡ o → placer x (slot_at slots x) ≡ Some list → is_held (slot_at slots x) ≡ true
      by None is at = absurd (unlisted (ap (placer x) (sym is) ∙ at))
      by (Some s) is at = ap is_held is

  pub way_nearer : (next : Option ℕ) → IsBehind passed.named x next → to_go names next < to_go names (Some x)
  way_nearer next behind = rw (behind list passed.front more passed.is_list split) (to_go-less passed.named list passed.front x more passed.is_list split)

  pub way_goes_on : (next : Option ℕ) → IsBehind passed.named x next → is_keyed eq key (slot_at slots x) ≡ false → IsPassed names slots placer eq list key next
  way_goes_on next behind other = record {
    named = passed.named;
    is_list = passed.is_list;
    front = passed.front ++ x ∷ [];
    rest = more;
    split = split ∙ sym (append_assoc passed.front (x ∷ []) more);
    next = behind list passed.front more passed.is_list split;
    unnamed = λ z some. by z (z == x) refl some;
  }
    where
      by : (z : ℕ) → (b : Bool) → (z == x) ≡ b → 0 < times z (passed.front ++ x ∷ []) → is_keyed eq key (slot_at slots z) ≡ false
      by z true same some = let at : z ≡ x = grind (arith, nat_tests, same) in ap (λ k. is_keyed eq key (slot_at slots k)) at ∙ other
      by z false ne some =
          let both = times-append z passed.front (x ∷ []) in
          let one = times-cons z x [] in
          passed.unnamed z (grind (arith, both, one, some, ne))

-- what a key names is held
pub keyed_held : {K R : Type 0} (eq : K → K → Bool) (key : K) (o : Option (Slot K R)) → is_keyed eq key o ≡ true → is_held o ≡ true
keyed_held eq key None is = cc
keyed_held eq key (Some s) is = refl

-- at the end of the list, in which all that the key names is, the key names nothing
pub way_ends : {K R : Type 0} {eq : K → K → Bool} (keys : IsKeys eq) (names : Chains) (slots : List (Option (Slot K R))) (placer : ℕ → Option (Slot K R) → Option ℕ) (list : ℕ) (key : K) → IsPassed names slots placer eq list key None →
    ((x : ℕ) (s : Slot K R) → eq key s.key ≡ true → placer x (Some s) ≡ Some list) → lookup (eq key) (entries_in slots) ≡ None
way_ends {K} {R} {eq} keys names slots placer list key passed belongs = slot_unfound keys slots key (λ x. by x (slot_at slots x) refl)
  where
    all : passed.named.lists list ≡ passed.front
    all = passed.split ∙ ap (λ xs. passed.front ++ xs) (unheaded passed.rest (sym passed.next)) ∙ append-nil passed.front

    by : (x : ℕ) (o : Option (Slot K R)) → slot_at slots x ≡ o → is_keyed eq key (slot_at slots x) ≡ false
    by x None at = ap (is_keyed eq key) at
    by x (Some s) at = by_name (eq key s.key) refl
      where
        by_name : (b : Bool) → eq key s.key ≡ b → is_keyed eq key (slot_at slots x) ≡ false
        by_name false other = ap (is_keyed eq key) at ∙ other
        by_name true same =
            let once = there_once passed.named list x passed.is_list (ap (placer x) at ∙ belongs x s same) in
            let there = ap (times x) all in
            passed.unnamed x (omega (arith, once, there))
