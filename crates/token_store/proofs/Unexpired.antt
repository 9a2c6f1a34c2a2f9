-- The unexpired codes and tokens, listed.
use Rattle.std.proofs.Common.{◌≡◌, ◌<◌, ◌≤◌, ◌+◌, ℕ, zero, suc, List, [], ◌∷◌, ◌++◌, Bool, true, false, Option, Some, None, refl, ap, sym, ◌∙◌, append_assoc, drop, length, arith}
use Rattle.token_store.proofs.Names.{count_by, map-append, count_by-cons, Event, is_named, is_unexpired, Record, Shared, Kept, kept_at, FitsHistory, as_kept, kept_record, all_kept}
use Rattle.token_store.proofs.Names.{is_live_at, nat_tests}
use Rattle.std.specs.Prelude.{filter}
use Rattle.std.proofs.lemmas.List.{at_drop_more}
use Rattle.shelf.specs.Shelved.{entries_in, slot_at, Named}
use Rattle.token_store.specs.RecordsParts.{shown_in, IsFamilyOf}
use Rattle.token_store.proofs.Names.{◌==◌, member_count, same_Some, values_of, IsCounted}
use Rattle.token_store.proofs.Dropping.{has_slot}
use Rattle.consent.specs.declared.kept_record.KeptRecord.{KeptRecord}

-- WHAT IS UNEXPIRED

-- what expires goes without a trace
pub fits_unexpired : (kept : List Kept) (history : List Event) (m : ℕ) → FitsHistory kept history m →
    FitsHistory (filter (λ k. is_unexpired m k.grant) kept) history m
fits_unexpired kept history m fits = record {
  answers = λ d t le. finds kept d t le ∙ fits.answers d t le;
  count = λ t le. count_filtered (λ k. is_unexpired t k.grant) kept (λ k is. grind (arith, nat_tests, is, le)) ∙ fits.count t le;
  once = λ d. rw (count_filtered (λ k. is_named d m k.grant) kept (λ k is. grind (arith, is))) (fits.once d);
  is_history = fits.is_history;
}
  where
    live : Kept → Bool
    live k = is_unexpired m k.grant

    finds : (ks : List Kept) (d : List ℕ) (t : ℕ) → m ≤ t → kept_at (filter live ks) d t ≡ kept_at ks d t
    finds [] d t le = refl
    finds (k ∷ ks) d t le = let more = finds ks d t le in grind (arith, nat_tests, more)

    count_filtered : (p : Kept → Bool) (ks : List Kept) → ((k : Kept) → is_unexpired m k.grant ≡ false → p k ≡ false) → count_by p (filter live ks) ≡ count_by p ks
    count_filtered p [] f = refl
    count_filtered p (k ∷ ks) f =
        let more = count_filtered p ks f in
        let here = f k in
        let some = count_by-cons p k ks in
        let left = count_by-cons p k (filter live ks) in
        grind (arith, more, here, some, left)

-- THE LOOP OVER SLOTS

-- those that are unexpired, of what is in the slots
abbrev pub unexpired_in : List (ℕ × Shared) → ℕ → List (Option (Named Record)) → List Kept
unexpired_in families m slots = filter (λ (k : Kept). is_unexpired m k.grant) (all_kept families (entries_in slots))

-- what the first slot shows comes first, and what the others do
pub shown_first : (families : List (ℕ × Shared)) (m : ℕ) (o : Option (Named Record)) (slots : List (Option (Named Record))) →
    unexpired_in families m (o ∷ slots) ≡ shown_in families m o ++ unexpired_in families m slots
shown_first families m None slots = refl
shown_first families m (Some s) slots = by (is_live_at m s.kept) refl
  where
    by : (b : Bool) → is_live_at m s.kept ≡ b → unexpired_in families m (Some s ∷ slots) ≡ shown_in families m (Some s) ++ unexpired_in families m slots
    by true live = grind (arith, live)
    by false gone = grind (arith, gone)

drop_first : (families : List (ℕ × Shared)) (m : ℕ) (slots : List (Option (Named Record))) (i : ℕ) → i < length slots →
    unexpired_in families m (drop i slots) ≡ shown_in families m (slot_at slots i) ++ unexpired_in families m (drop (i + 1) slots)
drop_first families m slots i lt = at_drop_more (unexpired_in families m) slots i None lt ∙ shown_first families m (slot_at slots i) (drop (i + 1) slots)

pub step_none : (families : List (ℕ × Shared)) (m : ℕ) (front whole : List Kept) (slots : List (Option (Named Record))) (i : ℕ) → i < length slots →
    shown_in families m (slot_at slots i) ≡ [] → front ++ unexpired_in families m (drop i slots) ≡ whole → front ++ unexpired_in families m (drop (i + 1) slots) ≡ whole
step_none families m front whole slots i lt none so_far =
    ap (λ (ks : List Kept). front ++ ks) (sym (drop_first families m slots i lt ∙ ap (λ (ks : List Kept). ks ++ unexpired_in families m (drop (i + 1) slots)) none)) ∙ so_far

pub step_some : (families : List (ℕ × Shared)) (m : ℕ) (items items' : List KeptRecord) (r : KeptRecord) (whole : List Kept) (slots : List (Option (Named Record))) (i : ℕ) → i < length slots →
    shown_in families m (slot_at slots i) ≡ kept_record r ∷ [] → items' ≡ items ++ r ∷ [] →
    as_kept items ++ unexpired_in families m (drop i slots) ≡ whole → as_kept items' ++ unexpired_in families m (drop (i + 1) slots) ≡ whole
step_some families m items items' r whole slots i lt shown pushed so_far =
    let left = unexpired_in families m (drop (i + 1) slots) in
    let first = drop_first families m slots i lt ∙ ap (λ (ks : List Kept). ks ++ left) shown in
    ap (λ (rs : List KeptRecord). as_kept rs ++ left) pushed ∙ ap (λ (ks : List Kept). ks ++ left) (map-append kept_record items (r ∷ []))
    ∙ append_assoc (as_kept items) (kept_record r ∷ []) left ∙ ap (λ (ks : List Kept). as_kept items ++ ks) (sym first) ∙ so_far

-- the family of what is in a slot has records, and so it is there
slot_member : (slots : List (Option (Named Record))) (i : ℕ) (s : Named Record) → slot_at slots i ≡ Some s → 0 < member_count (entries_in slots) s.kept.family
slot_member [] i s is = cc
slot_member (None ∷ ss) zero s is = cc
slot_member (Some x ∷ ss) zero s is =
    let own : x ≡ s = same_Some x s is in
    let sums = count_by-cons (λ (r : Record). r.family == s.kept.family) x.kept (values_of (entries_in ss)) in
    grind (arith, nat_tests, own, sums)
slot_member (None ∷ ss) (suc i) s is = slot_member ss i s is
slot_member (Some x ∷ ss) (suc i) s is =
    let more = slot_member ss i s is in
    let sums = count_by-cons (λ (r : Record). r.family == s.kept.family) x.kept (values_of (entries_in ss)) in
    omega (arith, more, sums)

pub slot_there : (families : List (ℕ × Shared)) (slots : List (Option (Named Record))) (i : ℕ) → IsCounted families (entries_in slots) → IsFamilyOf families (slot_at slots i)
slot_there families slots i counted = by (slot_at slots i) refl
  where
    by : (o : Option (Named Record)) → slot_at slots i ≡ o → IsFamilyOf families o
    by None is = tt
    by (Some s) is =
        let some = slot_member slots i s is in
        let count = counted s.kept.family in
        has_slot families s.kept.family (omega (arith, some, count))
