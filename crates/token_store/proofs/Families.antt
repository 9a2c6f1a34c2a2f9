-- Families that are ended, opened or let go of.
use Rattle.std.proofs.Common.{◌≡◌, ◌≢◌, ◌≤◌, ℕ, List, [], ◌∷◌, Option, Some, None, Bool, true, false, eqb, refl, ap, ◌∙◌, sym, subst, arith}
use Rattle.token_store.proofs.Names.{client_of, family_numbered, turned, values_of, count_by-cons, Record, Shared, shared_at, all_kept, member_count, is_coded, Ties, IsCounted, IsOwned, RecordChange}
use Rattle.token_store.proofs.Names.{told, may_end, altered, HasAltered, changed, HasEnded, HasLowered, HasIndexed, HasStruck, is_past, IsNextOwned, key_of, has_owner, owner_cmp, is_at, OwnerKey, lowered_shared, nat_tests, Tables, IsTied, kept_of, nat_eq}
use Rattle.token_store.specs.RecordsParts.{goes_beyond, HasClosed, OthersStay}
use Rattle.token_store.proofs.Lasting.{any_counted, member_few}
use Rattle.token_store.proofs.Dropping.{member_counted}
use Rattle.token_store.proofs.Names.{bytes_eq, is_member_at, list_any, lookup, or_nothing, stand_entries, ◌==◌}
use Rattle.token_store.proofs.Tying.{owner_at, keyless, coded_at, key_number, owned_without, turned_turned}
use Rattle.std.specs.Prelude.{map, nat_lt, option_map}

-- ENDING

-- as many records, of the same client, until the same moment
abbrev pub AreAlike : (old new : List (ℕ × Shared)) → Type 0
AreAlike old new = (k : ℕ) →
    ((shared_at new k).count ≡ (shared_at old k).count) × (((shared_at new k).client ≡ (shared_at old k).client) × ((shared_at new k).until ≡ (shared_at old k).until))

-- what tells the tables apart from others does not look at the change, and the index is as they are
pub tied_anew : (old new : List (ℕ × Shared)) (es : List (List ℕ × Record)) (owners owners' : List OwnerKey) (last swept : ℕ) → AreAlike old new →
    IsOwned new owners' → Ties old es owners last swept → Ties new es owners' last swept
tied_anew old new es owners owners' last swept alike owned tied = record {
  once = tied.once;
  homed = λ d r at. tied.homed d r at ∙ sym (alike r.family).1.0;
  lasting = λ n t le. tied.lasting n t le ∙ ap (nat_lt t) (sym (alike n).1.1);
  counted = λ k. (alike k).0 ∙ tied.counted k;
  owned = owned;
  below = tied.below;
}

alike_ended : (old new : List (ℕ × Shared)) (n : ℕ) → HasEnded old new n → AreAlike old new
alike_ended old new n ended k = let other = ended.others k in let here = ended.here in (grind (arith, nat_tests, here, other), (grind (arith, nat_tests, here, other), grind (arith, nat_tests, here, other)))

pub tied_ended : (old new : List (ℕ × Shared)) (n : ℕ) (es : List (List ℕ × Record)) (owners owners' : List OwnerKey) (last swept : ℕ) → HasEnded old new n →
    IsOwned new owners' → Ties old es owners last swept → Ties new es owners' last swept
tied_ended old new n es owners owners' last swept ended owned = tied_anew old new es owners owners' last swept (alike_ended old new n ended) owned

-- the change of a family is seen on all its records, and no visit to them is needed
pub view_ended : (old new : List (ℕ × Shared)) (n : ℕ) (es : List (List ℕ × Record)) → HasEnded old new n → ((k : ℕ) → member_count es k ≤ (shared_at old k).count) →
    all_kept new es ≡ map (changed (RecordChange.Ended n)) (all_kept old es)
view_ended old new n [] ended counted = refl
view_ended old new n (e ∷ es) ended counted =
    let sums = λ (k : ℕ). count_by-cons (λ x. eqb x.family k) e.1 (values_of es) in
    let tail = view_ended old new n es ended (λ k. (let more = sums k in let le = counted k in omega (arith, more, le))) in
    let here = sums e.1.family in
    let le = counted e.1.family in
    let other = ended.others e.1.family in
    grind (arith, nat_tests, tail, here, le, other)

-- LOWERING

-- a family has ended in the index, which has it no more
pub owned_ended : (old new : List (ℕ × Shared)) (owners owners' : List OwnerKey) (n : ℕ) (s : Shared) (key : Option OwnerKey) → key_of s n ≡ key → family_numbered old n ≡ Some s →
    HasStruck owners owners' key → HasEnded old new n → IsOwned old owners → IsOwned new owners'
owned_ended old new owners owners' n s key is found struck ended owned =
    owned_without old new owners owners' n s key is found owned struck (λ q. (let here = ended.here in grind (arith, here, found))) ended.others

-- up to this place those of the two that have not ended do not go beyond the mask
abbrev pub AreWithin : List (ℕ × Shared) → ℕ × ℕ → ℕ → Option ℕ → Type 0
AreWithin families parties mask after =
    (n : ℕ) → is_past after n ≡ true → is_coded (parties, n) (family_numbered families (turned n)) ≡ true → goes_beyond mask (family_numbered families (turned n)) ≡ false

-- all that have been lowered so far are as they are to be, and no other
pub record LowersOn (old new : List (ℕ × Shared)) (owners : List OwnerKey) (parties : ℕ × ℕ) (mask : ℕ) (after : Option ℕ) : Type 0 where
  pub owned : IsOwned new owners
  pub same : (k : ℕ) → option_map (lowered_shared parties.0 parties.1 mask) (family_numbered new k) ≡ option_map (lowered_shared parties.0 parties.1 mask) (family_numbered old k)
  pub within : AreWithin new parties mask after

-- one that goes beyond the mask is ended
marked_same : (o : Option Shared) (parties : ℕ × ℕ) (mask n : ℕ) → is_coded (parties, n) o ≡ true → goes_beyond mask o ≡ true →
    option_map (lowered_shared parties.0 parties.1 mask) (option_map (λ (s : Shared). record s { ended = true }) o) ≡ option_map (lowered_shared parties.0 parties.1 mask) o
marked_same None parties mask n coded beyond = refl
marked_same (Some s) parties mask n coded beyond = by s.coded refl
  where
    by : (c : Bool) → s.coded ≡ c → option_map (lowered_shared parties.0 parties.1 mask) (Some (record s { ended = true })) ≡ option_map (lowered_shared parties.0 parties.1 mask) (Some s)
    by false is = absurd (grind (arith, is, beyond))
    by true is = grind (arith, nat_tests, is, coded, beyond)

-- one that has ended is in no index
unmarked : (q : OwnerKey) (o : Option Shared) → is_coded q (option_map (λ (s : Shared). record s { ended = true }) o) ≡ false
unmarked q None = refl
unmarked q (Some s) = refl

module _ (old new : List (ℕ × Shared)) (owners : List OwnerKey) (parties : ℕ × ℕ) (mask : ℕ) (after : Option ℕ) (found : ℕ) (so_far : LowersOn old new owners parties mask after) (next : IsNextOwned owners parties after (Some found)) where
  -- none lies between
  between : (n : ℕ) → is_past (Some found) n ≡ true → n ≢ found → is_coded (parties, n) (family_numbered new (turned n)) ≡ true → is_past after n ≡ true
  between n past ne coded =
      let none = next.2 n in
      let was = so_far.owned (parties, n) in
      grind (arith, nat_tests, none, was, past, ne, coded)

  pub within_more : goes_beyond mask (family_numbered new (turned found)) ≡ false → LowersOn old new owners parties mask (Some found)
  within_more low = record { owned = so_far.owned; same = so_far.same; within = λ n past coded. by n past coded (n == found) refl }
    where
      by : (n : ℕ) → is_past (Some found) n ≡ true → is_coded (parties, n) (family_numbered new (turned n)) ≡ true → (b : Bool) → (n == found) ≡ b → goes_beyond mask (family_numbered new (turned n)) ≡ false
      by n past coded true is = let at : n ≡ found = grind (arith, nat_tests, is) in ap (λ k. goes_beyond mask (family_numbered new (turned k))) at ∙ low
      by n past coded false other = let ne : n ≢ found = λ same. absurd (grind (arith, nat_tests, other, same)) in so_far.within n (between n past ne coded) coded

  pub lowered_more : (new' : List (ℕ × Shared)) (owners' : List OwnerKey) → goes_beyond mask (family_numbered new (turned found)) ≡ true → IsOwned new' owners' → HasEnded new new' (turned found) →
      LowersOn old new' owners' parties mask (Some found)
  lowered_more new' owners' beyond owned ended = record {
    owned = owned;
    same = λ k.
        let other = ended.others k in
        let here = ended.here in
        let was = so_far.same k in
        let marked = marked_same (family_numbered new (turned found)) parties mask found (sym (so_far.owned (parties, found)) ∙ next.1) beyond in
        grind (arith, nat_tests, other, here, was, marked);
    within = λ n past coded. by n past coded (n == found) refl;
  }
    where
      by : (n : ℕ) → is_past (Some found) n ≡ true → is_coded (parties, n) (family_numbered new' (turned n)) ≡ true → (b : Bool) → (n == found) ≡ b → goes_beyond mask (family_numbered new' (turned n)) ≡ false
      by n past coded true is =
          let at : n ≡ found = grind (arith, nat_tests, is) in
          let gone : is_coded (parties, n) (family_numbered new' (turned n)) ≡ false =
          ap (λ k. is_coded (parties, n) (family_numbered new' (turned k))) at ∙ ap (is_coded (parties, n)) ended.here ∙ unmarked (parties, n) (family_numbered new (turned found)) in
          absurd (grind (arith, gone, coded))
      by n past coded false other =
          let ne : n ≢ found = λ same. absurd (grind (arith, nat_tests, other, same)) in
          let apart : turned n ≢ turned found = λ same. ne (sym (turned_turned n) ∙ ap turned same ∙ turned_turned found) in
          let same = ended.others (turned n) apart in
          let coded' : is_coded (parties, n) (family_numbered new (turned n)) ≡ true = ap (is_coded (parties, n)) (sym same) ∙ coded in
          ap (goes_beyond mask) same ∙ so_far.within n (between n past ne coded') coded'

-- one that does not go beyond the mask, or that is in no index, is as it is to be
settled : (o : Option Shared) (parties : ℕ × ℕ) (mask n : ℕ) → (is_coded (parties, n) o ≡ true → goes_beyond mask o ≡ false) →
    option_map (lowered_shared parties.0 parties.1 mask) o ≡ o
settled None parties mask n within = refl
settled (Some s) parties mask n within = by s.ended s.coded refl refl
  where
    by : (e c : Bool) → s.ended ≡ e → s.coded ≡ c → option_map (lowered_shared parties.0 parties.1 mask) (Some s) ≡ Some s
    by true c ended is = let same : record s { ended = true } ≡ s = (λ i. record s { ended = sym ended i }) in grind (arith, same)
    by false false ended is = grind (arith, is)
    by false true ended is = grind (arith, nat_tests, is, ended, within)

pub lowered_all : (old new : List (ℕ × Shared)) (owners : List OwnerKey) (parties : ℕ × ℕ) (mask : ℕ) (after : Option ℕ) → LowersOn old new owners parties mask after →
    IsNextOwned owners parties after None → HasLowered old new parties.0 parties.1 mask
lowered_all old new owners parties mask after so_far all k =
    sym (settled (family_numbered new k) parties mask (turned k) (subst (λ n. is_coded (parties, turned k) (family_numbered new n) ≡ true → goes_beyond mask (family_numbered new n) ≡ false) (turned_turned k) within))
    ∙ so_far.same k
  where
    within : is_coded (parties, turned k) (family_numbered new (turned (turned k))) ≡ true → goes_beyond mask (family_numbered new (turned (turned k))) ≡ false
    within coded =
        let there = so_far.owned (parties, turned k) ∙ coded in
        let low = so_far.within (turned k) in
        let none = all (turned k) in
        grind (arith, there, low, none, coded)

-- a change on a family's state is seen on each of its records
pub view_lowered : (old new : List (ℕ × Shared)) (es : List (List ℕ × Record)) (owner client mask : ℕ) → HasLowered old new owner client mask →
    all_kept new es ≡ map (changed (RecordChange.Lowered owner client mask)) (all_kept old es)
view_lowered old new [] owner client mask lowered = refl
view_lowered old new (e ∷ es) owner client mask lowered =
    let tail = view_lowered old new es owner client mask lowered in
    let here = lowered e.1.family in
    grind (arith, tail, here)

alike_lowered : (old new : List (ℕ × Shared)) (owner client mask : ℕ) → HasLowered old new owner client mask → AreAlike old new
alike_lowered old new owner client mask lowered k = let is = lowered k in (grind (arith, is), (grind (arith, is), grind (arith, is)))

pub tied_lowered : (old new : List (ℕ × Shared)) (owner client mask : ℕ) (es : List (List ℕ × Record)) (owners owners' : List OwnerKey) (last swept : ℕ) →
    HasLowered old new owner client mask → IsOwned new owners' → Ties old es owners last swept → Ties new es owners' last swept
tied_lowered old new owner client mask es owners owners' last swept lowered owned = tied_anew old new es owners owners' last swept (alike_lowered old new owner client mask lowered) owned

-- ALTERING

-- what ends no family leaves all as they are
pub unaltered : (families : List (ℕ × Shared)) (change : told) → may_end change ≡ false → HasAltered families families change
unaltered families change quiet n = by (family_numbered families n)
  where
    by : (o : Option Shared) → o ≡ option_map (altered change n) o
    by None = refl
    by (Some s) = grind (arith, quiet)

pub ended_altered : (old new : List (ℕ × Shared)) (family : ℕ) → HasEnded old new family → HasAltered old new (told.FamilyEnded family)
ended_altered old new family ended n = let other = ended.others n in let here = ended.here in grind (arith, nat_tests, other, here)

-- OPENING

-- where no record is of a family it isn't seen
unseen : (old new : List (ℕ × Shared)) (n : ℕ) (es : List (List ℕ × Record)) → ((k : ℕ) → k ≢ n → family_numbered new k ≡ family_numbered old k) → member_count es n ≡ 0 →
    all_kept new es ≡ all_kept old es
unseen old new n [] others none = refl
unseen old new n (e ∷ es) others none =
    let sums = count_by-cons (λ x. eqb x.family n) e.1 (values_of es) in
    let same = others e.1.family in
    grind (arith, nat_tests, sums, same, unseen old new n es others)

pub unseen_empty : (t : Tables) (new : List (ℕ × Shared)) (n : ℕ) → IsTied t → (shared_at t.families.entries n).count ≡ 0 →
    ((k : ℕ) → k ≢ n → family_numbered new k ≡ family_numbered t.families.entries k) → all_kept new (stand_entries t.records) ≡ kept_of t
unseen_empty t new n tied empty others = let same = tied.ties.counted n in unseen t.families.entries new n (stand_entries t.records) others (omega (arith, same, empty))

-- of a family without records none is unexpired
none_lasts : (families : List (ℕ × Shared)) (es : List (List ℕ × Record)) (n t : ℕ) → IsCounted families es → (shared_at families n).count ≡ 0 → list_any (is_member_at n t) (values_of es) ≡ false
none_lasts families es n t counted bare =
    let few = member_few n t (values_of es) in
    let any = any_counted (is_member_at n t) (values_of es) in
    let count = counted n in
    grind (arith, nat_tests, few, any, count, bare)

-- another family without records, or none, stands where one without any did
pub tied_bare : (old new : List (ℕ × Shared)) (n : ℕ) (es : List (List ℕ × Record)) (owners owners' : List OwnerKey) (last swept : ℕ) → (shared_at old n).count ≡ 0 → (shared_at new n).count ≡ 0 → (shared_at new n).until ≡ 0 →
    OthersStay old new n → IsOwned new owners' → Ties old es owners last swept → Ties new es owners' last swept
tied_bare old new n es owners owners' last swept bare empty fresh others owned tied = record {
  once = tied.once;
  homed = λ d r at. home d r at (r.family == n) refl;
  lasting = λ k t le. last_at k t le (k == n) refl;
  counted = λ k. (let other = others k in let was = tied.counted k in let was_n = tied.counted n in grind (arith, nat_tests, bare, empty, other, was, was_n));
  owned = owned;
  below = tied.below;
}
  where
    home : (d : List ℕ) (r : Record) → lookup (bytes_eq d) es ≡ Some r → (b : Bool) → (r.family == n) ≡ b → client_of r ≡ (shared_at new r.family).client
    home d r at true same =
        let is : r.family ≡ n = grind (arith, nat_tests, same) in
        let some = member_counted d es r at in
        let count = tied.counted r.family in
        absurd (let none : (shared_at old r.family).count ≡ 0 = subst (λ k. (shared_at old k).count ≡ 0) (sym is) bare in omega (arith, some, count, none))
    home d r at false other =
        let ne : r.family ≢ n = λ is. absurd (grind (arith, nat_tests, other, is)) in
        tied.homed d r at ∙ ap (λ o. (or_nothing o).client) (sym (others r.family ne))

    last_at : (k t : ℕ) → swept ≤ t → (b : Bool) → (k == n) ≡ b → list_any (is_member_at k t) (values_of es) ≡ nat_lt t (shared_at new k).until
    last_at k t le true same =
        let is : n ≡ k = grind (arith, nat_tests, same) in
        let never : nat_lt t (shared_at new n).until ≡ false = rw fresh (grind (arith, nat_tests)) in
        subst (λ m. list_any (is_member_at m t) (values_of es) ≡ nat_lt t (shared_at new m).until) is (none_lasts old es n t tied.counted bare ∙ sym never)
    last_at k t le false other =
        let ne : k ≢ n = λ is. absurd (grind (arith, nat_tests, other, is)) in
        tied.lasting k t le ∙ ap (λ o. nat_lt t (or_nothing o).until) (sym (others k ne))

-- the index is that of the families with one in the place of another that it tells the same of
pub owned_shared : (old new : List (ℕ × Shared)) (n : ℕ) (s : Shared) (owners : List OwnerKey) → IsOwned old owners → family_numbered new n ≡ Some s → OthersStay old new n →
    ((key : OwnerKey) → is_coded key (family_numbered old n) ≡ is_coded key (Some s)) → IsOwned new owners
owned_shared old new n s owners owned here others alike key = by (nat_eq (turned key.1) n) refl
  where
    by : (b : Bool) → nat_eq (turned key.1) n ≡ b → has_owner owners key ≡ is_coded key (family_numbered new (turned key.1))
    by true is =
        let same : turned key.1 ≡ n = grind (arith, nat_tests, is) in
        owned key ∙ ap (λ k. is_coded key (family_numbered old k)) same ∙ alike key ∙ ap (is_coded key) (sym here) ∙ ap (λ k. is_coded key (family_numbered new k)) (sym same)
    by false is =
        let ne : turned key.1 ≢ n = λ same. absurd (grind (arith, nat_tests, is, same)) in
        owned key ∙ ap (is_coded key) (sym (others (turned key.1) ne))

-- what is seen once a family without records is let go of
pub tied_closed : (old new : List (ℕ × Shared)) (n : ℕ) (es : List (List ℕ × Record)) (owners owners' : List OwnerKey) (last swept : ℕ) → (shared_at old n).count ≡ 0 →
    HasClosed old new n → (IsOwned old owners → IsOwned new owners') → Ties old es owners last swept → Ties new es owners' last swept
tied_closed old new n es owners owners' last swept bare closed owned tied =
    tied_bare old new n es owners owners' last swept bare (ap (λ o. (or_nothing o).count) closed.here) (ap (λ o. (or_nothing o).until) closed.here) closed.others (owned tied.owned) tied

-- a family without records is let go of, and what the tables tell of stays
pub record IsCleared (t : Tables) (new : List (ℕ × Shared)) (owners : List OwnerKey) (n : ℕ) : Type 0 where
  pub tied : Ties new (stand_entries t.records) owners t.last t.swept
  pub kept : all_kept new (stand_entries t.records) ≡ kept_of t
  pub closed : HasClosed t.families.entries new n

-- so it is wherever the others lie
pub cleared : (t : Tables) (mid new : List (ℕ × Shared)) (owners : List OwnerKey) (n : ℕ) → IsTied t → (shared_at t.families.entries n).count ≡ 0 →
    HasClosed t.families.entries mid n → (IsOwned t.families.entries t.owners.keys → IsOwned mid owners) →
    ((k : ℕ) → family_numbered new k ≡ family_numbered mid k) → IsCleared t new owners n
cleared t mid new owners n tied bare closed owned same =
    let moved : HasClosed t.families.entries new n = record { here = same n ∙ closed.here; others = λ k ne. same k ∙ closed.others k ne } in
    record {
      tied = tied_closed t.families.entries new n (stand_entries t.records) t.owners.keys owners t.last t.swept bare moved
          (λ was key. owned was key ∙ ap (is_coded key) (sym (same (turned key.1)))) tied.ties;
      kept = unseen_empty t new n tied bare moved.others;
      closed = moved;
    }

owned_opened : (old new : List (ℕ × Shared)) (n : ℕ) (s : Shared) (owners owners' : List OwnerKey) (key : Option OwnerKey) → family_numbered old n ≡ None → family_numbered new n ≡ Some s →
    OthersStay old new n → key_of s n ≡ key → HasIndexed owners owners' key → IsOwned old owners → IsOwned new owners'
owned_opened old new n s owners owners' None none here others is indexed owned q =
    let quiet = keyless s n q is in
    let was = owned q in
    let other = others (turned q.1) in
    grind (arith, nat_tests, quiet, was, other, here, none, indexed)
owned_opened old new n s owners owners' (Some key) none here others is indexed owned q =
    let at = coded_at s n key q is in
    let far = owner_at key q in
    let number = key_number s n key is in
    let now = indexed q in
    let was = owned q in
    let other = others (turned q.1) in
    let place = turned_turned n in
    grind (arith, nat_tests, at, far, number, place, now, was, other, here, none)

-- and once one without records is opened
pub tied_opened : (old new : List (ℕ × Shared)) (n : ℕ) (s : Shared) (es : List (List ℕ × Record)) (owners owners' : List OwnerKey) (last swept : ℕ) → s.count ≡ 0 → s.until ≡ 0 →
    family_numbered old n ≡ None → family_numbered new n ≡ Some s → OthersStay old new n →
    HasIndexed owners owners' (key_of s n) → Ties old es owners last swept → Ties new es owners' last swept
tied_opened old new n s es owners owners' last swept empty fresh none here others indexed tied =
    tied_bare old new n es owners owners' last swept (ap (λ o. (or_nothing o).count) none) (ap (λ o. (or_nothing o).count) here ∙ empty) (ap (λ o. (or_nothing o).until) here ∙ fresh) others
    (owned_opened old new n s owners owners' (key_of s n) none here others refl indexed tied.owned) tied
