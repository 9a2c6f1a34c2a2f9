-- The place of a lane.
use Rattle.std.proofs.Common.{zero, suc, ◌≡◌, ◌≢◌, ◌<◌, ℕ, List, [], ◌∷◌, ◌++◌, Option, Some, None, Bor, true, nat_lt, length, drop, get_or, set, refl, sym, ap, ◌∙◌, inl, inr, arith}
use Rattle.http_edge.proofs.Names.{slice_get, ◌==◌, is_some, IfSome, option_copied, eqb-true, ltb-true, leb_tells, eqb_tells, nat_tests, drop-nil, find-passes, SeenLane, lane_at, output_in, ends_from}
use Rattle.http_edge.proofs.Names.{with_lane, without_lane, fresh_lane, AreApart, IsPlace, IsPosition}
use Rattle.std.specs.List.{position, position_or_len}
use Rattle.std.proofs.lemmas.List.Folds.{find_at}
use Rattle.std.proofs.lemmas.Option.{slice_get-get_or, slice_get_past, get_or_from_slice_get}

-- where a connection's lane lies, if it is there
abbrev pub at_number : List SeenLane → ℕ → ℕ
at_number lanes c = position_or_len (λ lane. lane.number == c) lanes

-- a write at the place is the lane's
put_is : (lanes : List SeenLane) (c i : ℕ) (new : SeenLane) → i ≡ at_number lanes c → i < length lanes → set lanes i new ≡ with_lane c new lanes
put_is [] c i new at within = absurd (omega (arith, within))
put_is (x ∷ xs) c zero new at within = grind (arith, at)
put_is (x ∷ xs) c (suc i) new at within = let rest = put_is xs c i new in grind (arith, at, within, rest)

places : (lanes : List SeenLane) (c i : ℕ) → i ≡ at_number lanes c → i < length lanes → IsPlace lanes c i
places lanes c i at within =
    let there : slice_get lanes i ≡ Some (get_or lanes i (fresh_lane c)) = slice_get-get_or lanes i (fresh_lane c) within in
    record {
      within = within;
      lane = get_or lanes i (fresh_lane c);
      here = find_at (λ lane. lane.number == c) lanes ∙ ap (slice_get lanes) (sym at) ∙ there;
      there = there;
      put = λ new. put_is lanes c i new at within;
    }

pub place_is : (lanes : List SeenLane) (c : ℕ) → IsPosition lanes c (position (λ lane. lane.number == c) lanes)
place_is lanes c = elim (leb_tells (suc (at_number lanes c)) (length lanes)) [
  | inl p ↦ rw p.0 (places lanes c _ refl p.1)
  | inr p ↦ rw p.0 (find_at (λ lane. lane.number == c) lanes ∙ slice_get_past lanes _ (omega (arith, p.1)))
]

-- what lies at the place is the lane
pub lane_is : (lanes : List SeenLane) (c i : ℕ) (r : SeenLane) (p : IsPlace lanes c i) → r ≡ get_or lanes i r → p.lane ≡ r
lane_is lanes c i r p e = sym (e ∙ get_or_from_slice_get lanes i p.lane r p.there)

-- what is written there is the lane then
pub put_at : (lanes : List SeenLane) (c i : ℕ) (p : IsPlace lanes c i) (new x : SeenLane) → new ≡ x → set lanes i new ≡ with_lane c x lanes
put_at lanes c i p new x e = p.put new ∙ ap (λ y. with_lane c y lanes) e

-- what was written there is the connection's lane
pub output_put : (lanes : List SeenLane) (c n : ℕ) (lane : SeenLane) → lane_at lanes c ≡ Some lane →
    output_in (lane_at (with_lane c (record { number = lane.number; phase = lane.phase; rest = lane.rest; output = drop n lane.output; ends = ends_from n lane.ends }) lanes) c) ≡ drop n (output_in (lane_at lanes c))
output_put [] c n lane here = sym (drop-nil n)
output_put (x ∷ xs) c n lane here = let rest = output_put xs c n lane in grind (arith, nat_tests, rest, here)

-- a lane that was removed is not there
pub without_is_gone : (lanes : List SeenLane) (c : ℕ) → lane_at (without_lane c lanes) c ≡ None
without_is_gone [] c = refl
without_is_gone (x ∷ xs) c = let rest = without_is_gone xs c in grind (arith, rest)

-- LANES APART

-- what has the number is found
not_none : (lanes : List SeenLane) (c i : ℕ) (d : SeenLane) → lane_at lanes c ≡ None → i < length lanes → (get_or lanes i d).number ≡ c → ⊥
not_none [] c i d none within is = omega (arith, within)
not_none (x ∷ xs) c zero d none within is = grind (arith, nat_tests, none, is)
not_none (x ∷ xs) c (suc i) d none within is = let rest = not_none xs c i d in grind (arith, rest, none, within, is)

-- a lane with the number is the one that is found
pub found_there : (lanes : List SeenLane) (c i : ℕ) (d : SeenLane) → AreApart lanes → i < length lanes → (get_or lanes i d).number ≡ c → at_number lanes c ≡ i
found_there [] c i d apart within is = absurd (omega (arith, within))
found_there (x ∷ xs) c zero d apart within is = grind (arith, nat_tests, is)
found_there (x ∷ xs) c (suc i) d apart within is =
    let rest = found_there xs c i d apart.1 in
    let other = not_none xs c i d in
    let none = apart.0 in
    grind (arith, nat_tests, rest, other, none, within, is)

pub place_there : (lanes : List SeenLane) (c i : ℕ) (lane : SeenLane) → AreApart lanes → nat_lt i (length lanes) ≡ true → lane ≡ get_or lanes i lane → lane.number ≡ c → IsPlace lanes c i
place_there lanes c i lane apart within there is =
    let below = ltb-true i (length lanes) within in
    places lanes c i (sym (found_there lanes c i lane apart below (rw (← there) is))) below

-- what is read at the place is the lane
pub got_lane : (lanes : List SeenLane) (i : ℕ) (got : Option (Bor SeenLane)) (lane : SeenLane) → is_some got ≡ nat_lt i (length lanes) → IfSome got (λ x. x.now ≡ get_or lanes i x.now) →
    i < length lanes → slice_get lanes i ≡ Some lane → option_copied got ≡ Some lane
got_lane lanes i None lane some is within there = grind (arith, nat_tests, some, within)
got_lane lanes i (Some x) lane some is within there = ap (λ l. Some l) (is ∙ get_or_from_slice_get lanes i lane x.now there)

none_more : (lanes : List SeenLane) (n c : ℕ) → lane_at lanes n ≡ None → n ≢ c → lane_at (lanes ++ fresh_lane c ∷ []) n ≡ None
none_more [] n c none other = grind (arith, nat_tests)
none_more (x ∷ xs) n c none other = let rest = none_more xs n c in grind (arith, rest, none, other)

-- with a lane of another connection
pub apart_more : (lanes : List SeenLane) (c : ℕ) → AreApart lanes → lane_at lanes c ≡ None → AreApart (lanes ++ fresh_lane c ∷ [])
apart_more [] c apart none = (refl, tt)
apart_more (x ∷ xs) c apart none = (none_more xs x.number c apart.0 (grind (arith, nat_tests, none)), apart_more xs c apart.1 (grind (arith, none)))

none_with : (lanes : List SeenLane) (n c : ℕ) (new : SeenLane) → new.number ≡ c → lane_at lanes n ≡ None → lane_at (with_lane c new lanes) n ≡ None
none_with [] n c new is none = refl
none_with (x ∷ xs) n c new is none = let rest = none_with xs n c new is in grind (arith, nat_tests, rest, is, none)

-- with another lane of the same connection
pub apart_with : (lanes : List SeenLane) (c : ℕ) (new : SeenLane) → new.number ≡ c → AreApart lanes → AreApart (with_lane c new lanes)
apart_with [] c new is apart = tt
apart_with (x ∷ xs) c new is apart = elim (eqb_tells x.number c) [
  | inl p ↦ rw p.0 ((let e : new.number ≡ x.number = is ∙ sym p.1 in rw e apart.0), apart.1)
  | inr p ↦ rw p.0 (none_with xs x.number c new is apart.0, apart_with xs c new is apart.1)
]

none_without : (lanes : List SeenLane) (n c : ℕ) → lane_at lanes n ≡ None → lane_at (without_lane c lanes) n ≡ None
none_without [] n c none = refl
none_without (x ∷ xs) n c none = let rest = none_without xs n c in grind (arith, rest, none)

-- with one lane fewer
pub apart_without : (lanes : List SeenLane) (c : ℕ) → AreApart lanes → AreApart (without_lane c lanes)
apart_without [] c apart = tt
apart_without (x ∷ xs) c apart = elim (eqb_tells x.number c) [
  | inl p ↦ rw p.0 (apart_without xs c apart.1)
  | inr p ↦ rw p.0 (none_without xs x.number c apart.0, apart_without xs c apart.1)
]

pub apart_put : (lanes : List SeenLane) (c i : ℕ) (p : IsPlace lanes c i) (new : SeenLane) → new.number ≡ p.lane.number → AreApart lanes → AreApart (set lanes i new)
apart_put lanes c i p new same apart =
    rw p.put (apart_with lanes c new (same ∙ eqb-true p.lane.number c (find-passes (λ lane. lane.number == c) lanes p.lane p.here)) apart)
