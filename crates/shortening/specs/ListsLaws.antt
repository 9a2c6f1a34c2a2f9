-- Lists of dated changes are histories.
use Rattle.std.proofs.Common.{◌≡◌, ◌≤◌, ℕ, List, [], ◌∷◌, ◌++◌, true, false, None, refl, subst, append_assoc, arith}
use Rattle.std.specs.Option.{option_or}
use Rattle.std.proofs.lemmas.Bool.Decides.{nat_tests}
use Rattle.std.proofs.lemmas.List.{append-nil}
use Rattle.consent.specs.History.{Event, Change, event_at, with_change, opener, code_terms, all_past, IsHistory, CanStand, AllFollow, are_in_order, last_moment}
use Rattle.consent.specs.HistoryLaws.{is_history-push, is_history-later, can_stand, opener-new}
use Rattle.consent.specs.History.Change.{CodeGiven}
use Rattle.consent.specs.GrowthLaws.{opener-append, code_terms-append}
use Rattle.shortening.specs.Lists.{AllStand, is_opened_by_code, CodesOpen}

-- a history goes on with what can stand next
pub is_history-stand : (history : List Event) (m : ℕ) (es : List Event) → IsHistory history m → AllStand history es → are_in_order m es ≡ true →
    IsHistory (history ++ es) (last_moment m es)
is_history-stand history m [] is all order = rw append-nil is
is_history-stand history m (e ∷ es) is all order =
    subst (λ (h : List Event). IsHistory h (last_moment e.moment es)) (append_assoc history (e ∷ []) es)
    (is_history-stand (history ++ e ∷ []) e.moment es
    (is_history-push history e.moment e.change (is_history-later history m e.moment (grind (arith, nat_tests, order)) is) all.0) all.1 (grind (arith, order)))

-- so each list of changes, one of which may stand after the other, is a history
pub is_history-of : (es : List Event) → AllStand [] es → are_in_order 0 es ≡ true → IsHistory es (last_moment 0 es)
is_history-of es all order =
    is_history-stand [] 0 es (record { past = refl; single = λ digest. (omega arith); one_code = λ family. (omega arith); kin = refl }) all order

-- what can follow may stand
pub all_stand : (history : List Event) (m : ℕ) (es : List Event) → IsHistory history m → AllFollow history es → are_in_order m es ≡ true → AllStand history es
all_stand history m [] is all order = tt
all_stand history m (e ∷ es) is all order =
    let can = can_stand history m e.moment e.change is all.0 in (
      can,
      all_stand (history ++ e ∷ []) e.moment es
          (is_history-push history e.moment e.change (is_history-later history m e.moment (grind (arith, nat_tests, order)) is) can) all.1 (grind (arith, order)),
    )

pub all_stand-join : (before xs ys : List Event) → AllStand before xs → AllStand (before ++ xs) ys → AllStand before (xs ++ ys)
all_stand-join before [] ys first second = rw append-nil at second
all_stand-join before (x ∷ xs) ys first second = (first.0, all_stand-join (before ++ x ∷ []) xs ys first.1 (rw append_assoc second))

-- ORDER

pub in_order-join : (n m : ℕ) (xs ys : List Event) → n ≤ m → all_past xs m ≡ true → are_in_order n xs ≡ true → are_in_order m ys ≡ true → are_in_order n (xs ++ ys) ≡ true
in_order-join n m [] [] le past first second = refl
in_order-join n m [] (y ∷ ys) le past first second = grind (arith, nat_tests, le, second)
in_order-join n m (x ∷ xs) ys le past first second =
    let more = in_order-join x.moment m xs ys (grind (arith, nat_tests, past)) (grind (arith, past)) (grind (arith, first)) second in grind (arith, first, more)

-- CODES OPEN FAMILIES

pub codes_open-start : CodesOpen []
codes_open-start family is = refl

pub codes_open-push : (history : List Event) (m : ℕ) (change : Change) → CodesOpen history → CanStand history m change → CodesOpen (with_change history m change)
codes_open-push history m change opens can family is =
    by change can (opener-append history (event_at m change ∷ []) family) (code_terms-append history (event_at m change ∷ []) family) is
  where
    by : (change : Change) → CanStand history m change →
        opener (with_change history m change) family ≡ option_or (opener history family) (opener (event_at m change ∷ []) family) →
        code_terms (with_change history m change) family ≡ option_or (code_terms history family) (code_terms (event_at m change ∷ []) family) →
        is_opened_by_code (with_change history m change) family ≡ false → code_terms (with_change history m change) family ≡ None
    by (CodeGiven f code digest) can first terms is =
        let new = opener-new history f can.0 in let was = opens family in grind (arith, nat_tests, new, was, first, terms, is)
    by _ can first terms is = let was = opens family in grind (arith, nat_tests, was, first, terms, is)

-- so they do in each list of changes, one of which may stand after the other
pub codes_open-stand : (history es : List Event) → CodesOpen history → AllStand history es → CodesOpen (history ++ es)
codes_open-stand history [] opens all = rw append-nil opens
codes_open-stand history (e ∷ es) opens all =
    subst CodesOpen (append_assoc history (e ∷ []) es)
    (codes_open-stand (history ++ e ∷ []) es (codes_open-push history e.moment e.change opens all.0) all.1)
