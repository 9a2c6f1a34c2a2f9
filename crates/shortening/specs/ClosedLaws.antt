-- Nothing is given of a family after its end, also where changes are left out.
use Rattle.std.proofs.Common.{◌≡◌, ◌≤◌, ℕ, List, [], ◌∷◌, ◌++◌, Bool, true, false, append_assoc, refl, ap, sym, ◌∙◌, arith}
use Rattle.std.specs.Prelude.{◌&&◌}
use Rattle.std.specs.List.{list_any, list_all}
use Rattle.std.proofs.lemmas.Bool.Decides.{nat_tests}
use Rattle.std.proofs.lemmas.Bool.{eq-eqb}
use Rattle.std.proofs.lemmas.List.{append-nil}
use Rattle.std.proofs.lemmas.List.Folds.{list_all-append}
use Rattle.consent.specs.History.{Event, event_at, Change, grants, ends, greatest_family, has_ended, CanFollow, AllFollow}
use Rattle.consent.specs.History.Change.{CodeGiven, Issued, FamilyEnded}
use Rattle.consent.specs.GrowthLaws.{grants-append}
use Rattle.consent.specs.HistoryLaws.{is_other}
use Rattle.shortening.specs.Left.{left_of}
use Rattle.shortening.specs.LeftLaws.{all_left}
use Rattle.shortening.specs.Shortened.{closes, all_closed}

-- one of the changes ends the family
abbrev is_closed : List Event → ℕ → Bool
is_closed es family = list_any (λ e. ends family e.change) es

closed_ended : (es : List Event) (family : ℕ) → is_closed es family ≡ true → has_ended es family ≡ true
closed_ended [] family is = cc
closed_ended (e ∷ es) family is = let more = closed_ended es family in grind (arith, more, is)

ended_number : (change : Change) (later : List Event) (family : ℕ) → ends family change ≡ true → family ≤ greatest_family (event_at 0 change ∷ later)
ended_number (FamilyEnded f) later family is = let same : f ≡ family = grind (arith, nat_tests, is) in omega (arith, same)
ended_number _ later family is = cc

closed_old : (es : List Event) (family : ℕ) → is_closed es family ≡ true → family ≤ greatest_family es
closed_old [] family is = cc
closed_old (e ∷ es) family is = by (ends family e.change) refl (closed_old es family) is
  where
    by : (b : Bool) → ends family e.change ≡ b → (is_closed es family ≡ true → family ≤ greatest_family es) → is_closed (e ∷ es) family ≡ true →
        family ≤ greatest_family (e ∷ es)
    by true here more is = ended_number e.change es family here
    by false here more is = let le = more (grind (arith, here, is)) in omega (arith, le)

-- what follows gives nothing of it
follows_none : (history : List Event) (moment : ℕ) (change : Change) (family : ℕ) → is_closed history family ≡ true → CanFollow history moment change →
    list_all (is_other family) (grants (event_at moment change ∷ [])) ≡ true
follows_none history moment (CodeGiven f code digest) family is can =
    let old = closed_old history family is in let new = can.0 in grind (arith, nat_tests, old, new)
follows_none history moment (Issued f parties token) family is can =
    let old = closed_old history family is in let ended = closed_ended history family is in let home = can.0 in grind (arith, nat_tests, old, ended, home)
follows_none history moment _ family is can = refl

closes_push : (change : Change) (later : List Event) (e : Event) → closes change later ≡ true →
    ((family : ℕ) → ends family change ≡ true → list_all (is_other family) (grants (e ∷ [])) ≡ true) → closes change (later ++ e ∷ []) ≡ true
closes_push (FamilyEnded f) later e was none =
    let here = none f (eq-eqb f f refl) in
    ap (list_all (is_other f)) (grants-append later (e ∷ [])) ∙ list_all-append (is_other f) (grants later) (grants (e ∷ [])) ∙ ap (λ b. b && list_all (is_other f) (grants (e ∷ []))) was ∙ here
closes_push _ later e was none = refl

pub closed_push : (es : List Event) (e : Event) → all_closed es ≡ true →
    ((family : ℕ) → is_closed es family ≡ true → list_all (is_other family) (grants (e ∷ [])) ≡ true) → all_closed (es ++ e ∷ []) ≡ true
closed_push [] e was none = by e.change
  where
    by : (change : Change) → (closes change [] && true) ≡ true
    by (FamilyEnded f) = refl
    by _ = refl
closed_push (x ∷ es) e was none =
    let here = closes_push x.change es e (grind (arith, was)) (λ family is. none family (grind (arith, is))) in
    let more = closed_push es e (grind (arith, was)) (λ family is. none family (grind (arith, is))) in grind (arith, here, more)

-- so what follows keeps it
pub closed-push : (history : List Event) (e : Event) → all_closed history ≡ true → CanFollow history e.moment e.change → all_closed (history ++ e ∷ []) ≡ true
closed-push history e was can = closed_push history e was (λ family is. follows_none history e.moment e.change family is can)

pub closed-grown : (history es : List Event) → all_closed history ≡ true → AllFollow history es → all_closed (history ++ es) ≡ true
closed-grown history [] was all = rw append-nil was
closed-grown history (e ∷ es) was all =
    ap all_closed (sym (append_assoc history (e ∷ []) es)) ∙ closed-grown (history ++ e ∷ []) es (closed-push history e was all.0) all.1

-- and so it is of all that happened
pub closed-follow : (history : List Event) → AllFollow [] history → all_closed history ≡ true
closed-follow history all = closed-grown [] history refl all

-- whatever goes
module _ (goes : Event → List Event → Bool) where
  closes_left : (change : Change) (es rest : List Event) → closes change es ≡ true → closes change (left_of goes es rest) ≡ true
  closes_left (FamilyEnded f) es rest was = all_left goes (is_other f) es rest was
  closes_left _ es rest was = refl

  pub closed-left : (es rest : List Event) → all_closed es ≡ true → all_closed (left_of goes es rest) ≡ true
  closed-left [] rest was = refl
  closed-left (e ∷ es) rest was =
      let here = closes_left e.change es rest in
      let more = closed-left es rest in grind (arith, here, more, was)
