-- A list is left of what happened as that goes on, and where it is shortened.
use Rattle.std.proofs.Common.{◌≡◌, ◌≤◌, ◌<◌, ℕ, ◌+◌, List, [], ◌∷◌, ◌++◌, true, refl, ap, sym, subst, ◌∙◌, arith}
use Rattle.std.specs.Prelude.{filter, unwrap_or}
use Rattle.std.proofs.lemmas.Bool.Decides.{nat_tests}
use Rattle.std.proofs.lemmas.List.{append-nil}
use Rattle.consent.specs.History.{Event, Happened, event_at, IsHistory, is_unexpired, greatest_family, is_new, are_in_order, last_moment}
use Rattle.consent.specs.History.Change.{Numbered}
use Rattle.consent.specs.GrowthLaws.{grants-push_none, code_terms-push_none, is_spent-push_other, has_ended-push_other, last_consent-push, consents_kept-push_other, greatest_family-append}
use Rattle.consent.specs.HistoryLaws.{last-joined, last-past}
use Rattle.shortening.specs.Hooks.{hooks_set}
use Rattle.shortening.specs.HooksLaws.{other_goes}
use Rattle.shortening.specs.Lists.{AllStand, CodesOpen}
use Rattle.shortening.specs.ListsLaws.{is_history-stand, is_history-of, all_stand, all_stand-join, in_order-join, codes_open-start, codes_open-stand}
use Rattle.shortening.specs.Shortened.{TellsAlike, all_closed, shortened, is_needless}
use Rattle.shortening.specs.ShortenedLaws.{shortened_tells, shortened_is_history, shortened_stands, shortened_in_order}
use Rattle.shortening.specs.ClosedLaws.{closed-left, closed-grown, closed-follow, closed_push}
use Rattle.shortening.specs.AlikeLaws.{alike-trans, alike-grown}
use Rattle.shortening.specs.Standing.{IsSound, GoesOn, IsLeftOf}

pub tells_itself : (history : List Event) (m : ℕ) → TellsAlike history history m
tells_itself history m = record {
  unexpired = refl;
  spent = λ digest t le. refl;
  families = λ family live. record { terms = refl; ended = refl };
  new = λ family new. new;
  consented = λ owner client. refl;
  consents = refl;
  hooks = refl;
}

-- a sound list is left of itself
pub left_of_itself : (list : List Event) (m : ℕ) → IsSound list m → CodesOpen list → IsLeftOf list list m
left_of_itself list m sound opens =
    record { happened = record { is_history = sound.is_history; codes_open = opens }; sound = sound; alike = tells_itself list m }

-- what may stand, in its order, is one to go on from
pub sound-made : (list : List Event) → AllStand [] list → are_in_order 0 list ≡ true → all_closed list ≡ true → IsSound list (last_moment 0 list)
sound-made list stands order closed = record { stands = stands; in_order = order; closed = closed; is_history = is_history-of list stands order }

-- so a server may be made of the list: what happened is what it says
pub left-made : (list : List Event) → AllStand [] list → are_in_order 0 list ≡ true → all_closed list ≡ true → IsLeftOf list list (last_moment 0 list)
left-made list stands order closed = left_of_itself list (last_moment 0 list) (sound-made list stands order closed) (codes_open-stand [] list codes_open-start stands)

-- and so it is of all that happened
pub left-all : (history : List Event) → GoesOn [] 0 history → IsLeftOf history history (last_moment 0 history)
left-all history goes =
    let none : IsHistory [] 0 = is_history-of [] tt refl in
    left-made history (all_stand [] 0 history none goes.follow goes.in_order) goes.in_order (closed-follow history goes.follow)

-- where nothing happened nothing is left
pub left-none : IsLeftOf [] [] 0
left-none = left-made [] tt refl refl

-- what happens is written behind it
pub left-grown : (list history : List Event) (m : ℕ) (es : List Event) → IsLeftOf list history m → GoesOn history m es →
    IsLeftOf (list ++ es) (history ++ es) (last_moment m es)
left-grown list history m es left on =
    let order = on.in_order in
    let goes = alike-grown history list m es left.happened.is_history left.sound.is_history left.alike on.follow order in
    let stand = all_stand list m es left.sound.is_history goes.follow order in
    let happens = all_stand history m es left.happened.is_history on.follow order in record {
      happened = record {
        is_history = is_history-stand history m es left.happened.is_history happens order;
        codes_open = codes_open-stand history es left.happened.codes_open happens;
      };
      sound = record {
        stands = all_stand-join [] list es left.sound.stands stand;
        in_order = in_order-join 0 m list es (omega arith) left.sound.is_history.past left.sound.in_order order;
        closed = closed-grown list es left.sound.closed goes.follow;
        is_history = is_history-stand list m es left.sound.is_history stand order;
      };
      alike = goes.alike;
    }

-- so it is up to the last that happened
pub left-happened : (list history events after : List Event) → IsLeftOf list history (last_moment 0 history) → Happened history events after →
    IsLeftOf (list ++ events) after (last_moment 0 after)
left-happened list history events after left happened =
    let goes : GoesOn history (last_moment 0 history) events = record { follow = happened.follow; in_order = happened.in_order } in
    let on = left-grown list history (last_moment 0 history) events left goes in
    let last : last_moment (last_moment 0 history) events ≡ last_moment 0 after = sym (last-joined 0 history events) ∙ ap (last_moment 0) (sym happened.leads) in
    subst (λ (h : List Event). IsLeftOf (list ++ events) h (last_moment 0 after)) (sym happened.leads)
    (subst (λ (m : ℕ). IsLeftOf (list ++ events) (history ++ events) m) last on)

-- and it is shortened
pub sound-shortened : (list : List Event) (m : ℕ) → IsSound list m → IsSound (shortened m list) m
sound-shortened list m sound = record {
  stands = shortened_stands list m sound.stands;
  in_order = shortened_in_order list m sound.in_order;
  closed = closed-left (λ e later. is_needless list m e.moment e.change later) list [] sound.closed;
  is_history = shortened_is_history list m sound.is_history;
}

pub left-shortened : (list history : List Event) (m : ℕ) → IsLeftOf list history m → IsLeftOf (shortened m list) history m
left-shortened list history m left = record {
  happened = left.happened;
  sound = sound-shortened list m left.sound;
  alike = alike-trans history list (shortened m list) m m (omega arith) left.alike (shortened_tells list m left.sound.is_history);
}

-- THE GREATEST NUMBER

module _ (list history : List Event) (m n : ℕ) where
  abbrev numbered : Event
  numbered = event_at m (Numbered n)

  numbered_new : (family : ℕ) → n ≤ greatest_family history → is_new list family ≡ true → is_new history family ≡ true → is_new (list ++ numbered ∷ []) family ≡ true
  numbered_new family le first second = let most = greatest_family-append list (numbered ∷ []) in grind (arith, nat_tests, most, le, first, second)

  numbered_tells : IsHistory list m → n ≤ greatest_family history → TellsAlike history list m → TellsAlike history (list ++ numbered ∷ []) m
  numbered_tells is le alike = record {
    unexpired = ap (filter (is_unexpired m)) (grants-push_none list numbered refl) ∙ alike.unexpired;
    spent = λ digest t later. is_spent-push_other list numbered digest t refl ∙ alike.spent digest t later;
    families = λ family live. (let was = alike.families family live in record {
      terms = code_terms-push_none list numbered family refl ∙ was.terms;
      ended = has_ended-push_other list numbered family refl ∙ was.ended;
    });
    new = λ family new. numbered_new family le (alike.new family new) new;
    consented = λ owner client. ap (λ o. unwrap_or o 0) (last_consent-push list numbered owner client) ∙ alike.consented owner client;
    consents = consents_kept-push_other list numbered refl ∙ alike.consents;
    hooks = other_goes list [] m (Numbered n) refl ∙ ap hooks_set (append-nil list) ∙ alike.hooks;
  }

  -- a list tells the greatest number itself, where this is told behind it
  pub left-numbered : IsLeftOf list history m → n ≤ greatest_family history → IsLeftOf (list ++ numbered ∷ []) history m
  left-numbered left le = record {
    happened = left.happened;
    sound = record {
      stands = all_stand-join [] list (numbered ∷ []) left.sound.stands (tt, tt);
      in_order = in_order-join 0 m list (numbered ∷ []) (omega arith) left.sound.is_history.past left.sound.in_order (grind (arith, nat_tests));
      closed = closed_push list numbered left.sound.closed (λ family is. refl);
      is_history = is_history-stand list m (numbered ∷ []) left.sound.is_history (tt, tt) (grind (arith, nat_tests));
    };
    alike = numbered_tells left.sound.is_history le left.alike;
  }

  pub last-numbered : last_moment 0 (list ++ numbered ∷ []) ≡ m
  last-numbered = last-joined 0 list (numbered ∷ [])

-- no number is greater in what is left
pub left-greatest : (list history : List Event) (m : ℕ) → IsLeftOf list history m → greatest_family list ≤ greatest_family history
left-greatest list history m left =
    let new : is_new list (greatest_family history + 1) ≡ true = left.alike.new (greatest_family history + 1) (grind (arith, nat_tests)) in
    let less : greatest_family list < greatest_family history + 1 = grind (arith, nat_tests, new) in omega (arith, less)

-- so with the greatest number behind it a list has that number
pub greatest-numbered : (list history : List Event) (m : ℕ) → IsLeftOf list history m →
    greatest_family (list ++ event_at m (Numbered (greatest_family history)) ∷ []) ≡ greatest_family history
greatest-numbered list history m left =
    let le = left-greatest list history m left in
    let both = greatest_family-append list (event_at m (Numbered (greatest_family history)) ∷ []) in omega (arith, le, both)

-- and nothing is later than the moment
pub last-left : (list : List Event) (m : ℕ) → IsSound list m → last_moment 0 (shortened m list) ≤ m
last-left list m sound = last-past 0 m (shortened m list) (omega arith) (sound-shortened list m sound).is_history.past

-- a list that has the greatest number is shortened, and tells the number and the moment again
pub left-renewed : (list history : List Event) (m : ℕ) → IsLeftOf list history m → greatest_family list ≡ greatest_family history →
    IsLeftOf (shortened m list ++ event_at m (Numbered (greatest_family list)) ∷ []) history m
left-renewed list history m left same =
    left-numbered (shortened m list) history m (greatest_family list) (left-shortened list history m left) (omega (arith, same))

pub greatest-renewed : (list history : List Event) (m : ℕ) → IsLeftOf list history m → greatest_family list ≡ greatest_family history →
    greatest_family (shortened m list ++ event_at m (Numbered (greatest_family list)) ∷ []) ≡ greatest_family history
greatest-renewed list history m left same =
    ap (λ n. greatest_family (shortened m list ++ event_at m (Numbered n) ∷ [])) same
    ∙ greatest-numbered (shortened m list) history m (left-shortened list history m left)
