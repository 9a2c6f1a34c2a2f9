-- A history without the changes that no longer matter at a moment, and when two histories tell the same from a moment on.
use Rattle.std.specs.Prelude.{◌≡◌, ◌==◌, ◌∷◌, ◌+◌, ◌≤◌, ℕ, List, [], Bool, true, ◌&&◌, ◌||◌, not, nat_lt, is_some, unwrap_or, Option, Some, None, filter}
use Rattle.std.specs.List.{list_any, list_all}
use Rattle.consent.specs.History.{Event, Change, Grant, family_of, grants, is_unexpired, is_spent, is_new, lives, grant_at, Terms, code_terms, lowers, consented_scope, consents_kept}
use Rattle.consent.specs.History.Change.{Consented, CodeGiven, Issued, Spent, FamilyEnded, HookSet, HookGone, Numbered}
use Rattle.consent.specs.Limits.{code_life}
use Rattle.shortening.specs.Hooks.{hooks_set, takes}
use Rattle.shortening.specs.Left.{left_of, is_superseded, any_lowers, KeepsFamily}

-- the codes and tokens that are unexpired, spent ones and those of ended families too
abbrev pub unexpired : List Event → ℕ → List Grant
unexpired history moment = filter (is_unexpired moment) (grants history)

-- the change lowers no such terms, unless a later one does
abbrev pub is_lowered_later : Change → List Event → Option Terms → Bool
is_lowered_later change later None = true
is_lowered_later change later (Some terms) = not (lowers terms change) || any_lowers terms later

-- What the change says no longer matters at the moment m: of a family that does not live there, a token that has expired, the
-- Spent of what is not named there, a hook that is set no more, or a consent that another one follows before a code of a family
-- that lives is given, and that lowers no family that lives unless a later one does. The greatest number is told anew behind all.
abbrev pub is_needless : List Event → ℕ → ℕ → Change → List Event → Bool
is_needless history m moment (Consented owner client mask) later =
    is_superseded (lives history m) owner client later
    && list_all (λ g. is_lowered_later (Consented owner client mask) later (code_terms history g.family)) (unexpired history m)
is_needless history m moment (CodeGiven family code digest) later = not (lives history m family) && not (nat_lt m (moment + code_life))
is_needless history m moment (Issued family parties token) later = not (nat_lt m (moment + token.life))
is_needless history m moment (Spent digest) later = not (is_some (grant_at history digest m))
is_needless history m moment (FamilyEnded family) later = not (lives history m family)
is_needless history m moment (HookSet name version code) later = list_any (λ e. takes name e.change) later
is_needless history m moment (HookGone name) later = true
is_needless history m moment (Numbered last) later = true

-- the history without them
abbrev pub shortened : ℕ → List Event → List Event
shortened m history = left_of (λ e later. is_needless history m e.moment e.change later) history []

-- nothing else goes
abbrev pub GoNeedless : (Event → List Event → Bool) → List Event → ℕ → Type 0
GoNeedless goes history m = (e : Event) (later : List Event) → goes e later ≡ true → is_needless history m e.moment e.change later ≡ true

-- from the moment on what is left tells what the history does
pub record TellsAlike (history left : List Event) (m : ℕ) : Type 0 where
  -- the same codes and tokens are unexpired
  pub unexpired : unexpired left m ≡ unexpired history m
  -- the same of them are spent
  pub spent : (digest : List ℕ) (t : ℕ) → m ≤ t → is_spent left digest t ≡ is_spent history digest t
  -- the families that live have their terms, and have ended where they had
  pub families : (family : ℕ) → lives history m family ≡ true → KeepsFamily history left family
  -- a number that is new to the history is new to what is left: the greatest one may be smaller there
  pub new : (family : ℕ) → is_new history family ≡ true → is_new left family ≡ true
  -- the same is consented to, by as many
  pub consented : (owner client : ℕ) → consented_scope left owner client ≡ consented_scope history owner client
  pub consents : consents_kept left ≡ consents_kept history
  -- the same hooks are set
  pub hooks : hooks_set left ≡ hooks_set history

-- the change is no end of a family of which something is given later
abbrev pub closes : Change → List Event → Bool
closes (FamilyEnded family) later = list_all (λ g. not (g.family == family)) (grants later)
closes _ later = true

-- so it is of each
abbrev pub all_closed : List Event → Bool
all_closed [] = true
all_closed (e ∷ later) = closes e.change later && all_closed later

-- the change is of the family
abbrev pub is_of : ℕ → Change → Bool
is_of family change = unwrap_or (family_of change) 0 == family
