-- What is not true of what is left, by small histories.
use Rattle.std.specs.Prelude.{◌≡◌, ℕ, List, [], ◌∷◌, ◌++◌, true, false}
use Rattle.consent.specs.History.{Event, event_at, lives, is_spent, consents_kept, greatest_family}
use Rattle.consent.specs.History.Change.{Consented, CodeGiven, Issued, Spent}
use Rattle.consent.specs.declared.grant.TokenKind.TheVariants.{Refresh}
use Rattle.shortening.specs.Shortened.{shortened}

-- a code under a digest
abbrev pub code : (moment family digest : ℕ) → Event
code moment family digest =
    event_at moment (CodeGiven family (record { client = 1; owner = 1; scope = 1; redirect = []; challenge = [] }) (digest ∷ []))

-- a token of family 5
abbrev pub token : (moment digest life : ℕ) → Event
token moment digest life =
    event_at moment (Issued 5 (record { owner = 1; client = 1 }) (record { digest = digest ∷ []; kind = Refresh; scope = 1; life = life }))

abbrev pub yes : (moment owner : ℕ) → Event
yes moment owner = event_at moment (Consented owner 1 1)

abbrev pub no : (moment : ℕ) → Event
no moment = event_at moment (Consented 1 1 0)

-- A family need not live where a token that is left was issued: the token that it was issued with has gone. So a change that is left
-- could not have followed (CanFollow), and may stand (CanStand).
abbrev pub opened : List Event
opened = yes 0 1 ∷ code 0 5 7 ∷ []

abbrev pub renewed : List Event
renewed = opened ++ token 500 8 10000 ∷ token 9000 9 10000 ∷ []

abbrev pub DoesNotFollow : Type 0
DoesNotFollow = (shortened 11000 renewed ≡ opened ++ token 9000 9 10000 ∷ []) × (lives opened 9000 5 ≡ false)

-- Before its moment a shortened history tells something else: a code is left, and its use is not. So the moment has to be kept with it.
abbrev pub used : List Event
used = opened ++ token 10 8 10000 ∷ event_at 10 (Spent (7 ∷ [])) ∷ []

abbrev pub TellsLateAlone : Type 0
TellsLateAlone = (is_spent used (7 ∷ []) 100 ≡ true) × (is_spent (shortened 700 used) (7 ∷ []) 100 ≡ false)

-- More may be consented to on the way through what is left than ever was: a server that makes these changes again must not refuse
-- one for want of room.
abbrev pub toggled : List Event
toggled = opened ++ no 1 ∷ yes 2 2 ∷ yes 3 1 ∷ no 4 ∷ token 5 8 10000 ∷ []

abbrev pub NeedsRoom : Type 0
NeedsRoom = (shortened 700 toggled ≡ (opened ++ yes 2 2 ∷ []) ++ no 4 ∷ token 5 8 10000 ∷ []) × (consents_kept (opened ++ yes 2 2 ∷ []) ≡ 2)
    × (consents_kept (opened ++ no 1 ∷ yes 2 2 ∷ []) ≡ 1)

-- The greatest number of a family may be smaller in what is left: the families of the greater ones have gone. So a server that is
-- made of what is left would give a number twice, unless the greatest one is noted.
abbrev pub older : List Event
older = opened ++ token 10 8 10000 ∷ code 20 6 9 ∷ []

abbrev pub ForgetsNumbers : Type 0
ForgetsNumbers = (greatest_family older ≡ 6) × (greatest_family (shortened 700 older) ≡ 5)
