-- What a list of dated changes is left of.
use Rattle.std.specs.Prelude.{◌≡◌, ℕ, List, [], true}
use Rattle.consent.specs.History.{Event, AllFollow, IsHistory, are_in_order}
use Rattle.shortening.specs.Lists.{AllStand, CodesOpen}
use Rattle.shortening.specs.Shortened.{TellsAlike, all_closed}

-- the history at the moment is one, and where no code opened a family no code is of it
pub record IsWhole (history : List Event) (m : ℕ) : Type 0 where
  pub is_history : IsHistory history m
  pub codes_open : CodesOpen history

-- each of the changes may stand behind those before it, none is earlier, and no family is given anything after its end
pub record IsSound (list : List Event) (m : ℕ) : Type 0 where
  pub stands : AllStand [] list
  pub in_order : are_in_order 0 list ≡ true
  pub closed : all_closed list ≡ true
  pub is_history : IsHistory list m

-- with these events the history goes on after the moment: each can follow
pub record GoesOn (history : List Event) (m : ℕ) (events : List Event) : Type 0 where
  pub follow : AllFollow history events
  pub in_order : are_in_order m events ≡ true

-- The list is what may be left of all that happened up to the moment: it is sound, and tells the same from then on.
pub record IsLeftOf (list history : List Event) (m : ℕ) : Type 0 where
  pub happened : IsWhole history m
  pub sound : IsSound list m
  pub alike : TellsAlike history list m
