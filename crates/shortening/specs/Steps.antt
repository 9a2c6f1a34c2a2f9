-- What is known, change by change, while a list is shortened.
use Rattle.std.specs.Prelude.{◌≡◌, ℕ, List, [], ◌∷◌, Bool, not, reverse, if◌then◌else◌}
use Rattle.consent.specs.History.{Event, greatest_family, last_moment, lives}
use Rattle.shortening.specs.Known.{IsBehind, IsKnown, ListsCodes, NotesUnexpired, has_family}
use Rattle.shortening.specs.Shortened.{is_needless}
use Rattle.shortening.specs.declared.deciding.Deciding.{Deciding}
use Rattle.shortening.specs.declared.last_told.LastTold.{LastTold}
use Rattle.shortening.specs.declared.leaving.Leaving.{Leaving}
use Rattle.shortening.specs.declared.listing.Listing.{Listing}

-- the last moment and the greatest number of a family are those of the events
pub record TellsLast (told : LastTold) (events : List Event) : Type 0 where
  pub moment : told.moment ≡ last_moment 0 events
  pub number : told.number ≡ greatest_family events

-- what is unexpired is that of the history, and the codes of these events are listed
pub record IsListing (listing : Listing) (history : List Event) (m : ℕ) (events : List Event) : Type 0 where
  pub noted : NotesUnexpired listing.unexpired history m
  pub codes : ListsCodes (has_family listing.unexpired) listing.coded.keys listing.scopes.entries events

-- whether each of the events stays, where they are the last ones of the history
abbrev pub keeps_of : ℕ → List Event → List Event → List Bool
keeps_of m history [] = []
keeps_of m history (e ∷ later) = not (is_needless history m e.moment e.change later) ∷ keeps_of m history later

-- those of the events that stay
abbrev pub picked : List Bool → List Event → List Event
picked [] es = []
picked (keep ∷ keeps) [] = []
picked (keep ∷ keeps) (e ∷ es) = if keep then e ∷ picked keeps es else picked keeps es

-- it is known of these last ones of the events whether each stays
pub record IsDeciding (deciding : Deciding) (history : List Event) (m : ℕ) (later : List Event) : Type 0 where
  pub moment : deciding.moment ≡ m
  pub known : IsKnown deciding.known history m
  pub behind : IsBehind (lives history m) deciding.behind later
  pub keeps : reverse deciding.keeps.items ≡ keeps_of m history later

-- these answers are still to be given
abbrev pub IsLeaving : Leaving → List Bool → Type 0
IsLeaving leaving keeps = reverse leaving.keeps.items ≡ keeps
