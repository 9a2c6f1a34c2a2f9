-- A server that is made of a list of dated changes, one after the other.
use Rattle.std.specs.Prelude.{◌≡◌, ℕ, List, [], max}
use Rattle.endpoints.specs.Names.{Event, FitsConsents, Held, Hosting, IsHistory, KeptConsents, RegistryRecord, greatest_family}
use Rattle.shortening.specs.Shortened.{TellsAlike}
use Rattle.shortening.specs.Standing.{IsSound}
use Rattle.token_store.specs.Lists.{FitsList}
use Rattle.endpoints.specs.Bounded.{AllRight}
use Rattle.endpoints.specs.Hosts.{HostRun}
use Rattle.endpoints.specs.Server.{FitsServer, Outset, SeenServer}

-- a server in the making as it is seen
pub record SeenRemaking (H : Type 0) : Type 0 where
  pub rules : RegistryRecord
  pub host : H
  pub store : Held
  pub consents : KeptConsents
  -- the moment of the last change
  pub greatest : ℕ

-- It is made of the list, the last change of which is of the moment: it knows what the list tells, under the outset's rules,
-- and its host comes from the first one by the list's hooks. Each change may stand where it does, and is right there.
pub record FitsRemaking {H : Type 0} (hosting : Hosting H) (making : SeenRemaking H) (outset : Outset H) (list : List Event) (m : ℕ) : Type 0 where
  pub rules_are : making.rules ≡ outset.rules
  pub greatest_is : making.greatest ≡ m
  pub store : FitsList making.store list m
  pub consents : FitsConsents making.consents list
  pub hosts : HostRun hosting outset.first list making.host
  pub right : AllRight outset.rules [] list
  pub sound : IsSound list m

-- from the moment on the list tells what the history does, its greatest number of a family too
pub record TellsHistory (list : List Event) (m : ℕ) (history : List Event) : Type 0 where
  pub is_history : IsHistory history m
  pub alike : TellsAlike history list m
  pub last_is : greatest_family list ≡ greatest_family history

-- whatever list it was made of, the server fits each right history that the list tells from its moment or from `until` on,
-- whichever is later, where that leads to the host
abbrev pub Finishes : {H : Type 0} → Hosting H → SeenRemaking H → ℕ → SeenServer H → Type 0
Finishes {H = H} hosting making until server =
    (outset : Outset H) (list : List Event) (m : ℕ) → FitsRemaking hosting making outset list m →
    (history : List Event) → TellsHistory list (max m until) history → HostRun hosting outset.first history making.host →
    AllRight outset.rules [] history → FitsServer hosting server outset history (max m until)
