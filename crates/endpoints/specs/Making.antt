-- What is made of changes.
use Rattle.std.specs.Prelude.{◌≡◌, ◌≤◌, ℕ, List, [], ◌∷◌}
use Rattle.endpoints.specs.Names.{changes_of, as_list, AllFollowAt, KeptConsents, Event, with_change, with_changes, Changes, Happening, Hosting, Checked}
use Rattle.consent.specs.declared.change.Change.{Change}
use Rattle.consent.specs.declared.change.Change.TheVariants.{Consented}
use Rattle.token_store.specs.Room.{HasRoom}
use Rattle.endpoints.specs.Bounded.{AllRightAfter}
use Rattle.endpoints.specs.Hosts.{HostRun}
use Rattle.endpoints.specs.Noting.{ArePrepared}
use Rattle.endpoints.specs.Ruling.{CanMakeAll, CanTake}
use Rattle.endpoints.specs.Server.{SeenServer, Outset, FitsServer}

-- there is room for the consent, if it is one
abbrev pub HasConsentRoom : KeptConsents → List Change → Type 0
HasConsentRoom kept (Consented owner client mask ∷ []) = 1 ≤ kept.room
HasConsentRoom kept cs = Unit {0}

-- there is room for the changes, and they are ready to be noted at the greatest moment
pub record HasRooms {H : Type 0} (server : SeenServer H) (changes : Changes) : Type 0 where
  pub store : HasRoom server.store (as_list changes)
  pub consents : HasConsentRoom server.consents (as_list changes)
  pub notes : ArePrepared server.prepared server.greatest changes

-- nothing has changed but what room there is
pub record IsSame {H : Type 0} (hosting : Hosting H) (old new : SeenServer H) : Type 0 where
  pub rules : new.rules ≡ old.rules
  pub host : new.host ≡ old.host
  pub greatest : new.greatest ≡ old.greatest
  pub unkept : new.unkept ≡ old.unkept
  pub fits : (outset : Outset H) (history : List Event) (m : ℕ) → FitsServer hosting old outset history m → FitsServer hosting new outset history m

-- the server can make and note the changes of a ruling, without memory
pub record IsReadyToMake {H : Type 0} (hosting : Hosting H) (server : SeenServer H) (changes : Changes) (checked : Checked H) : Type 0 where
  pub rooms : HasRooms server changes
  pub hook : CanTake hosting server.host (as_list changes) checked

-- the host comes by the changes from the one before, where it can make its own
abbrev pub MakesHost : {H : Type 0} → Hosting H → H → List Change → Checked H → H → Type 0
MakesHost hosting old changes checked new =
    (m : ℕ) → CanMakeAll hosting old changes checked → HostRun hosting old (with_changes [] m (changes_of changes)) new

-- Whatever history the server fitted, it then fits that history with the changes, where they may come next and are right, and
-- the host can make its own.
abbrev pub Makes : {H : Type 0} → Hosting H → SeenServer H → List Change → Checked H → SeenServer H → Type 0
Makes {H = H} hosting old changes checked new =
    (outset : Outset H) (history : List Event) → FitsServer hosting old outset history old.greatest →
    AllFollowAt history old.greatest (changes_of changes) → AllRightAfter outset.rules history old.greatest (changes_of changes) →
    CanMakeAll hosting old.host changes checked →
    FitsServer hosting new outset (with_changes history old.greatest (changes_of changes)) old.greatest

-- whatever history the server fitted, it then fits the history with the change, at its greatest moment
abbrev pub GoesOnWith : {H : Type 0} → Hosting H → SeenServer H → Happening → SeenServer H → Type 0
GoesOnWith {H = H} hosting old change new =
    (outset : Outset H) (history : List Event) → FitsServer hosting old outset history old.greatest →
    FitsServer hosting new outset (with_change history old.greatest change) old.greatest
