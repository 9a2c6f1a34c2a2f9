-- What a view shows of a setting. Only the functions' own clauses cite this module.
use Rattle.std.specs.Prelude.{◌≡◌, ℕ, List, Option, option_map}
use Rattle.answers.specs.Names.{Event, Grant, Found}
use Rattle.consent.specs.Consents.{FitsConsents}
use Rattle.token_store.specs.Fits.{FitsStore}
use Rattle.answers.specs.Found.{grant_found}
use Rattle.answers.specs.Requesters.{KnownClient}
use Rattle.answers.specs.Setting.{HostSays, Setting}
use Rattle.answers.specs.declared.view.KnownClient as seen
use Rattle.answers.specs.declared.view.View.{View}

-- that of a view, after a history, where the host says this
abbrev pub setting_of : View → List Event → HostSays → Setting
setting_of view history host = record {
  rules = view.rules.now;
  history = history;
  host = host;
  moment = view.moment;
  draws = view.draws.now;
}

-- what is kept is of the history
pub record Shows (view : View) (history : List Event) : Type 0 where
  pub store : FitsStore view.store.now history view.moment
  pub consents : FitsConsents view.consents.now history

-- it holds of each setting that the view shows
abbrev pub InEachSetting : View → (Setting → Type 0) → Type 0
InEachSetting view claim = (history : List Event) (host : HostSays) → Shows view history → claim (setting_of view history host)

abbrev pub known_of : seen.KnownClient → KnownClient
known_of known = record { number = known.number; client = known.client.now }

-- whatever history the view shows, what was found under the digest is what is wanted of it
abbrev pub Finds : View → List ℕ → Option Found → (List Event → Option Grant) → Type 0
Finds view digest found wanted =
    (history : List Event) → Shows view history → option_map (grant_found digest) found ≡ wanted history
