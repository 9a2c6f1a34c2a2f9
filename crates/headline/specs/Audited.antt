-- What is told of requests, and what happened with them.
use Rattle.std.specs.Prelude.{◌≡◌, ◌⊎◌, ℕ, List, [], ◌∷◌, All, Contains, Option, Some, codes}
use Rattle.headline.specs.Names.{flat_map, RegistryRecord, Change, Grant, grant_at, CodeGiven, Issued, Spent, FamilyEnded, Ask, Allowed, Failure, Checked, narrowed_by}
use Rattle.headline.specs.Names.{Hosting, Outset, Happening, Came, Resumed, Run, World, first_world}
use Rattle.consent.specs.History.{Event}
use Rattle.endpoints.specs.Telling.{request_told}
use Rattle.headline.specs.Hooked.{without_hooks}
use Rattle.headline.specs.Occasions.{GoesTo, Occasion, outcome_of, reply_on, setting_on}
use Rattle.hook_host.specs.Verdicts.{Verdict, last_left}
use Rattle.messages.specs.declared.error.ErrorName.TheVariants.{InvalidScope}
use Rattle.telling.specs.declared.interest.Interest.{Interest}
use Rattle.telling.specs.declared.interest.Interest.TheVariants.{Nothing}
use Rattle.telling.specs.declared.told.Told.{Told}
use Rattle.telling.specs.Interests.{wanted_of}

-- ONE REQUEST

-- what is told of it, where the host's hooks leave so much of each ask
abbrev pub told_on : (Ask → List Verdict) → RegistryRecord → List Event → Occasion → Told
told_on verdicts rules history occasion = request_told occasion.refused verdicts (setting_on rules history occasion) occasion.arrival.asked

-- where the change happens in a family, it is this one: what is spent is the code or token under its digest
abbrev pub IsOfFamily : List Event → ℕ → Option ℕ → Change → Type 0
IsOfFamily history moment told (CodeGiven family code digest) = told ≡ Some family
IsOfFamily history moment told (Issued family parties token) = told ≡ Some family
IsOfFamily history moment told (Spent digest) = (grant : Grant) × (grant_at history digest moment ≡ Some grant) × (told ≡ Some grant.family)
IsOfFamily history moment told (FamilyEnded family) = told ≡ Some family
IsOfFamily history moment told change = Unit {0}

-- whatever happens in a family, the family's number is told with it
abbrev pub IsAudited : RegistryRecord → List Event → Occasion → Type 0
IsAudited rules history occasion =
    (verdicts : Ask → List Verdict) →
    All (IsOfFamily history occasion.arrival.moment (told_on verdicts rules history occasion).family) (outcome_of rules history occasion).changes

-- Without hooks tokens would be given; with them none are, and not for a scope of which nothing is left.
pub record IsDenied (rules : RegistryRecord) (history : List Event) (occasion : Occasion) : Type 0 where
  pub goes : GoesTo occasion (codes "/token")
  pub granted_without : (reply_on rules history (without_hooks occasion)).status ≡ 200
  pub refused : ¬ ((reply_on rules history occasion).status ≡ 200)
  pub not_for_scope : ¬ ((reply_on rules history occasion).body ≡ Failure InvalidScope)

-- where the host is hooks, of each of which it is known what it left, whoever is denied is told of: where denials are wanted,
-- and where everything is
abbrev pub IsDenialTold : RegistryRecord → List Event → Occasion → Type 0
IsDenialTold rules history occasion =
    (hooks : List Checked) → ((ask : Ask) → occasion.host.answer ask ≡ narrowed_by hooks ask) →
    (verdicts : Ask → List Verdict) → ((ask : Ask) → last_left (Allowed ask.scope ask.life) (verdicts ask) ≡ occasion.host.answer ask) →
    IsDenied rules history occasion → (interest : Interest) → ¬ (interest ≡ Nothing) →
    wanted_of interest (told_on verdicts rules history occasion) ≡ Some (told_on verdicts rules history occasion)

-- A SCHEDULE

-- all that is told, in its order
abbrev pub tellings_by : Happening → List Told
tellings_by (Came came) = came.tellings
tellings_by e = []

abbrev pub tellings_in : List Happening → List Told
tellings_in schedule = flat_map tellings_by schedule

-- what was there already, where the server goes on from what was kept
abbrev pub resumed_by : Happening → List Event
resumed_by (Resumed history greatest kept) = history
resumed_by e = []

abbrev pub resumed_in : List Happening → List Event
resumed_in schedule = flat_map resumed_by schedule

-- it is told of, with its moment, and with the number of its family where it happens in one
abbrev pub IsToldOf : List Event → List Told → Event → Type 0
IsToldOf history tellings e =
    (told : Told) × Contains tellings told × (told.moment ≡ e.moment) × IsOfFamily history e.moment told.family e.change

-- whatever has happened is told of, unless it was there already
abbrev pub AreAudited : {H : Type 0} → Hosting H → Type 0
AreAudited {H = H} hosting =
    (outset : Outset H) (schedule : List Happening) (last : World) → Run hosting outset first_world schedule last →
    All (λ e. Contains (resumed_in schedule) e ⊎ IsToldOf last.history (tellings_in schedule) e) last.history
