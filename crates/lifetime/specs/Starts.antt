-- How a server is started on a state file: what is looked at, what is told, and what is put on the device.
use Rattle.std.specs.Prelude.{◌≡◌, ◌⊎◌, ℕ, nat_lt, List, [], ◌∷◌, ◌++◌, length, Option, None, Some, if◌then◌else◌}
use Rattle.lifetime.specs.Names.{Times, Journal, SeenKeeper, IsPutOn}
use Rattle.outside.specs.declared.report.Notice.{Notice}
use Rattle.outside.specs.declared.report.Notice.TheVariants.{Ahead, Narrowed, SetAside}
use Rattle.event_loop.specs.Moments.{seconds_too_far}
use Rattle.lifetime.specs.Clocks.{seconds_ahead}
use Rattle.lifetime.specs.Given.{Given, LifePromises}
use Rattle.lifetime.specs.Plans.{IsPlanOf}
use Rattle.lifetime.specs.declared.means.Means.{Means}
use Rattle.lifetime.specs.declared.plan.Plan.{Plan}

-- WHAT IS LOOKED AT

-- what a start knows before anything is written: its plan, what the clocks told, and these from then on
pub record Outlook (C : Type 0) : Type 0 where
  pub plan : Plan
  pub now : Option Times
  pub clocks : C

-- the plan is one of the bytes, and the clocks told that
pub record LooksAt {D N C J : Type 0} (p : LifePromises D N C J) (given : Given D N C J) (outlook : Outlook C) : Type 0 where
  pub plan_is : IsPlanOf given.registry given.hooks given.bytes outlook.plan
  pub told : p.clocks.tells given.means.clocks outlook.now outlook.clocks

-- how many seconds the clocks are too far ahead, if they are
abbrev pub too_far_at : {D N C J : Type 0} → Given D N C J → Outlook C → Option ℕ
too_far_at given outlook = seconds_too_far given.means.limits.ahead outlook.now outlook.plan.prepared.moment

-- WHAT IS TOLD

-- the journal is told these notices, one after the other
abbrev pub ReportsAll : {J : Type 0} → Journal J → J → List Notice → J → Type 0
ReportsAll journaling old [] new = new ≡ old
ReportsAll {J} journaling old (notice ∷ later) new = (mid : J) × journaling.reports old notice mid × ReportsAll journaling mid later new

-- or it is as it was
abbrev pub MayReport : {J : Type 0} → Journal J → J → List Notice → J → Type 0
MayReport journaling old notices new = (new ≡ old) ⊎ ReportsAll journaling old notices new

-- how many bytes of an unfinished write were put aside, if there were any
abbrev pub torn_notices : List ℕ → List Notice
torn_notices [] = []
torn_notices (byte ∷ bytes) = SetAside (length (byte ∷ bytes)) ∷ []

-- how many codes and tokens ended, where the registry is narrower
abbrev pub ended_notices : Option ℕ → List Notice
ended_notices None = []
ended_notices (Some count) = Narrowed count ∷ []

-- how many seconds the state is ahead of the clocks, where these are more than a minute
abbrev pub ahead_notices : ℕ → List Notice
ahead_notices seconds = if nat_lt 60 seconds then Ahead seconds ∷ [] else []

-- all that a start tells
abbrev pub start_notices : Plan → Option Times → List Notice
start_notices plan now = torn_notices plan.torn.items ++ (ended_notices plan.ended ++ ahead_notices (seconds_ahead now plan.prepared.moment))

-- WHAT IS PUT ON THE DEVICE

-- where a start has come to: its keeper, and its means as they are by then
pub record Begun (D N C J : Type 0) : Type 0 where
  pub outlook : Outlook C
  pub keeper : SeenKeeper D
  pub means : Means N C J

-- The clocks are not too far ahead, the plan's batches stand on the device, all of it was told, and the other means are as they
-- were handed in.
pub record Settles {D N C J : Type 0} (p : LifePromises D N C J) (given : Given D N C J) (begun : Begun D N C J) : Type 0 where
  pub looks : LooksAt p given begun.outlook
  pub near : too_far_at given begun.outlook ≡ None
  pub put : IsPutOn p.device begun.outlook.plan.prepared.batches given.device begun.keeper
  pub told : ReportsAll p.journal given.means.journal (start_notices begun.outlook.plan begun.outlook.now) begun.means.journal
  pub means_are : begun.means ≡ record given.means { clocks = begun.outlook.clocks; journal = begun.means.journal }
