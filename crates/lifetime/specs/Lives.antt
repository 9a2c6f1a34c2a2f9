-- One life of a server on the file of its state.
use Rattle.std.specs.Prelude.{◌≡◌, ◌≤◌, ◌⊎◌, ℕ, max, List, [], None, Some, IsSome, Result}
use Rattle.lifetime.specs.Names.{LeavesOnly, RegistryRecord, Event, IsFrontOf, outset_of, Onward, Beginning, HasServed, ServesNothing, Served, Named, SeenEdge, Reached, resumed_journey, SeenKeeper}
use Rattle.lifetime.specs.Names.{HookFact, OfEachRun, StandsFor, IsOfDisk, IsUntouched, TellsRules, rules_of, StateFault, until_of}
use Rattle.batch_file.specs.Crashes.{IsBeside}
use Rattle.batch_file.specs.Frames.{IsReadable, recovered}
use Rattle.change_codec.specs.Keeping.{horizon_bound}
use Rattle.endpoints.specs.Bounded.{AllRight, IsBounded}
use Rattle.endpoints.specs.Hosts.{HostRun}
use Rattle.event_loop.specs.Durable.{latest}
use Rattle.event_loop.specs.Ends.{told_then}
use Rattle.event_loop.specs.Served.{LoopStep}
use Rattle.event_loop.specs.Sole.{IsWriteSole}
use Rattle.outside.specs.declared.fault.LoopFault.TheVariants.{Keep}
use Rattle.hook_chain.specs.contracts.chain.ChainHookHost.TheImpl as chain
use Rattle.state_file.specs.Making.{StopsReading}
use Rattle.lifetime.specs.Given.{Given, LifePromises, LifeState, in_loop, life_of, given as handed}
use Rattle.lifetime.specs.Plans.{IsPlanned, RefusesPlan, begun_from}
use Rattle.lifetime.specs.Serving.{tools_of}
use Rattle.lifetime.specs.Starts.{Begun, LooksAt, MayReport, Outlook, Settles, too_far_at, torn_notices}
use Rattle.lifetime.specs.declared.life.Life.{Life}
use Rattle.lifetime.specs.declared.life.LifeEnd.TheVariants as ends
use Rattle.lifetime.specs.declared.means.Means.{Means}
use Rattle.lifetime.specs.declared.plan.Plan.{Plan}
use Rattle.lifetime.specs.declared.going_on.Ending.{Ending}

-- WHAT A CRASH LEAVES

-- What a crash left stands for a history that has all of `before`, and nothing that is not in `all`. It tells the rules, under
-- which that history is right, and a chain of hooks came through it; and a start reads it: so
-- another life may begin on what is left.
pub record IsWhole (rules : RegistryRecord) (before all : List Event) (left : List ℕ) : Type 0 where
  pub history : List Event
  pub from : IsFrontOf before history
  pub to : IsFrontOf history all
  pub stands : StandsFor left history
  pub told : TellsRules left (rules_of rules)
  pub right : AllRight rules [] history
  pub host : List Named
  pub ran : HostRun chain.ghosts [] history host
  pub readable : IsReadable left

-- a crash at some moment from the old device's on, up to the new one's, leaves what is so
abbrev pub Leaves : {D N C J : Type 0} → LifePromises D N C J → D → D → (List ℕ → Type 0) → Type 0
Leaves p old new P = LeavesOnly p.device.moment p.device.left_since old new P

-- a crash at some moment of the life leaves what one before might have left, or what is whole
abbrev pub LosesNothing : {D N C J : Type 0} → LifePromises D N C J → Given D N C J → D → List Event → List Event → Type 0
LosesNothing p given device before all = Leaves p given.device device (λ left. p.device.may_leave given.device left ⊎ IsWhole given.registry before all left)

-- a crash at some moment of the life leaves what one before might have left, or what tells no later moment than this
abbrev pub TellsNoLater : {D N C J : Type 0} → LifePromises D N C J → Given D N C J → D → ℕ → Type 0
TellsNoLater p given device until = Leaves p given.device device (λ left. p.device.may_leave given.device left ⊎ (until_of (recovered left) ≤ until))

-- where no server served: nothing is lost, and no later moment is told than the bytes told
abbrev pub StaysWhole : {D N C J : Type 0} → LifePromises D N C J → Given D N C J → D → List Event → Type 0
StaysWhole p given device before = LosesNothing p given device before before × TellsNoLater p given device (until_of (recovered given.bytes))

-- where the clocks told these: that moment, or one that is at most a minute beyond the latest of them
abbrev pub until_with : {D N C J : Type 0} → Given D N C J → ℕ → ℕ
until_with given clock = max (until_of (recovered given.bytes)) (horizon_bound clock)

-- THE LOOP

-- what the loop begins with, over an edge whose server goes on from a history
abbrev pub loop_of : {D N C J : Type 0} → Given D N C J → Begun D N C J → SeenEdge (List Named) → List Event → Beginning N C J (SeenKeeper D) (List Named)
loop_of given begun edge before = record {
  limits = begun.means.limits;
  tools = tools_of begun.means begun.keeper edge;
  journey = resumed_journey (outset_of given.registry []) before begun.outlook.plan.prepared.moment (Some before);
}

-- at the state a history is kept, and a crash from then on, up to the device's moment, leaves all of that, and no more than `all`
abbrev pub LeavesKept : {D N C J : Type 0} → LifePromises D N C J → RegistryRecord → LifeState D N C J → D → List Event → Type 0
LeavesKept p rules s device all =
    (kept : List Event) × (s.progress.journey.world.kept ≡ Some kept) × Leaves p s.keeper.file.device device (IsWhole rules kept all)

-- The server goes on from the history `before`: steps of the loop lead from there to its last state, and that is what its
-- sockets, its clocks and its journal did (`served`). Before each write, since the last wait and behind all that was read, its device told that up to then
-- nobody else had begun to write (`sole_writes`). Where that ended since something could not be kept, its keeper has a
-- fault (`blamed`). At each state all codes and tokens keep to the registry's allowances, tokens to lives and consents
-- (`bounded`). What is kept at a state is in all that a crash leaves from then on, up to another state (`keeps`) or to the end
-- of the life (`keeps_then`), and nothing that has not happened. A crash at any moment of the life left what one before it
-- might have left, or all of `before` (`loses_nothing`); and what it left tells no moment that is later than the one that the bytes
-- told, and more than a minute beyond what the clocks told by then (`no_later`, `no_later_then`).
pub record HasLived {D N C J : Type 0} (p : LifePromises D N C J) (given : Given D N C J) (begun : Begun D N C J) (before : List Event)
    (ending : Ending N C J (SeenKeeper D)) : Type 0 where
  pub edge : SeenEdge (List Named)
  pub reached : Reached chain.ghosts edge (loop_of given begun edge before).journey
  pub served : HasServed (in_loop p) (loop_of given begun edge before) ending.fault ending.tools
  pub sole_writes : (s s' : LifeState D N C J) → Served (in_loop p) served.first s → LoopStep (in_loop p) s s' → IsWriteSole (in_loop p) served.first s s'
  pub blamed : ending.fault ≡ Keep → IsSome ending.tools.keeper.fault
  pub bounded : (s : LifeState D N C J) → Served (in_loop p) served.first s → IsBounded given.registry s.progress.journey.world.history
  pub keeps : (s s' : LifeState D N C J) → Served (in_loop p) served.first s → Onward (in_loop p) s s' →
      LeavesKept p given.registry s s'.keeper.file.device s'.progress.journey.world.history
  pub keeps_then : (s : LifeState D N C J) → Served (in_loop p) served.first s → Onward (in_loop p) s served.last →
      LeavesKept p given.registry s ending.tools.keeper.file.device served.last.progress.journey.world.history
  pub loses_nothing : LosesNothing p given ending.tools.keeper.file.device before served.last.progress.journey.world.history
  pub no_later : (s : LifeState D N C J) (on : Onward (in_loop p) served.first s) → TellsNoLater p given s.keeper.file.device (until_with given (latest on))
  pub no_later_then : (on : Onward (in_loop p) served.first served.last) →
      TellsNoLater p given ending.tools.keeper.file.device (until_with given (max (latest on) (told_then served.fails)))

-- Or the clocks told nothing, and it served no connection.
pub record HasNotLived {D N C J : Type 0} (p : LifePromises D N C J) (given : Given D N C J) (begun : Begun D N C J) (before : List Event)
    (ending : Ending N C J (SeenKeeper D)) : Type 0 where
  pub edge : SeenEdge (List Named)
  pub reached : Reached chain.ghosts edge (loop_of given begun edge before).journey
  pub served : ServesNothing (in_loop p) (loop_of given begun edge before).tools ending.fault ending.tools
  pub stays_whole : StaysWhole p given ending.tools.keeper.file.device before

-- A LIFE

-- what is left of its means, once it was served
abbrev pub means_left : {N C J K : Type 0} → Means N C J → Ending N C J K → Means N C J
means_left means ending = record means { sockets = ending.tools.sockets; clocks = ending.tools.clocks; journal = ending.tools.journal }

-- the disk refuses what a start would write
pub record CannotSettle {D N C J : Type 0} (p : LifePromises D N C J) (given : Given D N C J) (outlook : Outlook C) (fault : StateFault) (device : D) : Type 0 where
  pub looks : LooksAt p given outlook
  pub near : too_far_at given outlook ≡ None
  pub of_disk : IsOfDisk fault
  -- a crash leaves of the device only what it would have left, unless the disk failed
  pub untouched : IsUntouched fault → IsBeside p.device.seen p.device.may_leave p.device.faults given.device device
  pub stays_whole : OfEachRun given.bytes (λ history. StaysWhole p given device (begun_from looks.plan_is history))

-- A life on the file of its state, by how it ended. The history `before` is that from which the server goes on: any one that the
-- bytes stand for, or what is left of it under the registry, with the hooks.
pub data IsLife {D N C J : Type 0} (p : LifePromises D N C J) (given : Given D N C J) : Life D N C J → Type 0 where
  -- the bytes are not read to their end, or no plan is made of them: nothing was done
  is_refused : (fault : StateFault) → StopsReading fault ⊎ RefusesPlan given.registry given.hooks given.bytes fault → IsLife p given (life_of (ends.Refused fault) given.device given.means)
  -- the clocks are too far ahead: they were read, and nothing else was done
  is_ahead : (outlook : Outlook C) (seconds : ℕ) → LooksAt p given outlook → too_far_at given outlook ≡ Some seconds →
      IsLife p given (life_of (ends.ClockAhead seconds) given.device (record given.means { clocks = outlook.clocks }))
  -- the disk refuses what is to be written; the journal was told no more than what was put aside
  is_unsettled : (outlook : Outlook C) (fault : StateFault) (device : D) (journal : J) → CannotSettle p given outlook fault device →
      MayReport p.journal given.means.journal (torn_notices outlook.plan.torn.items) journal →
      IsLife p given (life_of (ends.Refused fault) device (record given.means { clocks = outlook.clocks; journal = journal }))
  -- clients could not be told where the sockets listen
  is_unopened : (begun : Begun D N C J) (settles : Settles p given begun) →
      OfEachRun given.bytes (λ history. StaysWhole p given begun.keeper.file.device (begun_from settles.looks.plan_is history)) →
      IsLife p given (life_of ends.Unopened begun.keeper.file.device begun.means)
  -- the server served until it could not go on
  has_stopped : (begun : Begun D N C J) (settles : Settles p given begun) →
      (ending : Ending N C J (SeenKeeper D)) → OfEachRun given.bytes (λ history. let before = begun_from settles.looks.plan_is history in
      HasLived p given begun before ending ⊎ HasNotLived p given begun before ending) →
      IsLife p given (life_of (ends.Stopped ending.fault ending.tools.keeper.fault) ending.tools.keeper.file.device (means_left begun.means ending))

-- whatever bytes it was planned by: a life with this device and these means went so
abbrev pub LivesBy : {D N C J : Type 0} → LifePromises D N C J → D → Result Plan StateFault → Means N C J → Life D N C J → Type 0
LivesBy p device planned means life =
    (bytes : List ℕ) (registry : RegistryRecord) (hooks : List HookFact) → IsPlanned registry hooks bytes planned → IsLife p (handed device bytes registry hooks means) life
