-- What a start makes of the bytes of a state file, before anything is written.
use Rattle.std.specs.Prelude.{◌≡◌, ◌≤◌, ◌⊎◌, ◌↔◌, ℕ, List, [], Option, None, Some, IsSome, IfSome, option_map, Result, Ok, Err}
use Rattle.lifetime.specs.Names.{RegistryRecord, Event, outset_of, Named, HookFact, OfEachRun, IsMomentTold, until_of, Tell, TellsRules, rules_of, StateFault}
use Rattle.batch_file.specs.Frames.{IsFileOf, recovered, torn_of}
use Rattle.hook_chain.specs.contracts.chain.ChainHookHost.TheImpl as chain
use Rattle.state_file.specs.Hooks.{with_hooks}
use Rattle.rules_beside.specs.Beside.{beside}
use Rattle.state_file.specs.Making.{MakesFrom, OnBytes, RefusesMaking, StopsReading, on_bytes}
use Rattle.state_file.specs.Resuming.{ListsItself}
use Rattle.state_file.specs.declared.fault.StateFault.TheVariants as state
use Rattle.change_codec.specs.Rules.{RulesFact}
use Rattle.narrowing.specs.Left.{KeepsOwners}
use Rattle.narrowing.specs.Narrowing.{HasLeft, IsNarrower, IsUnnarrowed, history_under, under_in}
use Rattle.narrowing.specs.declared.narrowed.Narrowed.{Narrowed}
use Rattle.lifetime.specs.declared.plan.Plan.{Plan}

-- the batches on which a start is made: those of the bytes, or what is left of them
abbrev pub batches_under : List ℕ → Option Narrowed → List (List ℕ)
batches_under bytes None = recovered bytes
batches_under bytes (Some narrowed) = narrowed.frames

-- what it is made on: the bytes, or a file of what is left of them
abbrev pub IsMadeOn : List ℕ → Option Narrowed → List ℕ → Type 0
IsMadeOn bytes None file = file ≡ bytes
IsMadeOn bytes (Some narrowed) file = IsFileOf narrowed.frames file

-- a start on these bytes, with a chain that has no hook but those that they tell, and these
abbrev pub start_of : RegistryRecord → List HookFact → List ℕ → OnBytes (List Named)
start_of rules hooks bytes = on_bytes bytes (outset_of rules []) hooks

-- Where the rules are narrower than those that the bytes tell, and only there, the bytes are narrowed, to a file that can be read:
-- it stands for what is left of each history that they stand for, and tells the moment that they told.
pub record AreUnder (rules : RegistryRecord) (bytes : List ℕ) (narrowed : Option Narrowed) : Type 0 where
  pub narrower : IsSome narrowed ↔ IsNarrower bytes (rules_of rules)
  pub left : IfSome narrowed (λ left. OfEachRun bytes (HasLeft chain.ghosts [] (under_in bytes rules) left))
  pub readable : IfSome narrowed (λ left. (file : List ℕ) × IsFileOf left.frames file)
  pub until : IfSome narrowed (λ left. until_of left.frames ≡ until_of (recovered bytes))

-- The plan is one of the bytes. Whatever history they stand for: with those of the hooks that it lacks, the server goes on from
-- that history under these rules, or from what is left of it under them, and the batches of the new file stand for that. The list
-- that the bytes tell, or what is left of them, is itself one that is right under the rules.
pub record IsPlanOf (rules : RegistryRecord) (hooks : List HookFact) (bytes : List ℕ) (plan : Plan) : Type 0 where
  pub narrowed : Option Narrowed
  pub ended : plan.ended ≡ option_map (λ left. left.ended) narrowed
  pub under : AreUnder rules bytes narrowed
  pub listed : ListsItself rules (batches_under bytes narrowed)
  pub makes : OfEachRun bytes (λ history. MakesFrom chain.ghosts (start_of rules hooks bytes) plan.prepared (history_under (under_in bytes rules) narrowed history))
  -- each owner of something in that history is one and the same by the rules that the bytes tell and by these
  pub owners : (told : RulesFact) → TellsRules bytes told → OfEachRun bytes (λ history. KeepsOwners (beside told (rules_of rules)) (history_under (under_in bytes rules) narrowed history))
  -- the new file tells the rules, and the moment that the bytes did, no earlier one and no later
  pub tell : Tell plan.prepared.batches (rules_of rules)
  pub until : until_of (recovered bytes) ≤ until_of plan.prepared.batches
  pub no_later : until_of plan.prepared.batches ≤ until_of (recovered bytes)
  pub later : until_of (recovered bytes) ≤ plan.prepared.moment
  -- it goes on from no other moment than the bytes tell, or what is left of them
  pub moment_is : IsMomentTold (batches_under bytes narrowed) plan.prepared.moment
  pub torn_is : plan.torn.items ≡ torn_of bytes

-- the history from which the server goes on by the plan: that which the bytes stand for, or what is left of it, with the hooks
abbrev pub begun_from : {rules : RegistryRecord} {hooks : List HookFact} {bytes : List ℕ} {plan : Plan} → IsPlanOf rules hooks bytes plan → List Event → List Event
begun_from {rules} {hooks} {bytes} {plan} is history = with_hooks plan.prepared.moment (history_under (under_in bytes rules) is.narrowed history) hooks

-- why there is none: for what the bytes tell beside the rules, or for what is made of them, or of what is left of them
abbrev pub RefusesPlan : RegistryRecord → List HookFact → List ℕ → StateFault → Type 0
RefusesPlan rules hooks bytes fault =
    (fault ≡ state.Memory) ⊎ IsUnnarrowed bytes (rules_of rules) fault
    ⊎ ((narrowed : Option Narrowed) × (file : List ℕ) × AreUnder rules bytes narrowed × IsMadeOn bytes narrowed file × RefusesMaking chain.ghosts (start_of rules hooks file) fault)

-- What is made of the bytes, which are all that was read; or why they were not read to their end.
abbrev pub IsPlanned : RegistryRecord → List HookFact → List ℕ → Result Plan StateFault → Type 0
IsPlanned rules hooks bytes (Ok plan) = IsPlanOf rules hooks bytes plan
IsPlanned rules hooks bytes (Err fault) = StopsReading fault ⊎ RefusesPlan rules hooks bytes fault
