-- How a way is sought: a table has for each slot the step by which one goes on towards a goal. No public clause cites these.
use Rattle.std.specs.Prelude.{◌≡◌, ◌≢◌, ◌==◌, ◌||◌, ℕ, ◌≤◌, ◌<◌, Bool, if◌then◌else◌, List, Option, Some, None, is_some, length, slice_index_or}
use Rattle.hook_commands.specs.Names.{option_map, option_or, slot_count}
use Rattle.hook_commands.specs.declared.way.Hop.{Hop}
use Rattle.hook_commands.specs.declared.way.Step.{Step}
use Rattle.hook_commands.specs.declared.way.Step.TheVariants.{Past, Jumping}
use Rattle.hook_commands.specs.Ways.{GoesBehind, IsJump, Leads, Roads}

-- a way leads to the goal from a slot of which the table has the step, and from the goal itself
abbrev pub is_led : List (Option Step) → ℕ → ℕ → Bool
is_led steps goal slot = (slot == goal) || is_some (slice_index_or steps slot None)

-- a slot, if a way leads from it to the goal
abbrev pub where_led : List (Option Step) → ℕ → Option ℕ → Option ℕ
where_led steps goal None = None
where_led steps goal (Some to) = if is_led steps goal to then Some to else None

-- the step to the slot behind an instruction, if a way leads on from there, or else the step by its jump
abbrev pub step_of : List (Option Step) → ℕ → Option ℕ → Option ℕ → Option Step
step_of steps goal past jump = option_or (option_map Past (where_led steps goal past)) (option_map Jumping (where_led steps goal jump))

abbrev pub step_slot : Step → ℕ
step_slot (Past to) = to
step_slot (Jumping to) = to

-- one takes a step from a slot
abbrev pub Moves : Roads → ℕ → Step → Type 0
Moves roads from (Past to) = GoesBehind roads from to
Moves roads from (Jumping to) = IsJump roads from to

-- a step goes further, and a way leads on from there
pub record WayLeadsOn (roads : Roads) (goal slot : ℕ) (step : Step) : Type 0 where
  pub moves : Moves roads slot step
  pub rest : List Hop
  pub leads : Leads roads (step_slot step) rest goal
  pub further : slot < step_slot step

-- a step leads on from a slot; or no way leads from it to the goal
abbrev pub IsStepFrom : Roads → ℕ → ℕ → Option Step → Type 0
IsStepFrom roads goal slot None = (hops : List Hop) → Leads roads slot hops goal → ⊥
IsStepFrom roads goal slot (Some step) = WayLeadsOn roads goal slot step

-- a table has the steps from a slot on, but of the goal, where one steps no more, and none before
pub record AreWaySteps (roads : Roads) (goal from : ℕ) (steps : List (Option Step)) : Type 0 where
  pub long : length steps ≡ slot_count roads.program
  pub each : (k : ℕ) → from ≤ k → k ≢ goal → IsStepFrom roads goal k (slice_index_or steps k None)
  pub before : (k : ℕ) → k < from → slice_index_or steps k None ≡ None
