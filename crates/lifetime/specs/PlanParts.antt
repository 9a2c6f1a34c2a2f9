-- Beside Plans: only the contracts of this crate's own parts and their proofs cite this, no public clause.
use Rattle.std.specs.Prelude.{◌≡◌, ◌⊎◌, List, ℕ, None, Some}
use Rattle.batch_file.specs.Frames.{IsFileOf}
use Rattle.hook_chain.specs.contracts.chain.ChainHookHost.TheImpl as chain
use Rattle.lifetime.specs.Names.{RegistryRecord, HookFact, StateFault}
use Rattle.lifetime.specs.Plans.{start_of}
use Rattle.lifetime.specs.declared.plan.Plan.{Plan}
use Rattle.lifetime.specs.declared.plan.Refusal.{Refusal}
use Rattle.lifetime.specs.declared.plan.Refusal.TheVariants as refusal
use Rattle.state_file.specs.declared.resuming.Unprepared.{Unprepared}
use Rattle.state_file.specs.Making.{Makes, RefusesMaking, StopsReading}
use Rattle.state_file.specs.declared.fault.StateFault.TheVariants as state
use Rattle.state_keeper.specs.declared.starting.Origin.TheVariants as origins
use Rattle.narrowing.specs.declared.narrowed.Narrowed.{Narrowed}

-- the plan is made on a file of what is left, which lies in memory
pub record IsPlanOfLeft (rules : RegistryRecord) (hooks : List HookFact) (left : Narrowed) (plan : Plan) : Type 0 where
  pub file : List ℕ
  pub is : IsFileOf left.frames file
  pub makes : Makes chain.ghosts (start_of rules hooks file) plan.prepared
  pub origin : plan.origin ≡ origins.Memory left.frames
  pub ended : plan.ended ≡ Some left.ended
  pub torn : plan.torn.items ≡ left.torn.items

-- or none is made on it
abbrev pub RefusesLeft : RegistryRecord → List HookFact → Narrowed → StateFault → Type 0
RefusesLeft rules hooks left fault =
    StopsReading fault ⊎ ((file : List ℕ) × IsFileOf left.frames file × RefusesMaking chain.ghosts (start_of rules hooks file) fault)

-- the registry may be narrower than the rules of a file that is refused for this
abbrev pub MayBeNarrower : StateFault → Type 0
MayBeNarrower state.NoRules = Unit {0}
MayBeNarrower state.FormerOwner = Unit {0}
MayBeNarrower (state.ClientNarrowed name) = Unit {0}
MayBeNarrower state.LifeNarrowed = Unit {0}
MayBeNarrower _ = ⊥

-- it is read again where the registry may be narrower and was given back
abbrev pub IsRefusalOf : Unprepared → Refusal → Type 0
IsRefusalOf not (refusal.Again registry) = MayBeNarrower not.fault × (not.registry ≡ Some registry)
IsRefusalOf not (refusal.Final fault) = (fault ≡ not.fault) × (MayBeNarrower not.fault → not.registry ≡ None)
