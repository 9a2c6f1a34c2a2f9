-- What the batches of a file come to that were gone over. Only the contracts of this crate's own parts and their proofs cite this.
use Rattle.std.specs.Prelude.{◌≡◌, ◌≤◌, ◌<◌, ◌^◌, ◌++◌, ◌∷◌, ⊤, ℕ, List, Option, None, Some, take}
use Rattle.batch_file.specs.Frames.{header, last_of, lists}
use Rattle.consent.specs.History.{last_moment}
use Rattle.endpoints.specs.Widening.{IsWider}
use Rattle.state_file.specs.Names.{recovered, frames_size, torn_of, RegistryRecord, Event, Outset, Hosting, StateFault, Spelling, Follows}
use Rattle.state_file.specs.Comparing.{TakesRules}
use Rattle.state_file.specs.Knowing.{IsKnown, end_of, shortened_size}
use Rattle.state_file.specs.Listing.{TellNone}
use Rattle.state_file.specs.MakingParts.{AreToldBehind}
use Rattle.state_file.specs.Remaking.{FitsRemade}
use Rattle.state_file.specs.Resuming.{AnswersFor, AnswersForBatches, ListsItself, RefusesNext}
use Rattle.state_file.specs.Standing.{AreTold, IsMomentTold, until_of}
use Rattle.state_file.specs.Telling.{TellsRules, last_rules, rules_of}
use Rattle.state_file.specs.declared.fault.StateFault.TheVariants.{Memory}
use Rattle.state_file.specs.declared.gone.Gone.{Gone}
use Rattle.state_file.specs.declared.measures.Measures.{Measures}
use Rattle.state_file.specs.declared.redoing.Redoing.{Redoing}
use Rattle.state_file.specs.declared.remade.Remade.{Remade}
use Rattle.state_file.specs.declared.restored.Restored.{Restored}
use Rattle.state_file.specs.declared.resuming.Resumed.{Resumed}

-- one of the changes that the batches tell is refused behind those before it
abbrev pub RefusesWithin : {H : Type 0} → Hosting H → Outset H → List (List ℕ) → StateFault → Type 0
RefusesWithin hosting outset batches Memory = Unit {0}
RefusesWithin hosting outset batches (Spelling fault) = TellNone batches
RefusesWithin hosting outset batches (Follows fault) =
    (front later : List (List ℕ)) × (before behind : List Event) × (e : Event) × (batches ≡ front ++ later)
    × AreTold front (before ++ e ∷ behind) × RefusesNext hosting outset before e fault
RefusesWithin hosting outset batches _ = ⊥

-- the server is made of all changes that the batches tell, or one of them was refused
abbrev pub IsMadeOr : {H : Type 0} → Hosting H → Outset H → List (List ℕ) → Remade H → Option StateFault → Type 0
IsMadeOr hosting outset batches remade None =
    (facts : List Event) × AreTold batches facts × FitsRemade hosting remade outset facts (last_moment 0 facts)
IsMadeOr hosting outset batches remade (Some fault) = RefusesWithin hosting outset batches fault

abbrev pub IsMadeOf : {H : Type 0} → Hosting H → Outset H → List (List ℕ) → Redoing H → Type 0
IsMadeOf hosting outset batches redoing = IsMadeOr hosting outset batches redoing.remade redoing.held

-- How long the batches are, where that is any number of a machine, and until when they keep what was told by the clock.
pub record HasMeasured (batches : List (List ℕ)) (measures : Measures) : Type 0 where
  pub until_is : measures.until ≡ until_of batches
  pub sizes_are : frames_size batches < 2 ^ 64 → (measures.size ≡ frames_size batches) × (measures.shortened ≡ shortened_size batches)

-- The first batch is the same, and so is the last one that tells rules.
pub record TellAlike (batches telling : List (List ℕ)) : Type 0 where
  pub first : take 1 telling ≡ take 1 batches
  pub last : last_rules telling ≡ last_rules batches

-- What the batches come to that were gone over, under the rules of the outset.
pub record HasGone {H : Type 0} (hosting : Hosting H) (outset : Outset H) (gone : Gone H) : Type 0 where
  pub made : IsMadeOf hosting outset gone.front.batches gone.redoing
  pub rules_are : gone.redoing.remade.server.rules ≡ outset.rules
  pub alike : TellAlike gone.front.batches (lists gone.telling.items)
  pub measured : HasMeasured gone.front.batches gone.measures

-- What a server is that is made of all that the batches tell.
pub record IsRedone {H : Type 0} (hosting : Hosting H) (outset : Outset H) (batches : List (List ℕ)) (restored : Restored H) : Type 0 where
  pub answers : AnswersForBatches hosting batches outset restored
  pub listed : ListsItself outset.rules batches
  pub moment_is : IsMomentTold batches restored.moment
  pub later : until_of batches ≤ restored.moment

-- What is made of the bytes of a file, before a hook is set: a server that notes nothing yet, and what is behind the batches that were
-- read. The rules are as wide as those that the bytes told.
pub record IsResumed {H : Type 0} (hosting : Hosting H) (bytes : List ℕ) (outset : Outset H) (resumed : Resumed H) : Type 0 where
  pub answers : AnswersFor hosting bytes outset resumed.restored
  pub listed : ListsItself outset.rules (recovered bytes)
  pub unnoted : resumed.restored.server.unkept ≡ None
  pub later : until_of (recovered bytes) ≤ resumed.restored.moment
  pub moment_is : IsMomentTold (recovered bytes) resumed.restored.moment
  pub taken : TakesRules (recovered bytes) (rules_of outset.rules)
  pub wider : (old : RegistryRecord) → TellsRules bytes (rules_of old) → IsWider old outset.rules
  pub front_is : resumed.front.batches ≡ recovered bytes
  pub told : AreToldBehind (recovered bytes) (rules_of outset.rules) (resumed.front.batches ++ lists resumed.behind.items)
  pub end_is : resumed.end ≡ end_of resumed.front.batches
  pub last_is : resumed.last ≡ last_of header resumed.front.batches
  pub known : IsKnown ⊤ (resumed.front.batches ++ lists resumed.behind.items) resumed.known
  pub torn_is : resumed.torn.items ≡ torn_of bytes
