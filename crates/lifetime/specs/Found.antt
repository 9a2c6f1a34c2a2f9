-- What may be found after any number of lives, each of them begun on what a crash of one before left.
use Rattle.std.specs.Prelude.{◌≡◌, ◌⊎◌, ◌↔◌, ℕ, List, Option, None, Some, Contains}
use Rattle.std.proofs.Common.{inl, inr}
use Rattle.change_codec.specs.Rules.{RulesFact}
use Rattle.lifetime.specs.Names.{IsFrontOf, RegistryRecord, Event, Onward, Served, SeenKeeper, TellsRules, WasLived, rules_of}
use Rattle.narrowing.specs.Left.{KeepsOwners, left_under, under_told}
use Rattle.rules_beside.specs.Beside.{beside}
use Rattle.lifetime.specs.Given.{Given, LifePromises, LifeState, in_loop}
use Rattle.lifetime.specs.Lives.{HasLived, IsLife, has_stopped, is_unopened}
use Rattle.lifetime.specs.Starts.{Begun}
use Rattle.lifetime.specs.declared.life.Life.{Life}
use Rattle.lifetime.specs.declared.going_on.Ending.{Ending}

-- the moment of the device at which a life had put its file there, if it came so far
abbrev pub settled_at : {D N C J : Type 0} {p : LifePromises D N C J} {given : Given D N C J} {life : Life D N C J} → IsLife p given life → Option ℕ
settled_at {p = p} (is_unopened begun settles keeps) = Some (p.device.moment begun.keeper.file.device)
settled_at {p = p} (has_stopped begun settles ending lived) = Some (p.device.moment begun.keeper.file.device)
settled_at lived = None

-- What may be found, where such bytes were found at first, by lives that were handed these registries. A life begins on bytes
-- that are found, and a crash of it leaves others: from when it had put its file on the device (`once_settled`); or at any moment
-- of it (`ever`), where this, if it may be the old file still, was found before. What stands on the disk when a file is opened,
-- its device may not know: of a `DiskFile` it is what is chosen for `Before`.
pub data MayBeFound {D N C J : Type 0} (p : LifePromises D N C J) (registries : List RegistryRecord) (First : List ℕ → Type 0) : List ℕ → Type 0 where
  at_first : (left : List ℕ) → First left → MayBeFound p registries First left
  once_settled : (given : Given D N C J) (life : Life D N C J) (t : ℕ) (left : List ℕ) → MayBeFound p registries First given.bytes →
      Contains registries given.registry → (lived : IsLife p given life) → settled_at lived ≡ Some t → p.device.left_since life.device t left →
      MayBeFound p registries First left
  ever : (given : Given D N C J) (life : Life D N C J) (left : List ℕ) → MayBeFound p registries First given.bytes → Contains registries given.registry →
      IsLife p given life → p.device.left_since life.device (p.device.moment given.device) left →
      (p.device.may_leave given.device left → MayBeFound p registries First left) → MayBeFound p registries First left

-- Rules are told: those that some bytes tell, or those of a registry under which a server was started.
abbrev pub IsTold : List ℕ ⊎ RegistryRecord → RulesFact → Type 0
IsTold (inl bytes) told = TellsRules bytes told
IsTold (inr rules) told = told ≡ rules_of rules

-- what is left of the history under the registry, beside the rules told
abbrev pub IsLeftBeside : List ℕ ⊎ RegistryRecord → RegistryRecord → List Event → List Event → Type 0
IsLeftBeside by rules history left = (told : RulesFact) × IsTold by told × (left ≡ left_under (under_told (Some told) rules) history)

-- A start under the registry goes on from the history, or from what is left of it; and each owner of something in that is one and the
-- same by the rules told and by the registry's.
pub record StartsFrom (by : List ℕ ⊎ RegistryRecord) (rules : RegistryRecord) (history later : List Event) : Type 0 where
  pub left : (later ≡ history) ⊎ IsLeftBeside by rules history later
  pub owners : (told : RulesFact) → IsTold by told → KeepsOwners (beside told (rules_of rules)) later

-- A history comes of another one: more happens, and servers are started under these registries, again and again. With it goes which
-- rules were told last.
pub data ComesOf (registries : List RegistryRecord) (start : List ℕ ⊎ RegistryRecord) (first : List Event) : List ℕ ⊎ RegistryRecord → List Event → Type 0 where
  is_it : ComesOf registries start first start first
  grows : (by : List ℕ ⊎ RegistryRecord) (history later : List Event) → ComesOf registries start first by history → IsFrontOf history later →
      ComesOf registries start first by later
  starts : (by : List ℕ ⊎ RegistryRecord) (history left : List Event) (rules : RegistryRecord) → ComesOf registries start first by history →
      Contains registries rules → StartsFrom by rules history left → ComesOf registries start first (inr rules) left

-- what is left stands for a history that comes of the first one, it tells the rules that were told last, and another life may begin on it
pub record IsHeir (registries : List RegistryRecord) (start : List ℕ ⊎ RegistryRecord) (first : List Event) (left : List ℕ) : Type 0 where
  pub by : List ℕ ⊎ RegistryRecord
  pub history : List Event
  pub comes : ComesOf registries start first by history
  pub told : (rules : RulesFact) → IsTold by rules ↔ TellsRules left rules
  pub lived : WasLived left history

-- what was kept at a state of a life is never lost
abbrev pub KeepsAcknowledged : {D N C J : Type 0} → LifePromises D N C J → List RegistryRecord → Type 0
KeepsAcknowledged {D} {N} {C} {J} p registries =
    (given : Given D N C J) (begun : Begun D N C J) (before : List Event) (ending : Ending N C J (SeenKeeper D)) (lived : HasLived p given begun before ending)
    (s : LifeState D N C J) (kept : List Event) → Served (in_loop p) lived.served.first s → Onward (in_loop p) s lived.served.last →
    s.progress.journey.world.kept ≡ Some kept → (left : List ℕ) →
    MayBeFound p registries (p.device.left_since ending.tools.keeper.file.device (p.device.moment s.keeper.file.device)) left →
    IsHeir registries (inr given.registry) kept left

-- whatever is found after any number of lives comes of the history that the bytes stood for at first
abbrev pub KeepsFirst : {D N C J : Type 0} → LifePromises D N C J → List RegistryRecord → Type 0
KeepsFirst p registries =
    (bytes : List ℕ) (history : List Event) → WasLived bytes history → (left : List ℕ) → MayBeFound p registries (λ first. first ≡ bytes) left →
    IsHeir registries (inl bytes) history left
