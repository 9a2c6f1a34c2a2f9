-- What is told of a state file, where no server is started on it.
use Rattle.std.specs.Prelude.{◌≡◌, ◌≤◌, ◌⊎◌, ℕ, List, [], length, map}
use Rattle.batch_file.specs.Frames.{RefusesFile, recovered, torn_of}
use Rattle.clients.specs.RegistryRecord.{RegistryRecord}
use Rattle.consent.specs.Consents.{FitsConsents, kept_consents}
use Rattle.consent.specs.History.{Event, greatest_family}
use Rattle.endpoints.specs.Widening.{IsWider}
use Rattle.endpoints.specs.Server.{outset_of}
use Rattle.hook_host.specs.declared.host.HookHost.{Ghosts as Hosting}
use Rattle.change_codec.specs.Rules.{RulesFact}
use Rattle.rules_codec.specs.Facts.{StandingFact}
use Rattle.state_file.specs.Resuming.{AnswersFor, OfEachHistory}
use Rattle.state_file.specs.Hooks.{hooks_set_in}
use Rattle.state_file.specs.Standing.{IsMomentTold, until_of}
use Rattle.state_file.specs.Telling.{IsOfRules, TellsRules, rules_of}
use Rattle.token_store.specs.Fits.{FitsHistory}
use Rattle.token_store.specs.Image.{kept_told}
use Rattle.state_account.specs.declared.account.Account.{Account}
use Rattle.state_account.specs.declared.account.AccountFault.{AccountFault}
use Rattle.state_account.specs.declared.account.AccountFault.TheVariants as accounts
use Rattle.state_file.specs.declared.fault.StateFault.{StateFault}
use Rattle.state_file.specs.declared.fault.StateFault.TheVariants as state

-- the bytes tell just these rules last, if they have a batch
abbrev pub TellIfAny : List ℕ → RulesFact → Type 0
TellIfAny left rules = (recovered left ≡ []) ⊎ TellsRules left rules

-- the account is one of the bytes: its server fits what they stand for, under the rules that they tell
pub record IsAccountOf {H : Type 0} (hosting : Hosting H) (left : List ℕ) (first : H) (account : Account H) : Type 0 where
  pub registry : RegistryRecord
  pub told : TellIfAny left (rules_of registry)
  pub wider : (old : RegistryRecord) → TellsRules left (rules_of old) → IsWider old registry
  pub rules : IsOfRules account.rules.items (rules_of registry)
  pub answers : AnswersFor hosting left (outset_of registry first) account.restored
  pub batches : account.batches ≡ length (recovered left)
  pub torn : account.torn ≡ length (torn_of left)
  pub moment_is : IsMomentTold (recovered left) account.restored.moment
  pub later : until_of (recovered left) ≤ account.restored.moment

-- it is one of all bytes of which these batches were read, and this as what an unfinished write left
abbrev pub IsAccountOfRead : {H : Type 0} → Hosting H → (batches : List (List ℕ)) (torn : List ℕ) → H → Account H → Type 0
IsAccountOfRead hosting batches torn first account =
    (left : List ℕ) → recovered left ≡ batches → torn_of left ≡ torn → IsAccountOf hosting left first account

-- The standing is one of the history, from its moment on: its records answer as the history does, its consents are the owners'
-- last ones, its last number is the greatest of a family, and its hooks are those that the history sets. Nothing in the history
-- is later.
pub record IsStandingOf (standing : StandingFact) (history : List Event) : Type 0 where
  pub records : FitsHistory (map kept_told standing.records) history standing.greatest
  pub consents : FitsConsents (kept_consents standing.consents) history
  pub last : standing.last ≡ greatest_family history
  pub hooks : standing.hooks ≡ hooks_set_in history

-- the standing is one of each history that the bytes stand for, at the moment and under the rules that they tell
pub record IsStandingIn {H : Type 0} (hosting : Hosting H) (left : List ℕ) (first : H) (standing : StandingFact) : Type 0 where
  pub each : OfEachHistory hosting first left (λ history. IsStandingOf standing history)
  pub moment_is : IsMomentTold (recovered left) standing.greatest
  pub told : TellIfAny left standing.rules

-- it is one of all bytes that the account is one of
abbrev pub IsStandingOfAccount : {H : Type 0} → Hosting H → Account H → StandingFact → Type 0
IsStandingOfAccount {H = H} hosting account standing =
    (left : List ℕ) (first : H) → IsAccountOf hosting left first account → IsStandingIn hosting left first standing

-- FAULTS

abbrev pub fault_in : ℕ → StateFault → AccountFault
fault_in number state.Memory = accounts.Memory
fault_in number fault = accounts.Batch number fault

-- it is a fault of the rules that a file tells
abbrev pub IsOfTelling : StateFault → Type 0
IsOfTelling state.Memory = Unit {0}
IsOfTelling state.NoRules = Unit {0}
IsOfTelling (state.Spelling fault) = Unit {0}
IsOfTelling _ = ⊥

-- it is a fault of a batch
abbrev pub IsOfBatch : StateFault → Type 0
IsOfBatch state.NoRules = Unit {0}
IsOfBatch (state.Spelling fault) = Unit {0}
IsOfBatch (state.Follows fault) = Unit {0}
IsOfBatch _ = ⊥

-- memory was refused, or a batch is at fault
abbrev pub IsOfBatches : AccountFault → Type 0
IsOfBatches accounts.Memory = Unit {0}
IsOfBatches (accounts.Batch number fault) = IsOfBatch fault
IsOfBatches (accounts.File fault) = ⊥

-- why it is not told what a file stands for: memory was refused, or it is no file of batches, or a batch is at fault
abbrev pub RefusesAccount : List ℕ → AccountFault → Type 0
RefusesAccount left (accounts.File fault) = RefusesFile left fault
RefusesAccount left fault = IsOfBatches fault
