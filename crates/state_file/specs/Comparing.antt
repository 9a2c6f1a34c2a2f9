-- When a registry's rules are as wide as those that a file tells, and where they first are not.
use Rattle.std.specs.Prelude.{◌≡◌, ◌≤◌, ◌<◌, ◌^◌, ◌⊎◌, ℕ, List, length, None, Some, true, false, string_bytes, Err}
use Rattle.state_file.specs.Names.{RulesFact, rules_reading, RulesCount, rules_spelling, StateFault, NoRules, Spelling, ScopeMoved, OwnerMoved, ClientMoved}
use Rattle.state_file.specs.Names.{ClientNarrowed, LifeNarrowed, FormerOwner}
use Rattle.rules_beside.specs.Beside.{beside, first_moved_owner, is_former}
use Rattle.rules_beside.specs.Places.{client_names, first_moved, first_narrowed}
use Rattle.state_file.specs.Telling.{last_rules, Tell, IsOfRules, BeginWithRules}
use Rattle.state_file.specs.declared.fault.StateFault.TheVariants.{Memory, TooLong}

-- WHAT STAYS, in the order in which it is looked at: what is told comes first

module _ (told now : RulesFact) where
  abbrev pub KeepScopes : Type 0
  KeepScopes = first_moved told.scopes now.scopes ≡ None

  abbrev pub KeepOwners : Type 0
  KeepOwners = KeepScopes × (first_moved_owner (beside told now) ≡ None)

  abbrev pub KeepClients : Type 0
  KeepClients = KeepOwners × (first_moved (client_names told.clients) (client_names now.clients) ≡ None)

  abbrev pub KeepAll : Type 0
  KeepAll = KeepClients × ((number : ℕ) → is_former (beside told now) number ≡ false)

  abbrev pub KeepAllowed : Type 0
  KeepAllowed = KeepAll × (first_narrowed told.clients now.clients ≡ None)

  abbrev pub AreAsWide : Type 0
  AreAsWide = KeepAllowed × (told.access_life ≤ now.access_life) × (told.refresh_life ≤ now.refresh_life)

  -- the first of them that does not stay, by its fault
  abbrev pub AreNarrower : StateFault → Type 0
  AreNarrower (ScopeMoved name) = first_moved told.scopes now.scopes ≡ Some (string_bytes name)
  AreNarrower (OwnerMoved number) = KeepScopes × (first_moved_owner (beside told now) ≡ Some number)
  AreNarrower (ClientMoved name) = KeepOwners × (first_moved (client_names told.clients) (client_names now.clients) ≡ Some (string_bytes name))
  AreNarrower FormerOwner = KeepClients × (number : ℕ) × (is_former (beside told now) number ≡ true)
  AreNarrower (ClientNarrowed name) = KeepAll × (first_narrowed told.clients now.clients ≡ Some (string_bytes name))
  AreNarrower LifeNarrowed = KeepAllowed × ((now.access_life < told.access_life) ⊎ (now.refresh_life < told.refresh_life))
  AreNarrower Memory = Unit {0}
  AreNarrower _ = ⊥

-- WHY THEY ARE REFUSED

-- the length of a name, or how many names there are, takes more than four bytes, or the length of all does
abbrev pub AreRulesTooLong : RulesFact → Type 0
AreRulesTooLong rules = (¬ RulesCount rules) ⊎ (2 ^ 32 ≤ length (rules_spelling rules))

-- why the rules are not told
abbrev pub IsUntold : RulesFact → StateFault → Type 0
IsUntold rules TooLong = AreRulesTooLong rules
IsUntold rules Memory = Unit {0}
IsUntold rules _ = ⊥

-- why what a batch tells is not read
abbrev pub IsUnread : List ℕ → StateFault → Type 0
IsUnread batch Memory = Unit {0}
IsUnread batch (Spelling fault) = rules_reading batch ≡ Err fault
IsUnread batch _ = ⊥

-- why rules are not taken where a batch tells others
abbrev pub RefuseBeside : List ℕ → RulesFact → StateFault → Type 0
RefuseBeside batch now Memory = Unit {0}
RefuseBeside batch now (Spelling fault) = rules_reading batch ≡ Err fault
RefuseBeside batch now fault = (told : RulesFact) × IsOfRules batch told × AreNarrower told now fault

-- why rules are not taken behind the batches
abbrev pub RefuseRules : List (List ℕ) → RulesFact → StateFault → Type 0
RefuseRules batches now Memory = Unit {0}
RefuseRules batches now TooLong = AreRulesTooLong now
RefuseRules batches now NoRules = ¬ BeginWithRules batches
RefuseRules batches now fault = (batch : List ℕ) × (last_rules batches ≡ Some batch) × RefuseBeside batch now fault

-- the batches begin with rules, and those told last are ones that these are as wide as
abbrev pub TakesRules : List (List ℕ) → RulesFact → Type 0
TakesRules batches now = BeginWithRules batches × ((told : RulesFact) → Tell batches told → AreAsWide told now)
