-- The rules that a state file tells.
use Rattle.std.specs.Prelude.{◌≡◌, ℕ, zero, List, [], ◌∷◌, map, Option, None, Some, is_some, option_and_then}
use Rattle.std.specs.Result.{result_ok}
use Rattle.state_file.specs.Names.{option_or, recovered, RegistryRecord, ClientFact, RulesFact, RulesFit, rules_reading, rules_spelling}
use Rattle.clients.specs.ClientRecord.{ClientRecord}
use Rattle.clients.specs.OwnerRecord.{OwnerRecord}
use Rattle.change_codec.specs.Rules.{OwnerFact}

-- what is told of an owner
abbrev pub fact_of : OwnerRecord → OwnerFact
fact_of owner = record { number = owner.number; key = owner.key; sub = owner.sub_digest }

-- what is told of a client
abbrev pub client_told : ClientRecord → ClientFact
client_told client = record { name = client.id; allowed = client.allowed }

-- what is told of a registry
abbrev pub rules_of : RegistryRecord → RulesFact
rules_of registry = record {
  scopes = registry.scopes;
  owners = map fact_of registry.owners;
  numbered = registry.numbered;
  gateway = is_some registry.gateway;
  clients = map client_told registry.clients;
  access_life = registry.access_life;
  refresh_life = registry.refresh_life;
}

-- the batch, if it tells rules: these begin with a byte 0
abbrev pub rules_in : List ℕ → Option (List ℕ)
rules_in (zero ∷ fields) = Some (0 ∷ fields)
rules_in _ = None

-- the last batch that tells rules
abbrev pub last_rules : List (List ℕ) → Option (List ℕ)
last_rules [] = None
last_rules (batch ∷ batches) = option_or (last_rules batches) (rules_in batch)

-- the bytes spell these rules
abbrev pub IsOfRules : List ℕ → RulesFact → Type 0
IsOfRules bytes rules = RulesFit rules × (bytes ≡ rules_spelling rules)

-- the last batch that tells rules tells these
abbrev pub Tell : List (List ℕ) → RulesFact → Type 0
Tell batches rules = (batch : List ℕ) × (last_rules batches ≡ Some batch) × IsOfRules batch rules

-- the rules that they tell, if any
abbrev pub rules_told : List (List ℕ) → Option RulesFact
rules_told batches = option_and_then (λ batch. result_ok (rules_reading batch)) (last_rules batches)

-- so it is of the batches that the bytes stand for
abbrev pub TellsRules : List ℕ → RulesFact → Type 0
TellsRules left rules = Tell (recovered left) rules

-- the first batch, if there is one, tells rules
abbrev pub BeginWithRules : List (List ℕ) → Type 0
BeginWithRules [] = Unit {0}
BeginWithRules (batch ∷ batches) = rules_in batch ≡ Some batch
