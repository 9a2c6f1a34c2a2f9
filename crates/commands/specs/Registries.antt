-- What `registry` answers to a file.
use Rattle.std.specs.Prelude.{◌≡◌, ◌≢◌, ◌^◌, ◌-◌, ◌+◌, ◌*◌, ⊤, ℕ, List, length, nat_lt, Option, Some, None, IsSomeAnd, Result, Ok, Err}
use Rattle.std.specs.String.{string_bytes}
use Rattle.params.specs.Scope.{scope_text}
use Rattle.clients.specs.Registry.{registry_in, spot_in, has_operator_among_owners, has_gateway_among_others}
use Rattle.clients.specs.RegistryRecord.{RegistryRecord}
use Rattle.clients.specs.declared.limits.Limits.{Limits}
use Rattle.registry_warnings.specs.Warnings.{warnings_in}
use Rattle.registry_json.specs.declared.fault.ConfigFault.TheVariants as config
use Rattle.commands.specs.declared.answer.Answer.{Answer}
use Rattle.commands.specs.declared.answer.Answer.TheVariants as answers
use Rattle.commands.specs.declared.fault.CommandFault.{CommandFault}
use Rattle.commands.specs.declared.fault.CommandFault.TheVariants as faults
use Rattle.commands.specs.declared.named_file.NamedFile.{NamedFile}
use Rattle.commands.specs.declared.registry.RegistryTold.{RegistryTold}

-- so many bytes of memory has what is kept at most: a code or token, and a consent
abbrev pub memory_of : Limits → ℕ
memory_of limits = limits.records * 200 + limits.consents * 64

-- what is told of a registry: what it says, and what in its text, in it and in who may read it may be a mistake
pub record IsToldOf (file : NamedFile) (rules : RegistryRecord) (told : RegistryTold) : Type 0 where
  pub access_life : told.access_life ≡ rules.access_life
  pub refresh_life : told.refresh_life ≡ rules.refresh_life
  pub owners : told.owners ≡ length rules.owners
  pub clients : told.clients ≡ length rules.clients
  pub limits : told.limits ≡ rules.limits
  pub memory : told.memory ≡ memory_of rules.limits
  pub scopes : string_bytes told.scopes ≡ scope_text rules.scopes (2 ^ 64 - 1)
  pub warnings : string_bytes told.warnings ≡ warnings_in file.bytes.items
  pub operator : told.has_operator_among_owners ≡ has_operator_among_owners rules
  pub gateway : told.has_gateway_among_others ≡ has_gateway_among_others rules
  pub lives : told.access_lives_longer ≡ nat_lt rules.refresh_life rules.access_life
  pub readers : told.readers ≡ file.readers

-- the first fault of text that is no registry, and where it lies, unless that is the text as a whole
abbrev pub IsFaultTold : List ℕ → CommandFault → Type 0
IsFaultTold json (faults.ConfigAt fault spot) = (fault ≢ config.Memory) × (registry_in json ≡ Err fault) × (spot_in json ≡ Some spot)
IsFaultTold json (faults.Config fault) = (fault ≢ config.Memory) × (registry_in json ≡ Err fault) × (spot_in json ≡ None)
IsFaultTold json fault = ⊥

-- what is told is of the registry that a file's text stands for
abbrev pub IsToldOfFile : RegistryTold → NamedFile → Type 0
IsToldOfFile told file = (rules : RegistryRecord) × (registry_in file.bytes.items ≡ Ok rules) × IsToldOf file rules told

-- what `registry` answers to the file of a path
abbrev pub IsRegistryTold : List ℕ → Option NamedFile → Result Answer CommandFault → Type 0
IsRegistryTold path file (Ok (answers.Registry told)) = IsSomeAnd file (IsToldOfFile told)
IsRegistryTold path file (Ok answer) = ⊥
IsRegistryTold path file (Err (faults.CannotRead named)) = (file ≡ None) × (named.now ≡ path)
IsRegistryTold path file (Err faults.OutOfMemory) = ⊤
IsRegistryTold path file (Err fault) = IsSomeAnd file (λ found. IsFaultTold found.bytes.items fault)
