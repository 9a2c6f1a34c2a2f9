-- Files in which a registry stands.
use Rattle.std.specs.Prelude.{◌≡◌, ◌≢◌, ⊤, ℕ, List, None, IsSomeAnd, Ok, Err}
use Rattle.clients.specs.Registry.{registry_in}
use Rattle.clients.specs.RegistryRecord.{RegistryRecord}
use Rattle.registry_json.specs.declared.fault.ConfigFault.TheVariants as config
use Rattle.commands.specs.declared.fault.CommandFault.{CommandFault}
use Rattle.commands.specs.declared.fault.CommandFault.TheVariants as faults
use Rattle.hook_commands.specs.File.{File}

-- a file is JSON text of a registry
abbrev pub HoldsRegistry : File → RegistryRecord → Type 0
HoldsRegistry file rules = IsSomeAnd file (λ json. registry_in json ≡ Ok rules)

-- why the file of a path holds none: it cannot be read, or has this fault
abbrev pub HoldsNoRegistry : List ℕ → File → CommandFault → Type 0
HoldsNoRegistry path file (faults.CannotRead named) = (file ≡ None) × (named.now ≡ path)
HoldsNoRegistry path file (faults.Config fault) = (fault ≢ config.Memory) × IsSomeAnd file (λ json. registry_in json ≡ Err fault)
HoldsNoRegistry path file faults.OutOfMemory = ⊤
HoldsNoRegistry path file fault = ⊥
