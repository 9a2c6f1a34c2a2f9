-- State files that are made: of no batch.
use Rattle.std.specs.Prelude.{◌≡◌, ⊤, ℕ, List}
use Rattle.commands.specs.declared.fault.CommandFault.TheVariants as faults
use Rattle.commands.specs.declared.fault.CommandFault.{CommandFault}

-- why no file is made at the path
abbrev pub FailsMaking : List ℕ → CommandFault → Type 0
FailsMaking path (faults.Unmade named fault) = named.now ≡ path
FailsMaking path faults.OutOfMemory = ⊤
FailsMaking path fault = ⊥
