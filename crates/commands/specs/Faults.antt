-- What the fault of a state file is to a command: want of memory is told alike wherever it comes.
use Rattle.std.specs.Prelude.{◌≡◌, ◌≢◌, ◌⊎◌, ℕ, List}
use Rattle.std.specs.Borrow.{Bor}
use Rattle.state_file.specs.declared.fault.StateFault.{StateFault}
use Rattle.state_file.specs.declared.fault.StateFault.TheVariants as state
use Rattle.commands.specs.declared.fault.CommandFault.{CommandFault}
use Rattle.commands.specs.declared.fault.CommandFault.TheVariants.{State, OutOfMemory}

-- it is told with the path of the file
pub record IsToldAt (path : List ℕ) (fault : StateFault) (told : CommandFault) : Type 0 where
  pub named : Bor (List ℕ)
  pub path_is : named.now ≡ path
  pub told_is : told ≡ State named fault
  pub known : fault ≢ state.Memory

abbrev pub IsOfState : List ℕ → StateFault → CommandFault → Type 0
IsOfState path fault told = ((fault ≡ state.Memory) × (told ≡ OutOfMemory)) ⊎ IsToldAt path fault told
