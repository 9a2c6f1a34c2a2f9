-- Beside Statuses: only the contracts of this crate's own parts and their proofs cite this, no public clause.
use Rattle.std.specs.Prelude.{◌≡◌, ℕ, List, Option, None, Result, Ok, Err}
use Rattle.std.specs.declared.io.ErrorKind.{ErrorKind}
use Rattle.std.specs.declared.io.ErrorKind.TheVariants as kinds
use Rattle.state_account.specs.declared.account.AccountFault.{AccountFault}
use Rattle.state_account.specs.declared.account.AccountFault.TheVariants as accounts
use Rattle.state_file.specs.Faults.{of_reading}
use Rattle.commands.specs.Faults.{IsOfState}
use Rattle.commands.specs.declared.fault.CommandFault.{CommandFault}
use Rattle.commands.specs.declared.fault.CommandFault.TheVariants.{BadArguments, OutOfMemory, StateAt}

-- the fault of what the state file of a path stands for
abbrev pub IsOfAccount : List ℕ → AccountFault → CommandFault → Type 0
IsOfAccount path accounts.Memory told = told ≡ OutOfMemory
IsOfAccount path (accounts.File cause) told = IsOfState path (of_reading cause) told
IsOfAccount path (accounts.Batch number fault) told = told ≡ StateAt number fault

-- why a program's words can't be had: memory is refused, or one of them is no text
abbrev pub words_fault : ErrorKind → CommandFault
words_fault kinds.OutOfMemory = OutOfMemory
words_fault kind = BadArguments

-- what comes of a file that isn't read: memory is refused, or the command has none
abbrev pub unread : {File : Type 0} → ErrorKind → Result (Option File) CommandFault
unread kinds.OutOfMemory = Err OutOfMemory
unread kind = Ok None
