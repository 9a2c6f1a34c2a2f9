-- What a fault of a list in etcd is to a command.
use Rattle.std.specs.Prelude.{◌≡◌, ◌⊎◌, ℕ, List}
use Rattle.commands.specs.declared.fault.CommandFault.{CommandFault}
use Rattle.commands.specs.declared.fault.CommandFault.TheVariants as faults
use Rattle.standby.specs.Members.{AreRefused}
use Rattle.standby.specs.declared.fault.ListFault.{ListFault}
use Rattle.standby.specs.declared.fault.ListFault.TheVariants as list
use Rattle.start_words.specs.declared.list.ListWords.{ListWords}

-- it is told by name, with the prefix of the list; want of memory is told as everywhere
abbrev pub IsOfList : List ℕ → ListFault → CommandFault → Type 0
IsOfList prefix list.Memory fault = fault ≡ faults.OutOfMemory
IsOfList prefix cause (faults.List named told) = (named.now ≡ prefix) × (told ≡ cause)
IsOfList prefix cause fault = ⊥

-- so it is for one of these causes
abbrev pub FailsSo : (ListFault → Type 0) → List ℕ → CommandFault → Type 0
FailsSo IsCause prefix fault = (cause : ListFault) × IsCause cause × IsOfList prefix cause fault

-- so it is for some cause
abbrev pub FailsList : List ℕ → CommandFault → Type 0
FailsList prefix fault = (cause : ListFault) × IsOfList prefix cause fault

-- it is not known how the members of a list are to be asked: where they listen, or the password of the user
abbrev pub IsUnasked : ListWords → ListFault → Type 0
IsUnasked words cause = AreRefused words.members.now cause ⊎ (cause ≡ list.NoPassword)
