-- What the fault of a state file is told as.
use Rattle.std.proofs.Common.{◌⊎◌, ℕ, List, [], inl, inr, refl}
use Rattle.command_line.proofs.Names.{RegistryRecord, CommandFault}
use Rattle.state_file.specs.Making.{StopsReading}
use Rattle.state_file.specs.declared.fault.StateFault.{StateFault}
use Rattle.state_file.specs.declared.fault.StateFault.TheVariants as state
use Rattle.commands.specs.Faults.{IsOfState}
use Rattle.commands.specs.declared.fault.CommandFault.TheVariants as faults
use Rattle.lifetime.specs.Plans.{RefusesPlan}
use Rattle.command_line.specs.StateEndings.{IsCannotRead, IsUnread, RefusesTrial}

cannot_read : (rules : RegistryRecord) (path : List ℕ) (told : CommandFault) → IsCannotRead path told → RefusesTrial rules path told
cannot_read rules path (faults.CannotRead named) is = is
cannot_read rules path _ is = absurd is

told_as : (rules : RegistryRecord) (path bytes : List ℕ) (cause : StateFault) (told : CommandFault) → IsOfState path cause told → RefusesPlan rules [] bytes cause →
    RefusesTrial rules path told
told_as rules path bytes cause told (inl memory) refuses = rw memory.1 tt
told_as rules path bytes cause told (inr is) refuses = rw is.told_is (is.path_is, bytes, refuses)

pub no_trial : (rules : RegistryRecord) (path bytes : List ℕ) (cause : StateFault) (told : CommandFault) → (IsUnread cause → IsCannotRead path told) →
    ((IsUnread cause → ⊥) → IsOfState path cause told) → StopsReading cause ⊎ RefusesPlan rules [] bytes cause → RefusesTrial rules path told
no_trial rules path bytes (state.Device reason) told unread read why = cannot_read rules path told (unread tt)
no_trial rules path bytes state.Memory told unread read (inl stops) = told_as rules path bytes state.Memory told (read (λ is. absurd is)) (inl refl)
no_trial rules path bytes cause told unread read (inl stops) = absurd stops
no_trial rules path bytes cause told unread read (inr refuses) = told_as rules path bytes cause told (read (λ is. absurd is)) refuses
