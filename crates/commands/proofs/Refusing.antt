-- Why it is not told what the file of a path stands for.
use Rattle.std.proofs.Common.{◌≡◌, ◌⊎◌, inl, inr, ℕ, List, ap, refl}
use Rattle.batch_file.specs.Frames.{RefusesFile}
use Rattle.batch_file.specs.declared.framing.ReadFault.{ReadFault}
use Rattle.batch_file.specs.declared.framing.ReadFault.TheVariants as reading
use Rattle.state_account.specs.Accounts.{RefusesAccount}
use Rattle.state_account.specs.declared.account.AccountFault.{AccountFault}
use Rattle.state_account.specs.declared.account.AccountFault.TheVariants as accounts
use Rattle.state_file.specs.Faults.{of_reading}
use Rattle.commands.specs.Faults.{IsOfState}
use Rattle.commands.specs.States.{HasNoAccount}
use Rattle.commands.specs.StatusesParts.{IsOfAccount}
use Rattle.commands.specs.declared.fault.CommandFault.{CommandFault}

-- it is no state file, for such a cause
pub no_state : (path : List ℕ) (IsCause : ReadFault → Type 0) (cause : ReadFault) (told : CommandFault) → (cause ≡ reading.Memory) ⊎ IsCause cause →
    IsOfState path (of_reading cause) told → HasNoAccount path IsCause told
no_state path IsCause cause told why (inl memory) = rw memory.1 tt
no_state path IsCause cause told (inl memory) (inr is) = absurd (is.known (ap of_reading memory))
no_state path IsCause cause told (inr why) (inr is) = rw is.told_is (is.path_is, cause, why, refl)

-- or a batch is at fault
pub no_account : (path left : List ℕ) (IsCause : ReadFault → Type 0) (fault : AccountFault) (told : CommandFault) → IsOfAccount path fault told → RefusesAccount left fault →
    ((cause : ReadFault) → RefusesFile left cause → IsCause cause) → HasNoAccount path IsCause told
no_account path left IsCause accounts.Memory told is refuses gives = rw is tt
no_account path left IsCause (accounts.File cause) told is refuses gives = no_state path IsCause cause told (inr (gives cause refuses)) is
no_account path left IsCause (accounts.Batch number fault) told is refuses gives = rw is refuses
