-- Lists that are taken away as bytes, or put there.
use Rattle.std.specs.Prelude.{◌≡◌, ◌⊎◌, ℕ, List, []}
use Rattle.batch_file.specs.Crashes.{ComesOfStep, Only, Swapped}
use Rattle.batch_file.specs.declared.device.Device.{Ghosts as Device}
use Rattle.etcd_client.specs.declared.members.AskFault.{AskFault}
use Rattle.standby.specs.Faults.{of_asking}
use Rattle.standby.specs.declared.fault.ListFault.{ListFault}
use Rattle.standby.specs.declared.fault.ListFault.TheVariants.{AlreadyExists, Led, Memory, Missing, OtherCluster, Unplaced, Unread}

-- WHERE NOTHING STOOD THESE BYTES STAND NOW, and a crash leaves them, and nothing else.
pub record IsPut {D : Type 0} (device : Device D) (bytes : List ℕ) (new : D) : Type 0 where
  pub opened : D
  pub empty : device.seen opened ≡ []
  pub seen : device.seen new ≡ bytes
  pub durable : Only bytes (device.may_leave new)
  pub crash : ComesOfStep (Swapped bytes) (device.may_leave opened) (device.may_leave new)

-- why bytes are not read: memory, or a piece is missing, or was let go of meanwhile
abbrev pub IsUnreadBy : ListFault → Type 0
IsUnreadBy fault = (fault ≡ Memory) ⊎ (fault ≡ Unread)

-- what was told of a request says why
abbrev pub IsOfAsking : ListFault → Type 0
IsOfAsking fault = (asked : AskFault) × (fault ≡ of_asking asked)

-- why a list is not found by who reads it, or is to write it
abbrev pub IsUnfound : ListFault → Type 0
IsUnfound fault = (fault ≡ Memory) ⊎ (fault ≡ OtherCluster) ⊎ IsOfAsking fault

-- why none may be put there: so it was, or somebody leads
abbrev pub IsUnled : ListFault → Type 0
IsUnled fault = IsUnfound fault ⊎ (fault ≡ Led)

-- why a list is not taken: so it was, none is there, or it could not be read
abbrev pub IsUntaken : ListFault → Type 0
IsUntaken fault = IsUnfound fault ⊎ (fault ≡ Missing) ⊎ IsUnreadBy fault

-- why bytes are not put: they could not be read before, some stand there, or it is not known whether they were
abbrev pub IsUnput : ListFault → Type 0
IsUnput fault = IsUnreadBy fault ⊎ (fault ≡ AlreadyExists) ⊎ (fault ≡ Unplaced)

-- why no list is put there: so it was, or none may be
abbrev pub IsNotPut : ListFault → Type 0
IsNotPut fault = IsUnput fault ⊎ IsUnled fault
