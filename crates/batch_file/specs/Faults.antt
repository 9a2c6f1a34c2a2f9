-- Which fault of a device or of a file of batches an error of the system is.
use Rattle.std.specs.Prelude.{◌≡◌, ◌⊎◌, ◌<◌, ◌≤◌, ◌+◌, ◌-◌, ◌^◌, max, ℕ, Option, None, Some, ⊤}
use Rattle.std.specs.IoError.{error_kind}
use Rattle.std.specs.declared.io.Error.{Error}
use Rattle.std.specs.declared.io.ErrorKind.{ErrorKind}
use Rattle.std.specs.declared.io.ErrorKind.TheVariants as kinds
use Rattle.system_faults.specs.Faults.{system_fault}
use Rattle.system_faults.specs.declared.SystemFault.{SystemFault}
use Rattle.system_faults.specs.declared.SystemFault.TheVariants as system
use Rattle.batch_file.specs.declared.device.DeviceFault.{DeviceFault}
use Rattle.batch_file.specs.declared.device.DeviceFault.TheVariants as device
use Rattle.batch_file.specs.declared.device.ReplaceFault.{ReplaceFault}
use Rattle.batch_file.specs.declared.device.ReplaceFault.TheVariants as replacing
use Rattle.batch_file.specs.declared.framing.ReadFault.{ReadFault}
use Rattle.batch_file.specs.declared.framing.ReadFault.TheVariants as reading
use Rattle.batch_file.specs.declared.appending.BatchFault.{BatchFault}
use Rattle.batch_file.specs.declared.appending.BatchFault.TheVariants as batch
use Rattle.batch_file.specs.declared.appending.RenewFault.{RenewFault}
use Rattle.batch_file.specs.declared.appending.RenewFault.TheVariants as renewing

-- it says that there is no room for more, on the disk, in the file or in memory
abbrev pub IsOfRoom : SystemFault → Type 0
IsOfRoom system.StorageFull = ⊤
IsOfRoom system.QuotaExceeded = ⊤
IsOfRoom system.FileTooLarge = ⊤
IsOfRoom system.OutOfMemory = ⊤
IsOfRoom reason = ⊥

-- The zeros are fewer than a batch needs, and a device told that it has no room for as many as are missing.
pub record IsUsedUp {D : Type 0} (tells_full : D → ℕ → SystemFault → Type 0) (room need : ℕ) (reason : SystemFault) : Type 0 where
  pub few : room < need
  pub of_room : IsOfRoom reason
  pub device : D
  pub told : tells_full device (need - room) reason

-- that there is no room is told only then
abbrev pub TellsNoRoom : {D : Type 0} → (D → ℕ → SystemFault → Type 0) → ℕ → ℕ → BatchFault → Type 0
TellsNoRoom tells_full room need (batch.NoRoom reason) = IsUsedUp tells_full room need reason
TellsNoRoom tells_full room need fault = ⊤

-- How many zeros stand behind the frames once there is room for what is needed: as many as before; or, where fewer than half a MB would
-- stay behind that, a MB more than it needs; or, where the device refused that, no more than it needs.
abbrev pub IsMadeRoom : (need old new : ℕ) → Option SystemFault → Type 0
IsMadeRoom need old new None = (need + 2 ^ 19 ≤ new) × ((new ≡ old) ⊎ ((old < need + 2 ^ 19) × (new ≡ max old need + 2 ^ 20)))
IsMadeRoom need old new (Some reason) = new ≡ max old need

-- a device's fault as that of the file of batches on it, and as that of a replacement
abbrev pub of_device : DeviceFault → BatchFault
of_device device.Memory = batch.Memory
of_device (device.Failed reason) = batch.Failed reason

-- a device's fault of a read, by the error that the system gave
abbrev pub of_reading_kind : ErrorKind → SystemFault → DeviceFault
of_reading_kind kinds.OutOfMemory reason = device.Memory
of_reading_kind kind reason = device.Failed reason

abbrev pub of_reading : Error → DeviceFault
of_reading error = of_reading_kind (error_kind error) (system_fault error)

abbrev pub of_replacing : DeviceFault → ReplaceFault
of_replacing device.Memory = replacing.Memory
of_replacing (device.Failed reason) = replacing.Failed reason

-- a fault of a replacement as one of putting another file in the place of a file of batches
abbrev pub of_replacement : ReplaceFault → RenewFault
of_replacement replacing.Memory = renewing.Memory
of_replacement (replacing.Unplaced reason) = renewing.Unplaced reason
of_replacement (replacing.Failed reason) = renewing.Failed reason

-- a device's fault on the next file: the old one stands
abbrev pub of_next : DeviceFault → RenewFault
of_next device.Memory = renewing.Memory
of_next (device.Failed reason) = renewing.Unplaced reason

-- where a source of bytes is not read, it is not known what the file has
abbrev pub of_unread : DeviceFault → ReadFault
of_unread device.Memory = reading.Memory
of_unread (device.Failed reason) = reading.Unread reason

-- a device's fault where the old file is copied to the next one: the old one stands
abbrev pub of_copying : DeviceFault → ReplaceFault
of_copying device.Memory = replacing.Memory
of_copying (device.Failed reason) = replacing.Unplaced reason
