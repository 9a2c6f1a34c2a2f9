-- How what a start makes is put on a device.
use Rattle.std.specs.Prelude.{◌≡◌, ◌⊎◌, ◌++◌, ℕ, List, None, ⊤}
use Rattle.state_keeper.specs.Names.{recovered, Device}
use Rattle.state_file.specs.declared.fault.StateFault.{StateFault}
use Rattle.batch_file.specs.Crashes.{LeavesOnly, Only}
use Rattle.batch_file.specs.Frames.{IsOnDisk, IsReadable}
use Rattle.batch_file.specs.declared.appending.BatchFile.{BatchFile}
use Rattle.state_keeper.specs.Seen.{SeenKeeper}
use Rattle.state_file.specs.Knowing.{IsKnown, end_of}
use Rattle.state_file.specs.declared.fault.StateFault.TheVariants as state
use Rattle.state_keeper.specs.declared.starting.Origin.{Origin}
use Rattle.state_keeper.specs.declared.starting.Origin.TheVariants as origin

-- the batches stand on a device that has these bytes, in a file that is not refused; or in memory
abbrev pub HasFront : List ℕ → Origin → List (List ℕ) → Type 0
HasFront seen origin.Device front = (recovered seen ≡ front) × IsReadable seen
HasFront seen (origin.Memory frames) front = frames ≡ front

-- what a crash left is a file of the batches, or is what one at the old moment might have left
abbrev pub IsOldOr : {D : Type 0} → Device D → D → List (List ℕ) → List ℕ → Type 0
IsOldOr device old batches left = device.may_leave old left ⊎ ((recovered left ≡ batches) × IsReadable left)

-- The keeper's file has these batches, where what was read is true, and can be read, and a crash leaves nothing else; one meanwhile
-- left a file of these, or what one before might have left. It knows what these tell, keeps what is given to it, and no shortening is
-- on the way.
pub record IsPutOn {D : Type 0} (device : Device D) (batches : List (List ℕ)) (old : D) (keeper : SeenKeeper D) : Type 0 where
  pub seen : device.reads_true keeper.file.device → recovered (device.seen keeper.file.device) ≡ batches
  pub readable : IsReadable (device.seen keeper.file.device)
  pub durable : Only (device.seen keeper.file.device) (device.may_leave keeper.file.device)
  pub end : keeper.file.end ≡ end_of batches
  pub known : IsKnown ⊤ batches keeper.known
  pub unfailed : keeper.fault ≡ None
  pub unbegun : keeper.front ≡ None
  pub meanwhile : LeavesOnly device.moment device.left_since old keeper.file.device (IsOldOr device old batches)

-- the disk failed, or refused the new file, or memory was refused
abbrev pub IsOfDisk : StateFault → Type 0
IsOfDisk state.Memory = Unit {0}
IsOfDisk (state.Unplaced reason) = Unit {0}
IsOfDisk (state.Device reason) = Unit {0}
IsOfDisk _ = ⊥

-- it is no failure of the disk: then the device's file is as it was
abbrev pub IsUntouched : StateFault → Type 0
IsUntouched (state.Device reason) = ⊥
IsUntouched _ = Unit {0}

-- PARTS: only the contracts of this crate's own parts and their proofs cite what follows

-- the batches of the origin
abbrev pub front_in : List ℕ → Origin → List (List ℕ)
front_in seen origin.Device = recovered seen
front_in seen (origin.Memory frames) = frames

-- the device's file is not refused, where they stand there
abbrev pub IsReadIn : List ℕ → Origin → Type 0
IsReadIn seen origin.Device = IsReadable seen
IsReadIn seen (origin.Memory frames) = Unit {0}

-- a file of these batches was put in the place of all that the device had
pub record IsPut {D : Type 0} (device : Device D) (old : D) (batches : List (List ℕ)) (file : BatchFile D) : Type 0 where
  pub seen : device.reads_true file.device → recovered (device.seen file.device) ≡ batches
  pub settled : IsOnDisk device.seen device.may_leave device.faults file
  pub end : file.end ≡ end_of batches
  pub meanwhile : LeavesOnly device.moment device.left_since old file.device (IsOldOr device old batches)
