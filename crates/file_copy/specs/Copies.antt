-- Beside Frames: only the contracts of this crate's own parts and their proofs cite this, no public clause.
use Rattle.std.specs.Prelude.{◌≡◌, ◌+◌, ◌≤◌, ℕ, List, ◌++◌, length, take, Option, Some}
use Rattle.batch_file.specs.declared.device.Device.{Ghosts as Device}
use Rattle.batch_file.specs.declared.next.Next.{Next}
use Rattle.file_copy.specs.declared.placing.Gathered.{Gathered}
use Rattle.batch_file.specs.declared.walk.Walk.{Walk}
use Rattle.batch_file.specs.Crashes.{IsBeside, LeavesOnly}
use Rattle.batch_file.specs.Frames.{header, recovered, frames_size, AreFrames, IsAtRest, IsReadable}
use Rattle.batch_file.specs.Readers.{HasWalked}

-- nothing was done but beside the file: a crash at any moment since leaves what one before would have left
pub record StaysAside {D : Type 0} (device : Device D) (old new : D) : Type 0 where
  pub beside : IsBeside device.seen device.may_leave device.faults old new
  pub any_moment : LeavesOnly device.moment device.left_since old new (device.may_leave old)
  pub truth : device.reads_true new → device.reads_true old

-- what was done since keeps that
abbrev pub KeepsAside : {D : Type 0} → Device D → D → D → Type 0
KeepsAside {D = D} device mid new = (old : D) → StaysAside device old mid → StaysAside device old new

-- what was written to the next file and what is gathered are the header and the frames of these batches
pub record AreGathered (next : Option (List ℕ)) (batches : List (List ℕ)) (gathered : Gathered) : Type 0 where
  pub written : List ℕ
  pub next_is : next ≡ Some written
  pub frames : List ℕ
  pub is : written ++ gathered.out.items ≡ header ++ frames
  pub are : AreFrames header batches gathered.next.last frames
  pub end : gathered.next.end ≡ 16 + frames_size batches

-- of bytes that are seen so many were read, no more than up to that end, and these batches gone over
pub record HasSeen {D : Type 0} (device : Device D) (seen : List ℕ) (batches : List (List ℕ)) (walk : Walk) (at end : ℕ) (file : D) : Type 0 where
  pub told : List ℕ
  pub walked : HasWalked batches told walk
  pub size : length told ≡ at
  pub within : at ≤ end
  pub true : device.reads_true file → told ≡ take at seen

-- what was gathered are the frames that the bytes have up to that end
pub record HasCopied {D : Type 0} (device : Device D) (seen : List ℕ) (end : ℕ) (file : D) (gathered : Gathered) : Type 0 where
  pub batches : List (List ℕ)
  pub are : AreGathered (device.next file) batches gathered
  pub ends : gathered.next.end ≡ end
  pub same : device.reads_true file → IsReadable seen → end ≡ 16 + frames_size (recovered seen) → batches ≡ recovered seen

-- the next file is on the disk: the batches that the bytes have, and others behind
pub record IsCopied {D : Type 0} (device : Device D) (seen : List ℕ) (behind : List (List ℕ)) (file : D) (next : Next) : Type 0 where
  pub bytes : List ℕ
  pub on_disk : device.next_on_disk file ≡ Some bytes
  pub at_rest : IsAtRest next.end 1 next.last bytes
  pub batches : device.reads_true file → recovered bytes ≡ recovered seen ++ behind

-- these bytes are the header and the frames of these batches, and the next frame goes there
pub record AreBehind (written : List ℕ) (batches : List (List ℕ)) (front : Next) : Type 0 where
  pub frames : List ℕ
  pub is : written ≡ header ++ frames
  pub are : AreFrames header batches front.last frames
  pub end : front.end ≡ 16 + frames_size batches

-- with what was gathered behind them they are a file at rest, of these batches
pub record AreGatheredWhole (written : List ℕ) (batches : List (List ℕ)) (gathered : Gathered) : Type 0 where
  pub at_rest : IsAtRest gathered.next.end 1 gathered.next.last (written ++ gathered.out.items)
  pub batches_are : recovered (written ++ gathered.out.items) ≡ batches
