-- Beside Frames: only the contracts of this crate's own parts and their proofs cite this, no public clause.
use Rattle.std.specs.Prelude.{◌≡◌, ◌<◌, ◌+◌, ℕ, List, [], ◌++◌, length, drop}
use Rattle.batch_file.specs.Frames.{header, AreFrames, IsFrame, IsNoFrame, IsTorn}

-- the frames of these batches end there
pub record IsRead (batches : List (List ℕ)) (last : List ℕ) (end : ℕ) (bytes : List ℕ) : Type 0 where
  pub frames : List ℕ
  pub is : bytes ≡ header ++ (frames ++ drop end bytes)
  pub are : AreFrames header batches last frames
  pub ends : end ≡ 16 + length frames

-- and are all that are right
abbrev pub IsFront : List (List ℕ) → List ℕ → ℕ → List ℕ → Type 0
IsFront batches last end bytes = IsRead batches last end bytes × IsNoFrame last (drop end bytes)

-- so it is read, and not refused
abbrev pub IsFound : List (List ℕ) → List ℕ → ℕ → List ℕ → Type 0
IsFound batches last end bytes = IsRead batches last end bytes × IsTorn last (drop end bytes)

-- a frame behind that digest stands somewhere in the bytes
abbrev pub HasFrame : List ℕ → List ℕ → Type 0
HasFrame before bytes = (at : ℕ) × (batch : List ℕ) × (more : List ℕ) × IsFrame before batch more (drop at bytes)

-- The front and more are a file of so many bytes: a front that is shorter than a header is all of it.
pub record Begins (front more : List ℕ) (len : ℕ) : Type 0 where
  pub size : length (front ++ more) ≡ len
  pub short : length front < 16 → more ≡ []
