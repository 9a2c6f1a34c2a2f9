-- How far a file is read, frame by frame.
use Rattle.std.specs.Prelude.{◌≡◌, ◌+◌, ℕ, List, [], ◌++◌, length, drop, IsTrue}
use Rattle.batch_file.specs.declared.framing.ReadFault.{ReadFault}
use Rattle.batch_file.specs.declared.framing.ReadFault.TheVariants.{Memory, Unread}
use Rattle.batch_file.specs.declared.walk.Walk.{Walk}
use Rattle.batch_file.specs.declared.reader.FrameReader.{FrameReader}
use Rattle.batch_file.specs.Frames.{header, AreFrames, IsNoFrame}

-- it is not known what the file has: memory was refused, or the system refused to read
abbrev pub IsUnread : ReadFault → Type 0
IsUnread Memory = Unit {0}
IsUnread (Unread reason) = Unit {0}
IsUnread fault = ⊥

-- what was read of a file and not yet gone over
abbrev pub ahead : Walk → List ℕ
ahead walk = drop walk.at walk.bytes.items

-- Of what was read of a file these frames were gone over, each with its digest: behind them stands what is ahead.
pub record HasWalked (batches : List (List ℕ)) (told : List ℕ) (walk : Walk) : Type 0 where
  pub frames : List ℕ
  pub is : told ≡ header ++ (frames ++ ahead walk)
  pub are : AreFrames header batches walk.last frames
  pub end : walk.end ≡ 16 + length frames
  pub number : walk.number ≡ length batches

-- A reader has given these batches of what its source told.
pub record HasRead {S : Type 0} (told : S → List ℕ) (is_over : S → Type 0) (batches : List (List ℕ)) (reader : FrameReader S) : Type 0 where
  pub walked : HasWalked batches (told reader.source) reader.walk
  -- nothing is behind what was read
  pub over : IsTrue reader.over → is_over reader.source
  -- no frame is behind these, whatever may still be read
  pub spent : IsTrue reader.spent → (more : List ℕ) → (IsTrue reader.over → more ≡ []) → IsNoFrame reader.walk.last (ahead reader.walk ++ more)
