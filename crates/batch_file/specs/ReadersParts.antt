-- Beside Readers: only the contracts of this crate's own parts and their proofs cite this, no public clause.
use Rattle.std.specs.Prelude.{◌≡◌, ◌+◌, ℕ, suc, List, Bool, true, false}
use Rattle.batch_file.specs.declared.reader.FrameReader.{FrameReader}
use Rattle.batch_file.specs.Frames.{frames_size, recovered, torn_of, IsReadable}

-- a file of these batches was read to its end: they end there, and that was left behind them
pub record IsEnd (told : List ℕ) (batches : List (List ℕ)) (end : ℕ) (torn : List ℕ) : Type 0 where
  pub are : recovered told ≡ batches
  pub readable : IsReadable told
  pub torn_is : torn ≡ torn_of told
  pub end_is : end ≡ 16 + frames_size (recovered told)

-- no frame was gone over
pub record StaysThere {S : Type 0} (old new : FrameReader S) : Type 0 where
  pub last : new.walk.last ≡ old.walk.last
  pub end : new.walk.end ≡ old.walk.end
  pub spent : new.spent ≡ old.spent

-- what is left to read: nothing once the source has no more
abbrev pub left : Bool → ℕ → ℕ
left true n = 0
left false n = suc n
