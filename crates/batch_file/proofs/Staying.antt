-- What a crash leaves while a file stands as it was.
use Rattle.std.proofs.Common.{◌≡◌, ℕ, List}
use Rattle.batch_file.specs.Crashes.{Elapses, LeavesOnly, Only}
use Rattle.batch_file.specs.Frames.{recovered, IsAtRest, IsReadable}
use Rattle.batch_file.specs.FramesLaws.{readable_is}
use Rattle.batch_file.specs.CrashesLaws.{started, goes_on}
use Rattle.batch_file.proofs.Steps.{as_it_was}

module _ {D : Type 0} (moment : D → ℕ) (left_since : D → ℕ → List ℕ → Type 0) (may_leave : D → List ℕ → Type 0) (end room : ℕ) (last file : List ℕ) (r : IsAtRest end room last file)
    (old : D) (only_now : (c : List ℕ) → left_since old (moment old) c → may_leave old c) (only : Only file (may_leave old)) where
  reads : (c : List ℕ) → c ≡ file → IsReadable c
  reads c is = readable_is (recovered file) c (as_it_was end room last file r c is)

  -- nothing was done
  pub reads_there : LeavesOnly moment left_since old old IsReadable
  reads_there = started (λ c left. reads c (only c (only_now c left)))

  -- something was done beside it
  pub reads_beside : (first : D) → ((c : List ℕ) → may_leave first c → may_leave old c) → Elapses (moment old) (moment first) (left_since old) (left_since first) (may_leave first)
      → LeavesOnly moment left_since old first IsReadable
  reads_beside first fewer time = goes_on reads_there time (λ c left. reads c (only c (fewer c left)))

  -- and something more
  pub reads_further : (first second : D) → ((c : List ℕ) → may_leave first c → may_leave old c) → Elapses (moment old) (moment first) (left_since old) (left_since first) (may_leave first)
      → ((c : List ℕ) → may_leave second c → may_leave first c) → Elapses (moment first) (moment second) (left_since first) (left_since second) (may_leave second)
      → LeavesOnly moment left_since old second IsReadable
  reads_further first second fewer time less later = goes_on (reads_beside first fewer time) later (λ c left. reads c (only c (fewer c (less c left))))
