-- What the calls of a device do to its file, and what a crash may do between two syncs.
use Rattle.std.specs.Prelude.{◌<◌, ◌≡◌, ◌⊎◌, ℕ, ◌+◌, ◌≤◌, List, ◌++◌, length, take, drop, Result, OnOk, IfErr}
use Rattle.batch_file.specs.declared.device.DeviceFault.{DeviceFault}
use Rattle.batch_file.specs.declared.device.DeviceFault.TheVariants as device
use Rattle.batch_file.specs.declared.device.ReplaceFault.{ReplaceFault}
use Rattle.batch_file.specs.declared.device.ReplaceFault.TheVariants as replacing

-- new is old with these bytes at this offset
abbrev pub IsWrittenAt : List ℕ → ℕ → List ℕ → List ℕ → Type 0
IsWrittenAt old at bytes new = new ≡ take at old ++ bytes ++ drop (at + length bytes) old

-- after a replacement: the old file or the next one, never a part
abbrev pub Swapped : List ℕ → List ℕ → List ℕ → Type 0
Swapped next old new = (new ≡ old) ⊎ (new ≡ next)

-- each new outcome of a crash is an old outcome after a step
abbrev pub ComesOfStep : (List ℕ → List ℕ → Type 0) → (List ℕ → Type 0) → (List ℕ → Type 0) → Type 0
ComesOfStep step old new = (c : List ℕ) → new c → (d : List ℕ) × old d × step d c

-- a crash leaves this and nothing else
abbrev pub Only : List ℕ → (List ℕ → Type 0) → Type 0
Only file outcomes = (c : List ℕ) → outcomes c → c ≡ file

-- Time goes on: a crash since t might have left what it might have left before, or what it may leave now.
pub record Elapses (before now : ℕ) (past since : ℕ → List ℕ → Type 0) (may_leave : List ℕ → Type 0) : Type 0 where
  pub later : before ≤ now
  pub nothing_else : (t : ℕ) (c : List ℕ) → t ≤ before → since t c → past t c ⊎ may_leave c
  pub keeps : (t : ℕ) (c : List ℕ) → t ≤ before → past t c → since t c

-- A crash at any moment since old leaves a file that has P.
pub record LeavesOnly {D : Type 0} (moment : D → ℕ) (left_since : D → ℕ → List ℕ → Type 0) (old new : D) (P : List ℕ → Type 0) : Type 0 where
  pub later : moment old ≤ moment new
  pub each : (c : List ℕ) → left_since new (moment old) c → P c
  -- for a run that began earlier
  pub before : (t : ℕ) (c : List ℕ) → t ≤ moment old → left_since new t c → left_since old t c ⊎ P c

-- the disk failed
abbrev pub IsFailure : DeviceFault → Type 0
IsFailure (device.Failed reason) = Unit {0}
IsFailure device.Memory = ⊥

abbrev pub IsReplaceFailure : ReplaceFault → Type 0
IsReplaceFailure (replacing.Failed reason) = Unit {0}
IsReplaceFailure fault = ⊥

-- nothing was put in the place of the old file
abbrev pub IsUnplaced : ReplaceFault → Type 0
IsUnplaced (replacing.Failed reason) = ⊥
IsUnplaced fault = Unit {0}

-- what was done beside a file left it as it was
pub record IsBeside {D : Type 0} (seen : D → List ℕ) (may_leave : D → List ℕ → Type 0) (faults : D → ℕ) (old new : D) : Type 0 where
  pub bytes : seen new ≡ seen old
  pub crash : (c : List ℕ) → may_leave new c → may_leave old c
  pub no_fault : faults new ≡ faults old

-- a failure of the disk is told only where it has failed since, and it has not where the call succeeded
pub record HasCause {T F : Type 0} (is_failure : F → Type 0) (before now : ℕ) (result : Result T F) : Type 0 where
  pub later : before ≤ now
  pub failed : IfErr result (λ fault. is_failure fault → before < now)
  pub faultless : OnOk result (now ≡ before)
