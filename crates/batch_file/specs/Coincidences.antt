-- What else than the premise on chance allows an append that was cut short would have to leave.
use Rattle.std.specs.Prelude.{◌≡◌, ◌≢◌, ◌⊎◌, ◌+◌, ℕ, List, take, drop}
use Rattle.batch_file.specs.Frames.{digest}
use Rattle.batch_file.specs.FramesLaws.{Collision}

-- but for so many bytes from there on the two are the same
abbrev pub AreSameBeside : ℕ → ℕ → List ℕ → List ℕ → Type 0
AreSameBeside at size old left = (take at left ≡ take at old) × (drop (at + size) left ≡ drop (at + size) old)

-- These bytes are the digest of another batch behind that one, which nobody wrote, and are not those that were written; or two inputs
-- of SHA-256 are known whose digests begin with the same 16 bytes.
abbrev pub IsCoincidence : List ℕ → List ℕ → List ℕ → Type 0
IsCoincidence last batch bytes =
    (other : List ℕ) × (other ≢ batch) × (bytes ≡ digest last other) × ((digest last other ≢ digest last batch) ⊎ Collision)
