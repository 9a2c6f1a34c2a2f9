-- What a crash leaves of a write that it cuts short.
use Rattle.std.specs.Prelude.{◌≡◌, ◌⊎◌, ℕ, ◌+◌, ◌≤◌, max, List, ◌++◌, length, take, drop}
use Rattle.batch_file.specs.Frames.{frames_size, recovered, HidesFrame, IsRightFront}

-- these batches are the first of those
abbrev pub AreFirst : List (List ℕ) → List (List ℕ) → Type 0
AreFirst some all = (more : List (List ℕ)) × (all ≡ some ++ more)

-- behind its right frames a file has no other, and yet hides one
abbrev pub HidesOne : List ℕ → Type 0
HidesOne file = (batches : List (List ℕ)) × (front : IsRightFront batches file) × HidesFrame front.last front.rest

-- THE PREMISE ON CHANCE. What is left of a write has no digest by chance: it stands for no batch that does not stand, behind the same
-- ones, in the old file or in what was written, and it hides no frame where neither does. `chance_is_coincidence` says what else it
-- would take.
pub record IsNoChance (old written new : List ℕ) : Type 0 where
  pub made : AreFirst (recovered new) (recovered old) ⊎ AreFirst (recovered new) (recovered written)
  pub hidden : HidesOne new → HidesOne old ⊎ HidesOne written

-- After a write that a crash cuts short: any bytes in its range and past the old end, the same elsewhere, also in the sectors that it
-- touches (what is called powersafe overwrite); and behind the frames, nothing by chance.
pub record Torn (at : ℕ) (bytes old new : List ℕ) : Type 0 where
  pub before : take at new ≡ take at old
  pub after : drop (at + length bytes) new ≡ drop (at + length bytes) old
  pub no_shorter : length old ≤ length new
  pub no_longer : length new ≤ max (length old) (at + length bytes)
  pub no_chance : 16 + frames_size (recovered old) ≤ at → IsNoChance old (take at old ++ bytes ++ drop (at + length bytes) old) new
