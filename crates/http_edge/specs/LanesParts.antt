-- Beside Lanes: only the contracts of this crate's own parts and their proofs cite this, no public clause.
use Rattle.std.specs.Prelude.{◌≡◌, ◌⊎◌, ◌≤◌, ℕ, List, [], ◌∷◌, Option, Some, None, ◌==◌, filter, length, not, All, Bool, Contains, false, if◌then◌else◌}
use Rattle.http_edge.specs.Schedule.{has_stream_ended, is_closing_phase}
use Rattle.http_edge.specs.declared.lane.Phase.TheVariants.{Open}
use Rattle.http_edge.specs.Lanes.{SeenLane}

-- one lane is other
abbrev pub with_lane : ℕ → SeenLane → List SeenLane → List SeenLane
with_lane c new [] = []
with_lane c new (lane ∷ more) = if lane.number == c then new ∷ more else lane ∷ with_lane c new more

abbrev pub without_lane : ℕ → List SeenLane → List SeenLane
without_lane c lanes = filter (λ lane. not (lane.number == c)) lanes

-- one of a connection that was just opened
abbrev pub fresh_lane : ℕ → SeenLane
fresh_lane c = record { number = c; phase = Open; rest = []; output = []; ends = [] }

abbrev pub is_closing_lane : Option SeenLane → Bool
is_closing_lane None = false
is_closing_lane (Some lane) = is_closing_phase lane.phase

-- bytes may still come
abbrev pub IsHearing : Option SeenLane → Type 0
IsHearing None = ⊥
IsHearing (Some lane) = has_stream_ended lane.phase ≡ false

-- so many bytes of its output are left up to the next end of a reply
pub record IsLeftIn (lane : SeenLane) (n : ℕ) : Type 0 where
  pub is_end : (n ≡ length lane.output) ⊎ Contains lane.ends n
  pub within : n ≤ length lane.output
  pub next : All (λ end. n ≤ end) lane.ends

abbrev pub AreLeftIn : Option SeenLane → ℕ → Type 0
AreLeftIn None n = n ≡ 0
AreLeftIn (Some lane) n = IsLeftIn lane n
