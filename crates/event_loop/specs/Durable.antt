-- What a crash leaves of what was done.
use Rattle.std.specs.Prelude.{◌≡◌, ◌≢◌, ◌⊎◌, ℕ, List, ◌∷◌, Some, max}
use Rattle.event_loop.specs.Names.{Event, Until, IsFrontOf, Holds, HoldsBasis, Leaves, Journey}
use Rattle.outside.specs.Calls.{Transfer, Wrote}
use Rattle.event_loop.specs.LoopStates.{Promises, LoopState, IsAllKept}
use Rattle.event_loop.specs.Served.{LoopStep, keeps, waits}
use Rattle.telling.specs.Audience.{IsAllTold}

-- Steps lead on from a state.
pub data Onward {N C J K H : Type 0} (p : Promises N C J K H) (s : LoopState N C J K H) : LoopState N C J K H → Type 0 where
  stays : Onward p s s
  onward : {s' s'' : LoopState N C J K H} → Onward p s s' → LoopStep p s' s'' → Onward p s s''

-- the moment that the clocks told, where it is kept: behind a wait, and with changes
abbrev pub told_by : {N C J K H : Type 0} {p : Promises N C J K H} {s s' : LoopState N C J K H} → LoopStep p s s' → ℕ
told_by (waits limit room found n times c keeper may done told near kept further) = times.moment
told_by {s = s} (keeps keeper e unkept on undone kept moments further sole) = s.times.moment
told_by step = 0

-- the greatest one that they told on the way from the one state to the other
abbrev pub latest : {N C J K H : Type 0} {p : Promises N C J K H} {s s' : LoopState N C J K H} → Onward p s s' → ℕ
latest stays = 0
latest (onward on step) = max (latest on) (told_by step)

-- What a journey has of one before it: what the server began with, all that had happened, and all that was kept.
pub record Carries {H : Type 0} (old new : Journey H) : Type 0 where
  pub outset : new.outset ≡ old.outset
  pub front : IsFrontOf old.world.history new.world.history
  pub kept : (before : List Event) → old.world.kept ≡ Some before → (now : List Event) × (new.world.kept ≡ Some now) × IsFrontOf before now

-- the keeper holds what was kept last
abbrev pub KeeperHolds : {N C J K H : Type 0} → Promises N C J K H → LoopState N C J K H → Type 0
KeeperHolds p s = (kept : List Event) → s.progress.journey.world.kept ≡ Some kept → Holds p.keeping.crashes s.keeper kept

-- What a crash left stands for what was kept last at a state from the one on, up to the other. That has all that was kept
-- at the one, and nothing that has not happened at the other.
pub record StandsBetween {N C J K H : Type 0} (p : Promises N C J K H) (s : LoopState N C J K H) (before : List Event) (s' : LoopState N C J K H)
    (c : List ℕ) : Type 0 where
  pub at : LoopState N C J K H
  pub since : Onward p s at
  pub until : Onward p at s'
  pub kept : List Event
  pub kept_there : at.progress.journey.world.kept ≡ Some kept
  pub stands : p.keeping.crashes.stands_for c kept
  pub from : IsFrontOf before kept
  pub to : IsFrontOf kept s'.progress.journey.world.history

-- where the step from the one state to the other is a write, all that had happened was kept
abbrev pub IsWriteKept : {N C J K H : Type 0} → LoopState N C J K H → LoopState N C J K H → Type 0
IsWriteKept s s' = (k room : ℕ) (took : Transfer) → s'.calls ≡ Wrote k room took ∷ s.calls → IsAllKept s.progress.journey.world

-- and all that was told of requests was handed to the journal
abbrev pub IsWriteTold : {N C J K H : Type 0} → LoopState N C J K H → LoopState N C J K H → Type 0
IsWriteTold s s' = (k room : ℕ) (took : Transfer) → s'.calls ≡ Wrote k room took ∷ s.calls → IsAllTold s.progress.audience

-- Each crash from the one state on, up to the other, leaves what stands for what was kept between. So where a byte was
-- written, with nothing unkept, each crash from then on leaves all before it, and never a part of what is kept at once.
abbrev pub IsDurable : {N C J K H : Type 0} → Promises N C J K H → LoopState N C J K H → LoopState N C J K H → Type 0
IsDurable p s s' = (kept : List Event) → s.progress.journey.world.kept ≡ Some kept → Leaves p.keeping.crashes s.keeper s'.keeper (StandsBetween p s kept s')

-- So it is up to the end, behind the last state that steps lead to; but where keeping failed there, what is left may stand
-- for all that had happened.
abbrev pub IsDurableToEnd : {N C J K H : Type 0} → Promises N C J K H → LoopState N C J K H → LoopState N C J K H → LoopState N C J K H → Type 0
IsDurableToEnd p s last end = (kept : List Event) → s.progress.journey.world.kept ≡ Some kept → Leaves p.keeping.crashes s.keeper end.keeper
    (λ c. StandsBetween p s kept last c ⊎ p.keeping.crashes.stands_for c last.progress.journey.world.history)

-- the keeper tells the moment by which requests are answered now
abbrev pub MomentIsHeld : {N C J K H : Type 0} → Promises N C J K H → LoopState N C J K H → Type 0
MomentIsHeld p s = HoldsBasis p.keeping.crashes s.keeper (Until s.times.moment)

-- Where requests have moved the greatest moment by which one was answered on since the first state, each crash from the one
-- state on, up to the other, tells that of the one, or a later one.
abbrev pub MomentStays : {N C J K H : Type 0} → Promises N C J K H → LoopState N C J K H → LoopState N C J K H → LoopState N C J K H → Type 0
MomentStays p first s s' = s.progress.journey.world.greatest ≢ first.progress.journey.world.greatest →
    Leaves p.keeping.crashes s.keeper s'.keeper (λ c. p.keeping.crashes.tells c (Until s.progress.journey.world.greatest))
