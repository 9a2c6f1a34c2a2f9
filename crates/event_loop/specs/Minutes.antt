-- How often a moment is written to what is kept, where no change is.
use Rattle.std.specs.Prelude.{◌≢◌, ◌<◌, ◌∷◌}
use Rattle.change_codec.specs.Keeping.{horizon_of}
use Rattle.outside.specs.Calls.{Kept, Shortened}
use Rattle.event_loop.specs.Durable.{Onward}
use Rattle.event_loop.specs.LoopStates.{Promises, LoopState}
use Rattle.event_loop.specs.Served.{LoopStep}

-- at the step from the one state to the other something came to what is kept, but for what a shortening left
pub record Writes {N C J K H : Type 0} (p : Promises N C J K H) (s s' : LoopState N C J K H) : Type 0 where
  pub size : p.keeping.size s'.keeper ≢ p.keeping.size s.keeper
  pub unshortened : s'.calls ≢ Shortened ∷ s.calls

-- and no change did
pub record WritesMoment {N C J K H : Type 0} (p : Promises N C J K H) (s s' : LoopState N C J K H) : Type 0 where
  pub writes : Writes p s s'
  pub unkept : s'.calls ≢ Kept ∷ s.calls

-- where a moment is written, it is later by more than a minute than the moment at which something was written before
abbrev pub OnceAMinute : {N C J K H : Type 0} → Promises N C J K H → Type 0
OnceAMinute {N} {C} {J} {K} {H} p =
    (s s' t t' : LoopState N C J K H) → LoopStep p s s' → Writes p s s' → Onward p s' t → LoopStep p t t' → WritesMoment p t t' →
    horizon_of s'.times.moment < t'.times.moment
