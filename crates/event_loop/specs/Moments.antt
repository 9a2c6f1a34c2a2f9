-- How the moment that the clocks tell is looked at and kept.
use Rattle.std.specs.Prelude.{ℕ, ◌≡◌, ◌<◌, ◌≤◌, ◌-◌, max, ◌&&◌, nat_lt, if◌then◌else◌, Option, None, Some}
use Rattle.change_codec.specs.Keepers.{Keeping}
use Rattle.change_codec.specs.Keeping.{Until, HoldsBasis, HoldsStill, KeepsBasis, horizon_bound, horizon_of}
use Rattle.outside.specs.declared.clocks.Times.{Times}

-- how many seconds the clocks are ahead of a moment, where these are more than they may be and the moment is not 0
abbrev pub seconds_too_far : Option ℕ → Option Times → ℕ → Option ℕ
seconds_too_far (Some limit) (Some now) moment = if nat_lt 0 moment && nat_lt limit (now.moment - moment) then Some (now.moment - moment) else None
seconds_too_far limit now moment = None

-- With changes the keeper keeps the moment that the clocks told, a minute ahead.
pub record KeepsAhead {K : Type 0} (keeping : Keeping K) (moment : ℕ) (old new : K) : Type 0 where
  pub basis : KeepsBasis keeping.crashes (horizon_bound moment) old new
  pub ahead : HoldsBasis keeping.crashes new (Until (horizon_of moment))
  pub until : keeping.kept_until new ≡ max (keeping.kept_until old) (horizon_of moment)

-- The keeper holds what it held, and tells the moment that the clocks told, or one that is at most a minute later. Up to the moment that
-- is kept it is as it was, and then one is kept that is a minute ahead.
pub record KeepsTimes {K : Type 0} (keeping : Keeping K) (times : Times) (old new : K) : Type 0 where
  pub holds : HoldsStill keeping.crashes old new
  pub basis : KeepsBasis keeping.crashes (horizon_bound times.moment) old new
  pub told : HoldsBasis keeping.crashes new (Until times.moment)
  pub idle : times.moment ≤ keeping.kept_until old → new ≡ old
  pub until : keeping.kept_until old < times.moment → keeping.kept_until new ≡ max (keeping.kept_until old) (horizon_of times.moment)
