-- The clocks beside the moment of a state.
use Rattle.std.specs.Prelude.{ℕ, ◌-◌, Option, None, Some}
use Rattle.outside.specs.declared.clocks.Times.{Times}

-- how many seconds a state's moment is ahead of what the clocks told, where they told something
abbrev pub seconds_ahead : Option Times → ℕ → ℕ
seconds_ahead (Some now) moment = moment - now.moment
seconds_ahead None moment = 0
