use Rattle.std.proofs.Common.{◌≤◌, ◌-◌, length}
use Rattle.hook_host.proofs.count.hook_count.Given as goal

-- so many there are at least
abbrev pub invariant-loop-name : goal.invariant-loop-name
invariant-loop-name g l = l.count ≤ length (g.H.HookHost.names l.host)

abbrev pub decreases-loop-name : goal.decreases-loop-name
decreases-loop-name g l = length (g.H.HookHost.names l.host) - l.count
