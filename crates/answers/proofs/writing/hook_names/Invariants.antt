use Rattle.std.proofs.Common.{◌≡◌, ◌-◌, map, take, length}
use Rattle.std.specs.Prelude.{vec_len}
use Rattle.answers.proofs.writing.hook_names.Given as goal

-- the names so far
abbrev pub invariant-loop-name : goal.invariant-loop-name
invariant-loop-name g l = map (λ name. name.now) l.names.items ≡ take (vec_len l.names) (g.H.HookHost.names l.host)

abbrev pub decreases-loop-name : goal.decreases-loop-name
decreases-loop-name g l = length (g.H.HookHost.names l.host) - vec_len l.names
