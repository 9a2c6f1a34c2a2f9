use Rattle.std.proofs.Common.{◌≡◌, ◌+◌, take}
use Rattle.transcript.specs.Called.{AreDone}
use Rattle.transcript.proofs.running.first_refusal.Given as goal

-- those so far were done
abbrev pub invariant-loop-upshot : goal.invariant-loop-upshot
invariant-loop-upshot l = AreDone (take l.upshot-index l.upshots) × (l.number ≡ l.upshot-index + 1)
