use Rattle.std.proofs.Common.{◌≡◌, drop}
use Rattle.metrics.specs.Denied.{denials_told}
use Rattle.metrics.proofs.denials.Denials.note_told.Given as goal

-- what comes of those that are left comes of all
abbrev pub invariant-loop-told : goal.invariant-loop-told
invariant-loop-told l = denials_told l.self (drop l.told-index l.tolds) ≡ denials_told l.fn.self l.tolds
