use Rattle.std.proofs.Common.{true}
use Rattle.verifier.proofs.Names.{IsSpreadBelow, IsNarrowedOrNone}
use Rattle.verifier.proofs.known.Known.refine_linked.Given as goal

abbrev pub invariant-loop-i : goal.invariant-loop-i
invariant-loop-i l = IsNarrowedOrNone l.initial.self l.self true × IsSpreadBelow l.test l.turn l.initial.self l.i l.self
