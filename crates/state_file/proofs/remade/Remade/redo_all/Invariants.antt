use Rattle.std.proofs.Common.{take}
use Rattle.state_file.proofs.Names.{lists, TellsAgain}
use Rattle.state_file.proofs.remade.Remade.redo_all.Given as goal

abbrev pub invariant-loop-batch : goal.invariant-loop-batch
invariant-loop-batch g l = TellsAgain g.H.HookHost l.fn.self (lists (take l.batch-index l.batches)) l.self
