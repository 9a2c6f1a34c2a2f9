use Rattle.std.proofs.Common.{◌≡◌, take}
use Rattle.state_file.proofs.Names.{dated_facts, MakesAgain}
use Rattle.state_file.proofs.remade.Remade.redo_list.Given as goal

abbrev pub invariant-loop-dated : goal.invariant-loop-dated
invariant-loop-dated g l = record {
  made : MakesAgain g.H.HookHost l.fn.self (dated_facts (take l.dated-index l.changes)) l.self;
  rules : l.self.server.rules ≡ l.fn.self.server.rules;
}
