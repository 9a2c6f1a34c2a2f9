use Rattle.std.proofs.Common.{refl}
use Rattle.verifier.proofs.Rows.{row_own}
use Rattle.verifier.proofs.known.Known.apply_still.Goals as goal

pub returns-clause-own : goal.returns-clause-own
returns-clause-own c = row_own c.args.layout c.args.insn c.args.self.now c.pass.new.self c.in_ok-flow.flow (rw c.action-action.ensures at c.in_ok-flow.ensures)

pub returns-clause-kinds : goal.returns-clause-kinds
returns-clause-kinds c = (
  c.pass.new.self,
  rw c.action-action.ensures at c.in_ok-flow.ensures,
  record {
    registers = refl;
    stack = refl;
    links = rw (c.made-link.ensures, c.home_made-home.ensures, c.action-action.ensures) at c.make_both.ensures;
  },
)
