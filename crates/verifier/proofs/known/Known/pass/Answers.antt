use Rattle.std.proofs.Common.{FitsSigned, rules, w16}
use Rattle.verifier.proofs.Names.{to_z-of_z, Operate, Convert, LoadWord, LoadFrom}
use Rattle.insn.specs.declared.action.Action.TheVariants.{Branch}
use Rattle.verifier.proofs.Steps.{Gives, received_as, row_of}
use Rattle.verifier.proofs.known.Known.pass.Goals as goal

pub returns-in-Operate : goal.returns-in-Operate
returns-in-Operate c =
    rw c.in-Operate.is (received_as c.in-Operate.dst (Gives c.args.layout c.args.self.now (Operate c.in-Operate.width c.in-Operate.op c.in-Operate.dst c.in-Operate.operand)) c.apply-given.result c.args.self.now c.receive.new.self c.receive.result
    (c.operand-right.result, c.operand-right.ensures, rw c.register.ensures at c.apply-given.ensures) c.receive.ensures)

pub returns-in-Convert : goal.returns-in-Convert
returns-in-Convert c =
    rw c.in-Convert.is (received_as c.in-Convert.dst (Gives c.args.layout c.args.self.now (Convert c.in-Convert.width c.in-Convert.op c.in-Convert.dst c.in-Convert.src)) c.unary-given.result c.args.self.now c.receive-in-Convert.new.self c.receive-in-Convert.result
    (rw c.register-in-Convert.ensures at c.unary-given.ensures) c.receive-in-Convert.ensures)

pub returns-in-LoadWord : goal.returns-in-LoadWord
returns-in-LoadWord c =
    rw c.in-LoadWord.is (received_as c.in-LoadWord.dst (Gives c.args.layout c.args.self.now (LoadWord c.in-LoadWord.dst c.in-LoadWord.value)) _ c.args.self.now c.receive-in-LoadWord.new.self c.receive-in-LoadWord.result c.exact.ensures c.receive-in-LoadWord.ensures)

pub returns-in-LoadFrom : goal.returns-in-LoadFrom
returns-in-LoadFrom c =
    let fits : FitsSigned w16 c.in-LoadFrom.offset = search rules in
    rw c.in-LoadFrom.is (received_as c.in-LoadFrom.dst (Gives c.args.layout c.args.self.now (LoadFrom c.in-LoadFrom.size c.in-LoadFrom.extension c.in-LoadFrom.dst c.in-LoadFrom.src c.in-LoadFrom.offset)) c.extended-given.result c.args.self.now c.receive-in-LoadFrom.new.self c.receive-in-LoadFrom.result
    (c.loaded.result, rw (to_z-of_z w16 c.in-LoadFrom.offset fits) at c.loaded.ensures, c.extended-given.ensures) c.receive-in-LoadFrom.ensures)

pub returns-in-Branch : goal.returns-in-Branch
returns-in-Branch c =
    let fits : FitsSigned w16 c.in-Branch.offset = search rules in
    row_of c.args.layout c.args.action (Branch c.in-Branch.width c.in-Branch.cond c.in-Branch.left c.in-Branch.right c.in-Branch.offset) c.args.self.now c.args.self.now c.branch-self.result c.in-Branch.is (rw (to_z-of_z w16 c.in-Branch.offset fits) at (c.branch-self.ensures c.args.layout))

pub returns-in-End : goal.returns-in-End
returns-in-End c = rw c.in-End.is (c.exit.ensures c.args.layout)
