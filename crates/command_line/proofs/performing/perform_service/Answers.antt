use Rattle.command_line.proofs.Names.{files_in, output}
use Rattle.command_line.proofs.Failing.{fails_told}
use Rattle.command_line.proofs.performing.perform_service.Goals as goal

pub returns-in-Err : goal.returns-in-Err
returns-in-Err g c =
    fails_told _ c.args.service.now (files_in c.args.files) c.in-Err.fault c.told.result (output g.W.Write.contents g.W.Printer.writes c.args.out.now c.serve_as.new.out)
    (output g.E.Write.contents g.E.Printer.writes c.args.err.now c.told.new.err) c.serve_as.new.err c.in-Err.ensures.fault c.told.ensures
