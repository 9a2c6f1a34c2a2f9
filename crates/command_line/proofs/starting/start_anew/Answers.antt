use Rattle.std.proofs.Common.{◌≡◌, refl}
use Rattle.command_line.proofs.Names.{output, outputs, pace_of}
use Rattle.command_line.proofs.Placing.{all_written, was_anew, was_deaf}
use Rattle.command_line.specs.Places.{all_of}
use Rattle.daemon.specs.Starts.{handed_anew}
use Rattle.command_line.proofs.starting.start_anew.Goals as goal

pub returns-in-Ok : goal.returns-in-Ok
returns-in-Ok g c =
    let all = c.args.all in
    let options = c.args.given.now.options in
    let same : handed_anew c.registry_alone-registry.result all.taken.chain c.terms_of.result.pace ≡ handed_anew all.candidate.registry all.taken.chain (pace_of options) =
    rw (c.registry_alone-registry.ensures, c.terms_of.ensures) in
    was_anew _ c.args.given.now.address.now (all_of all options) _ _
    (outputs (output g.W.Write.contents g.W.Printer.writes c.args.out.now c.start.new.out) (output g.E.Write.contents g.E.Printer.writes c.args.err.now c.start.new.err)) c.requires same
    (c.in-Ok.served.fault, (c.in-Ok.served, refl, c.in-Ok.ensures.serves), refl, c.in-Ok.ensures.done)

pub returns : goal.returns
returns g c =
    let address = c.args.given.now.address.now in
    was_deaf _ address (all_of c.args.all c.args.given.now.options) c.in-Err.fault c.deaf.result
    (outputs (output g.W.Write.contents g.W.Printer.writes c.args.out.now c.start.new.out) (output g.E.Write.contents g.E.Printer.writes c.args.err.now c.start.new.err))
    c.in-Err.ensures.quiet (λ other. c.in-Err.ensures.silent (all_written address c.in-Err.fault c.deaf.result c.deaf.ensures other)) c.deaf.ensures
