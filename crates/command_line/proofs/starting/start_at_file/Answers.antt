use Rattle.std.proofs.Common.{◌≡◌, ◌∙◌, ap, map, refl, rules}
use Rattle.command_line.proofs.Names.{hook_fact, hook_fact_of, output, outputs, pace_of}
use Rattle.command_line.proofs.Placing.{no_room, was_on_file, was_unopened}
use Rattle.command_line.specs.Places.{all_of}
use Rattle.daemon.specs.Starts.{handed_by, handed_on}
use Rattle.command_line.proofs.starting.start_at_file.Goals as goal

pub returns-in_default : goal.returns-in_default
returns-in_default g c =
    no_room _ c.args.given.now.address.now c.args.path.now (all_of c.args.all c.args.given.now.options) _
    (outputs (output g.W.Write.contents g.W.Printer.writes c.args.out.now c.args.out.now) (output g.E.Write.contents g.E.Printer.writes c.args.err.now c.args.err.now)) c.requires refl refl refl

pub returns-in-Ok-start_on_file : goal.returns-in-Ok-start_on_file
returns-in-Ok-start_on_file g c =
    let all = c.args.all in
    let options = c.args.given.now.options in
    let codes : c.deref.result.now ≡ all.taken.codes.items = search rules in
    let kept : c.deref-2.result.now ≡ c.in-Ok.hooks.items = search rules in
    let listed : map hook_fact c.deref-2.result.now ≡ map hook_fact_of all.taken.codes.items = ap (map hook_fact) kept ∙ c.in-Ok.ensures ∙ ap (map hook_fact_of) codes in
    let same : handed_by all.candidate.registry c.terms_of.result c.state_terms-state.result ≡ handed_on all.candidate.registry (map hook_fact_of all.taken.codes.items) (pace_of options) =
    rw (c.terms_of.ensures, c.state_terms-state.ensures, listed) in
    was_on_file _ c.args.given.now.address.now c.args.path.now (all_of all options) _ _
    (outputs (output g.W.Write.contents g.W.Printer.writes c.args.out.now c.start_on_file.new.out) (output g.E.Write.contents g.E.Printer.writes c.args.err.now c.start_on_file.new.err)) c.requires same
    (c.in-Ok-start_on_file.served.end, (c.in-Ok-start_on_file.served, refl, c.in-Ok-start_on_file.ensures.lives), c.end_of.ensures)

pub returns : goal.returns
returns g c =
    was_unopened _ c.args.given.now.address.now c.args.path.now (all_of c.args.all c.args.given.now.options) c.in-Err.fault c.unopened.result
    (outputs (output g.W.Write.contents g.W.Printer.writes c.args.out.now c.start_on_file.new.out) (output g.E.Write.contents g.E.Printer.writes c.args.err.now c.start_on_file.new.err)) c.requires
    c.in-Err.ensures.quiet c.in-Err.ensures.silent c.unopened.ensures
