use Rattle.std.proofs.Common.{◌≡◌, ◌∙◌, ap, map, refl, rules}
use Rattle.command_line.proofs.Names.{hook_fact, hook_fact_of, output, outputs, pace_of}
use Rattle.command_line.proofs.Placing.{was_deaf, was_on_list, was_unlisted}
use Rattle.command_line.specs.Places.{all_of}
use Rattle.daemon.specs.Starts.{handed_by, handed_on}
use Rattle.standby.specs.declared.fault.ListFault.TheVariants.{Memory}
use Rattle.start_words.specs.Lists.{list_said}
use Rattle.command_line.proofs.starting.start_at_list.Goals as goal

pub returns-in_default : goal.returns-in_default
returns-in_default g c =
    was_unlisted _ c.args.given.now.address.now (list_said c.args.list) (all_of c.args.all c.args.given.now.options) Memory _
    (outputs (output g.W.Write.contents g.W.Printer.writes c.args.out.now c.args.out.now) (output g.E.Write.contents g.E.Printer.writes c.args.err.now c.args.err.now)) c.requires refl refl refl

pub returns-in-Err : goal.returns-in-Err
returns-in-Err g c =
    was_unlisted _ c.args.given.now.address.now (list_said c.args.list) (all_of c.args.all c.args.given.now.options) c.in-Err.fault c.of_list.result
    (outputs (output g.W.Write.contents g.W.Printer.writes c.args.out.now c.args.out.now) (output g.E.Write.contents g.E.Printer.writes c.args.err.now c.args.err.now)) c.requires refl refl c.of_list.ensures

pub returns-in-Ok-start_on : goal.returns-in-Ok-start_on
returns-in-Ok-start_on g c =
    let all = c.args.all in
    let options = c.args.given.now.options in
    let list = list_said c.args.list in
    let codes : c.deref.result.now ≡ all.taken.codes.items = search rules in
    let kept : c.deref-2.result.now ≡ c.in-Ok.hooks.items = search rules in
    let listed : map hook_fact c.deref-2.result.now ≡ map hook_fact_of all.taken.codes.items = ap (map hook_fact) kept ∙ c.in-Ok.ensures ∙ ap (map hook_fact_of) codes in
    let same : handed_by c.in-Ok-list_opened.opened.candidate.registry c.terms_of.result c.state_terms-state.result ≡ handed_on all.candidate.registry (map hook_fact_of all.taken.codes.items) (pace_of options) =
    rw (c.in-Ok-list_opened.ensures.handed, c.terms_of.ensures, c.state_terms-state.ensures, listed) in
    was_on_list _ c.args.given.now.address.now list (all_of all options) _ _
    (outputs (output g.W.Write.contents g.W.Printer.writes c.args.out.now c.start_on.new.out) (output g.E.Write.contents g.E.Printer.writes c.args.err.now c.start_on.new.err)) c.requires same
    (c.in-Ok-start_on.served.end, (c.in-Ok-start_on.served, refl, c.in-Ok-start_on.ensures.lives), c.end_of.ensures)

pub returns : goal.returns
returns g c =
    was_deaf _ c.args.given.now.address.now (all_of c.args.all c.args.given.now.options) c.in-Err-start_on.why c.deaf.result
    (outputs (output g.W.Write.contents g.W.Printer.writes c.args.out.now c.start_on.new.out) (output g.E.Write.contents g.E.Printer.writes c.args.err.now c.start_on.new.err))
    c.in-Err-start_on.ensures.quiet (λ other. c.in-Err-start_on.ensures.silent) c.deaf.ensures
