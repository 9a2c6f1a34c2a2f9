use Rattle.std.proofs.Common.{◌≡◌, inl, inr, refl, subst, sym}
use Rattle.command_line.proofs.Listing.{are_lines, ends_quietly, shows_list, stops, told_why}
use Rattle.command_line.proofs.Names.{output, outputs}
use Rattle.command_line.proofs.Outcomes.{each_ok, map_err, map_ok}
use Rattle.command_line.specs.ListEndings.{FailsOn, TellsListDone}
use Rattle.command_line.specs.declared.list_command.ListCommand.{ListCommand}
use Rattle.commands.specs.NamedFiles.{bytes_in}
use Rattle.command_line.proofs.list_performing.perform_on.Goals as goal

pub print_answer-requires : goal.print_answer-requires
print_answer-requires g c = are_lines c.args.terms.prefix.now c.in-Ok.answer c.in-Ok.ensures.shown

pub returns-in-Ok : goal.returns-in-Ok
returns-in-Ok g c =
    let to = (outputs (output g.W.Write.contents g.W.Printer.writes c.args.out.now c.print_answer.new.out) (output g.E.Write.contents g.E.Printer.writes c.args.err.now c.print_answer.new.err)) in
    elim c.print_answer.ensures [
      | inl unwritten ↦ inl unwritten
      | inr done ↦ inr (inl (
        done.0,
        shows_list c.args.command _ c.args.terms.prefix.now (bytes_in c.args.file) c.in-Ok.answer to c.in-Show.is c.requires c.in-Ok.ensures.shown done.1 done.2,
      ))
    ]

pub returns-in-Show : goal.returns-in-Show
returns-in-Show g c =
    told_why c.args.command (bytes_in c.args.file) c.in-Err.fault c.told.result
    (outputs (output g.W.Write.contents g.W.Printer.writes c.args.out.now c.args.out.now) (output g.E.Write.contents g.E.Printer.writes c.args.err.now c.told.new.err)) refl c.told.ensures
    (stops c.args.command (bytes_in c.args.file) c.args.terms.prefix.now c.in-Err.fault c.requires
    (subst (λ (k : ListCommand). FailsOn k c.args.terms.prefix.now (bytes_in c.args.file) c.in-Err.fault) (sym c.in-Show.is) c.in-Err.ensures.refused))

pub returns-in-New : goal.returns-in-New
returns-in-New g c =
    let to = (outputs (output g.W.Write.contents g.W.Printer.writes c.args.out.now c.args.out.now) (output g.E.Write.contents g.E.Printer.writes c.args.err.now c.ended.new.err)) in
    ends_quietly c.args.command (bytes_in c.args.file) c.make_list.result c.ended.result to refl c.ended.ensures.done c.ended.ensures.failed
    (each_ok _ c.make_list.result (λ list same. subst (λ (k : ListCommand). TellsListDone k (bytes_in c.args.file) to) (sym c.in-New.is) (refl, same)))
    (map_err _ _ c.make_list.result (λ fault why. stops c.args.command (bytes_in c.args.file) c.args.terms.prefix.now fault c.requires (subst (λ (k : ListCommand). FailsOn k c.args.terms.prefix.now (bytes_in c.args.file) fault) (sym c.in-New.is) (inl why))) c.make_list.ensures.refused)

pub returns-in-From : goal.returns-in-From
returns-in-From g c =
    let to = (outputs (output g.W.Write.contents g.W.Printer.writes c.args.out.now c.args.out.now) (output g.E.Write.contents g.E.Printer.writes c.args.err.now c.ended-in-From.new.err)) in
    ends_quietly c.args.command (bytes_in c.args.file) c.put_file.result c.ended-in-From.result to refl c.ended-in-From.ensures.done c.ended-in-From.ensures.failed
    (map_ok _ _ c.put_file.result (λ list put same. subst (λ (k : ListCommand). TellsListDone k (bytes_in c.args.file) to) (sym c.in-From.is) (refl, same, put.0, put.1))
    c.put_file.ensures.put)
    (map_err _ _ c.put_file.result (λ fault why. stops c.args.command (bytes_in c.args.file) c.args.terms.prefix.now fault c.requires (subst (λ (k : ListCommand). FailsOn k c.args.terms.prefix.now (bytes_in c.args.file) fault) (sym c.in-From.is) why)) c.put_file.ensures.refused)

pub returns-in-To : goal.returns-in-To
returns-in-To g c =
    let to = (outputs (output g.W.Write.contents g.W.Printer.writes c.args.out.now c.args.out.now) (output g.E.Write.contents g.E.Printer.writes c.args.err.now c.ended-in-To.new.err)) in
    ends_quietly c.args.command (bytes_in c.args.file) c.take_file.result c.ended-in-To.result to refl c.ended-in-To.ensures.done c.ended-in-To.ensures.failed
    (each_ok _ c.take_file.result (λ taken same. subst (λ (k : ListCommand). TellsListDone k (bytes_in c.args.file) to) (sym c.in-To.is) (refl, same)))
    (map_err _ _ c.take_file.result (λ fault why. stops c.args.command (bytes_in c.args.file) c.args.terms.prefix.now fault c.requires (subst (λ (k : ListCommand). FailsOn k c.args.terms.prefix.now (bytes_in c.args.file) fault) (sym c.in-To.is) why)) c.take_file.ensures)

pub returns-in-Ok-ended_by : goal.returns-in-Ok-ended_by
returns-in-Ok-ended_by g c =
    let to = (outputs (output g.W.Write.contents g.W.Printer.writes c.args.out.now c.told_trial.new.out) (output g.E.Write.contents g.E.Printer.writes c.args.err.now c.told_trial.new.err)) in
    elim c.told_trial.ensures [
      | inl unwritten ↦ inl unwritten
      | inr done ↦ inr (inl (
        done.0,
        subst (λ (k : ListCommand). TellsListDone k (bytes_in c.args.file) to) (sym c.in-Trial.is) (done.1, c.in-Ok-ended_by.ended, c.in-Ok-ended_by.ensures.done, done.2),
      ))
    ]

pub returns : goal.returns
returns g c =
    told_why c.args.command (bytes_in c.args.file) c.in-Err-ended_by.fault c.told-in-Err-ended_by.result
    (outputs (output g.W.Write.contents g.W.Printer.writes c.args.out.now c.args.out.now) (output g.E.Write.contents g.E.Printer.writes c.args.err.now c.told-in-Err-ended_by.new.err)) refl c.told-in-Err-ended_by.ensures
    (stops c.args.command (bytes_in c.args.file) c.args.terms.prefix.now c.in-Err-ended_by.fault c.requires
    (subst (λ (k : ListCommand). FailsOn k c.args.terms.prefix.now (bytes_in c.args.file) c.in-Err-ended_by.fault) (sym c.in-Trial.is) c.in-Err-ended_by.ensures.refused))
