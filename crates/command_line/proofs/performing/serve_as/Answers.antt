use Rattle.std.proofs.Common.{◌≡◌, [], Err, map, refl, rules, subst}
use Rattle.command_line.proofs.Names.{AreFactsOf, TakesHooks, hook_fact_of, in_file, HasAll, files_in, output, outputs}
use Rattle.command_line.proofs.Serving.{not_audited, not_served, served, was_started}
use Rattle.command_line.proofs.performing.serve_as.Goals as goal

pub returns-in-Serve-clause-done : goal.returns-in-Serve-clause-done
returns-in-Serve-clause-done g c =
    served c.serve_count.result _ c.args.service.now (files_in c.args.files) _ c.registry_alone.result c.in-Serve.given (rw c.registry_alone.ensures c.in_ok-candidate.ensures.found) c.in-Serve.is
    c.serve_count.ensures.done c.serve_count.ensures.served

pub returns-in-Serve-clause-fault : goal.returns-in-Serve-clause-fault
returns-in-Serve-clause-fault g c =
    not_served c.serve_count.result _ c.args.service.now (files_in c.args.files)
    (outputs (output g.W.Write.contents g.W.Printer.writes c.args.out.now c.serve_count.new.out) (output g.E.Write.contents g.E.Printer.writes c.args.err.now c.args.err.now)) c.registry_alone.result c.in-Serve.given (rw c.registry_alone.ensures c.in_ok-candidate.ensures.found) c.in-Serve.is refl
    c.serve_count.ensures.refused

pub returns-in_err-audit-clause-fault : goal.returns-in_err-audit-clause-fault
returns-in_err-audit-clause-fault g c =
    let is : c.from_residual-in_err-audit.result ≡ Err c.in_err-audit.field-0.0 = search rules in
    let all : HasAll c.args.service.now (files_in c.args.files) = record {
      given = c.in-Start.given;
      service_is = c.in-Start.is;
      registry = c.in_ok-candidate.candidate.registry;
      held = c.in_ok-candidate.ensures.found;
      hooks = c.in_ok-taken.taken.chain;
      taken = subst (λ hooks. TakesHooks [] (map in_file hooks) c.in_ok-taken.taken.chain) c.deref.ensures.value c.in_ok-taken.ensures.taken;
      codes = map hook_fact_of c.in_ok-taken.taken.codes.items;
      coded = subst (λ hooks. AreFactsOf (map in_file hooks) (map hook_fact_of c.in_ok-taken.taken.codes.items)) c.deref.ensures.value c.in_ok-taken.ensures.coded;
    } in
    rw is (not_audited _ c.args.service.now (files_in c.args.files) c.in_err-audit.field-0.0
    (outputs (output g.W.Write.contents g.W.Printer.writes c.args.out.now c.args.out.now) (output g.E.Write.contents g.E.Printer.writes c.args.err.now c.args.err.now)) all refl refl c.in_err-audit.ensures.refused)

pub returns-clause-fault : goal.returns-clause-fault
returns-clause-fault g c =
    let all : HasAll c.args.service.now (files_in c.args.files) = record {
      given = c.in-Start.given;
      service_is = c.in-Start.is;
      registry = c.in_ok-candidate.candidate.registry;
      held = c.in_ok-candidate.ensures.found;
      hooks = c.in_ok-taken.taken.chain;
      taken = subst (λ hooks. TakesHooks [] (map in_file hooks) c.in_ok-taken.taken.chain) c.deref.ensures.value c.in_ok-taken.ensures.taken;
      codes = map hook_fact_of c.in_ok-taken.taken.codes.items;
      coded = subst (λ hooks. AreFactsOf (map in_file hooks) (map hook_fact_of c.in_ok-taken.taken.codes.items)) c.deref.ensures.value c.in_ok-taken.ensures.coded;
    } in
    was_started _ c.args.service.now (files_in c.args.files) c.start_where.result
    (outputs (output g.W.Write.contents g.W.Printer.writes c.args.out.now c.start_where.new.out) (output g.E.Write.contents g.E.Printer.writes c.args.err.now c.start_where.new.err)) all c.start_where.ensures
