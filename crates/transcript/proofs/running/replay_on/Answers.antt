use Rattle.std.proofs.Common.{◌≡◌, ◌∙◌, Err, ap, rules}
use Rattle.transcript.proofs.Names.{outset_of, Configures, printed_lanes}
use Rattle.transcript.proofs.Stated.{texts}
use Rattle.transcript.proofs.Failing.{if_err, later_fault}
use Rattle.transcript.proofs.Printing.{answered}
use Rattle.transcript.proofs.running.replay_on.Goals as goal

pub returns-clause-done : goal.returns-clause-done
returns-clause-done g c =
    let later = texts c.in-Some.later.now in
    let configures : Configures c.args.text.now c.in_ok-registry.registry later = search rules in
    let outset = outset_of c.in_ok-registry.registry c.args.host in
    record {
      rules = c.in_ok-registry.registry;
      later = later;
      configures = configures;
      answer = answered g.H.HookHost outset c.in_ok-edge.edge later _ c.in_ok-edge.ensures.done (c.in_ok-out.ensures ∙ ap printed_lanes c.lanes.ensures);
    }

pub returns-in_err-edge-clause-fault : goal.returns-in_err-edge-clause-fault
returns-in_err-edge-clause-fault g c =
    let later = texts c.in-Some.later.now in
    let configures : Configures c.args.text.now c.in_ok-registry.registry later = search rules in
    let fault = c.in_err-edge.field-0.0 in
    let same : c.from_residual-in_err-edge.result ≡ Err fault = search rules in
    if_err _ _ fault same (later_fault g.H.HookHost c.args.host c.args.text.now c.in_ok-registry.registry later fault configures c.in_err-edge.ensures.fault)
