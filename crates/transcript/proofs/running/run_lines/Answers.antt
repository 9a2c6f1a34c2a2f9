use Rattle.std.proofs.Common.{◌≡◌, List, Err, map, rules, subst}
use Rattle.headline.specs.declared.call.EdgeCall.{EdgeCall}
use Rattle.headline.specs.declared.call.Upshot.{Upshot}
use Rattle.headline.specs.Headline.{IsMade}
use Rattle.transcript.proofs.Names.{outset_of, AreCalls, AreDone, HaveStated, IsFirstRefusal}
use Rattle.transcript.proofs.Calling.{all_made, stops_bad, stops_there}
use Rattle.transcript.proofs.Failing.{if_err}
use Rattle.transcript.proofs.Stated.{texts}
use Rattle.transcript.specs.Running.{LinesFail}
use Rattle.transcript.specs.Seen.{stated}
use Rattle.transcript.specs.declared.line.Line.{Line}
use Rattle.transcript.proofs.running.run_lines.Goals as goal

pub returns-in_err-first_refusal-clause-fault : goal.returns-in_err-first_refusal-clause-fault
returns-in_err-first_refusal-clause-fault g c =
    let outset = outset_of c.args.rules c.args.host in
    let lines = texts c.args.texts.now in
    let statements = map stated c.in_ok-read.read.lines.items in
    let calls = c.in_ok-calls.calls.items in
    let upshots = c.in_ok-made.made.upshots.items in
    let edge = c.in_ok-made.made.edge in
    let fault = c.in_err-first_refusal.field-0.0 in
    let are = subst (λ (ls : List Line). AreCalls (map stated ls) calls) c.deref.ensures.value c.in_ok-calls.ensures in
    let made = subst (λ (cs : List EdgeCall). IsMade g.H.HookHost outset cs upshots edge) c.deref-2.ensures.value c.in_ok-made.ensures in
    let first = subst (λ (us : List Upshot). IsFirstRefusal us fault) c.deref-3.ensures.value c.in_err-first_refusal.ensures.refused in
    let same : c.from_residual-in_err-first_refusal.result ≡ Err fault = search rules in
    if_err _ (LinesFail g.H.HookHost outset lines) fault same
    (stops_there g.H.HookHost outset lines statements c.in_ok-read.read.bad calls upshots edge fault c.in_ok-read.ensures are made first)

pub returns-in-Some-clause-fault : goal.returns-in-Some-clause-fault
returns-in-Some-clause-fault g c = λ not_memory.
    let outset = outset_of c.args.rules c.args.host in
    let lines = texts c.args.texts.now in
    let statements = map stated c.in_ok-read.read.lines.items in
    let calls = c.in_ok-calls.calls.items in
    let upshots = c.in_ok-made.made.upshots.items in
    let edge = c.in_ok-made.made.edge in
    let are = subst (λ (ls : List Line). AreCalls (map stated ls) calls) c.deref.ensures.value c.in_ok-calls.ensures in
    let made = subst (λ (cs : List EdgeCall). IsMade g.H.HookHost outset cs upshots edge) c.deref-2.ensures.value c.in_ok-made.ensures in
    let done = subst AreDone c.deref-3.ensures.value c.in_ok-first_refusal.ensures.done in
    stops_bad g.H.HookHost outset lines statements c.in-Some.number calls upshots edge (subst (HaveStated lines statements) c.in-Some.is c.in_ok-read.ensures) are made done

pub returns-clause-done : goal.returns-clause-done
returns-clause-done g c =
    let outset = outset_of c.args.rules c.args.host in
    let lines = texts c.args.texts.now in
    let statements = map stated c.in_ok-read.read.lines.items in
    let calls = c.in_ok-calls.calls.items in
    let upshots = c.in_ok-made.made.upshots.items in
    let edge = c.in_ok-made.made.edge in
    let are = subst (λ (ls : List Line). AreCalls (map stated ls) calls) c.deref.ensures.value c.in_ok-calls.ensures in
    let made = subst (λ (cs : List EdgeCall). IsMade g.H.HookHost outset cs upshots edge) c.deref-2.ensures.value c.in_ok-made.ensures in
    let done = subst AreDone c.deref-3.ensures.value c.in_ok-first_refusal.ensures.done in
    all_made g.H.HookHost outset lines statements calls upshots edge (subst (HaveStated lines statements) c.in_default.is c.in_ok-read.ensures) are made done
