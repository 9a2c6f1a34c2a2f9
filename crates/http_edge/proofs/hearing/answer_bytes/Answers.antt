use Rattle.std.proofs.Common.{rules, ◌≡◌, ℕ, List, drop, ap, ◌∙◌, arith}
use Rattle.http_edge.proofs.Names.{SeenRest, AreFirst, ServesMessages, drawn_for, first_requests, lane_output, replying, said_so, seen_output}
use Rattle.heads.specs.Scan.{IsScan}
use Rattle.http_edge.proofs.Drawing.{fewer_suffice}
use Rattle.http_edge.proofs.hearing.answer_bytes.Goals as goal

pub returns-clause-heard : goal.returns-clause-heard
returns-clause-heard g c =
    let bytes : List ℕ = c.args.bytes.now in
    let scan = c.scan_behind-scan.result in
    let all : IsScan bytes scan = c.scan_behind-scan.ensures in
    let first : AreFirst (first_requests bytes scan.count c.args.moment) all.messages = record { rest = drop scan.end bytes; reads = all.reads.reads; count_is = all.count } in
    let serves : ServesMessages g.H.HookHost (replying c.args.server.now (said_so (seen_output c.make_room.new.output) c.args.tellings.now)) (drawn_for g.S.DrawSource c.args.source.now all.messages c.args.moment) (replying c.answer_all.new.server (said_so (seen_output c.answer_all.new.output) c.answer_all.new.tellings)) =
    c.answer_all.ensures.answered.serves all.messages first in
    let output : seen_output c.make_room.new.output ≡ lane_output c.args.lane.now = search rules in
    let count = all.count in
    let few = c.in_default.ensures.few in
    record {
      messages = all.messages;
      closes = scan.faulty;
      read = record {
        rest = drop scan.end bytes;
        reads = all.reads;
        few = omega (arith, count, few);
        kept_is = ap (λ (r : SeenRest). r.bytes) c.in-Ok.ensures.ok;
        may_tell = λ e. (all.hopeless e, all.may e);
        must_tell = all.must;
      };
      enough = fewer_suffice _ scan.count _ (omega (arith, count)) c.in_default.ensures.enough;
      middle = seen_output c.answer_all.new.output;
      serves = rw output at serves;
      output_is = c.give_back.ensures ∙ c.tell.ensures;
      number_is = search rules;
      phase_is = search rules;
      source_is = c.answer_all.ensures.answered.source_is all.messages first;
    }
