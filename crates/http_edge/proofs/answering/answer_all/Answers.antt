use Rattle.std.proofs.Common.{◌≡◌, ◌≤◌, ◌+◌, ◌-◌, ℕ, List, ◌++◌, [], ◌∷◌, length, take, drop, refl, ap, ◌∙◌, sym, arith, length-append}
use Rattle.http_edge.proofs.Names.{take_all, length-drop, drop-drop, Draws, Asked, asked_of, reply_bytes, Message, BeginsWithMessage, HasNone, asked_of_message, reads_push, reads_next, reads_same}
use Rattle.http_edge.proofs.Names.{front_whole, AreFirst, SeenOutput, said_so, seen_output, first_requests, demand_of, draws_for, draws_behind}
use Rattle.heads.specs.Front.{IsFront, IsFoundWithin, IsWholeAt}
use Rattle.heads.specs.declared.front.Found.{Found}
use Rattle.httparse.specs.Grammar.{RequestHead, print_request}
use Rattle.http_edge.specs.declared.source.Demand.{Demand}
use Rattle.http_edge.proofs.Serving.{served_none, served_push}
use Rattle.http_edge.proofs.Drawing.{draws_push, behind_push, fewer_suffice, suffices_behind}
use Rattle.http_edge.proofs.answering.answer_all.Goals as goal

tail_is : (n : ℕ) (bytes : List ℕ) → take (length bytes - n) (drop n bytes) ≡ drop n bytes
tail_is n bytes = take_all _ _ (let l = length-drop n bytes in omega (arith, l))

pub front_of-requires : goal.front_of-requires
front_of-requires g c = λ none. rw (tail_is c.loop-i.start c.args.bytes.now, c.loop-i.invariant.front none) c.requires.first

pub unreachable-requires : goal.unreachable-requires
unreachable-requires g c =
    let bytes = c.args.bytes.now in
    let front : IsFront (drop c.loop-i.start bytes) c.front_of.result = rw (← tail_is c.loop-i.start bytes) c.front_of.ensures in
    let before = c.loop-i.invariant in
    let all = c.requires.messages in
    let count = before.count in
    let total = all.count_is in
    let test = c.loop-i-test.true in
    let some : ¬ (HasNone (drop c.loop-i.start bytes)) = reads_next bytes before.messages all.messages _ all.rest (omega (arith, count, total, test)) before.reads all.reads in
    let whole = front_whole _ _ front some in
    c.in_default.not-Whole whole.0 whole.1

pub loop-i-init : goal.loop-i-init
loop-i-init g c = record {
  messages = [];
  count = refl;
  reads = refl;
  begun = omega arith;
  front = λ e. refl;
  served = λ outset history m fits. served_none g.H.HookHost c.args.server.now (said_so (seen_output c.args.output.now) c.args.tellings.now) c.args.moment outset history m fits;
  drawn = refl;
  left = fewer_suffice _ c.args.count (c.args.count - 0) (omega arith) c.requires.draws;
  len = omega arith;
  room = omega arith;
  ends_len = omega arith;
  ends_room = omega arith;
}

-- a target is no longer than its head
target_fits : (head : RequestHead) → length head.target ≤ length (print_request head)
unfolding print_request
target_fits head = simp length-append (omega arith)

-- a message's target is small
target_small : (f : Found) (bytes : List ℕ) (m : Message) {q : Asked} → q ≡ asked_of_message m → IsWholeAt bytes f m → length q.target ≤ 8192
target_small f bytes m asked at =
    let size = at.begins.good.size in
    let fits = target_fits m.head in
    let same = ap (λ (x : Asked). length x.target) asked in
    omega (arith, size, fits, same)

pub push-requires : goal.push-requires
push-requires g c =
    let before = c.loop-i.invariant in
    let message = c.in-Whole.ensures.1.0 in
    let asked : asked_of c.lend-request.result ≡ asked_of_message message = c.lend-request.ensures message c.in-Whole.ensures.1.1 in
    let short = (c.step-reply.ensures.short (target_small _ _ message asked c.in-Whole.ensures.1.1)).short in
    let len = before.len in
    let room = before.room in
    let test = c.loop-i-test.true in
    let enough = c.requires.room.bytes_fit in
    let ends_len = before.ends_len in
    let ends_room = before.ends_room in
    let ends_fit = c.requires.room.ends_fit in
    record { bytes_fit = omega (arith, short, len, room, test, enough); ends_fit = omega (arith, ends_len, ends_room, test, ends_fit) }

pub draw-draws-requires : goal.draw-draws-requires
draw-draws-requires g c = fewer_suffice _ (c.args.count - c.loop-i.i) 1 (omega (arith, c.loop-i-test.true)) c.loop-i.invariant.left

pub loop-i-preserved : goal.loop-i-preserved
loop-i-preserved g c =
    let bytes = c.args.bytes.now in
    let start = c.loop-i.start in
    let rest : List ℕ = drop start bytes in
    let f = c.in-Whole.found in
    let tail : List ℕ = take (length bytes - start) (drop start bytes) in
    let whole : IsFoundWithin tail f × ((m : Message) × IsWholeAt tail f m) = c.in-Whole.ensures in
    let message = whole.1.0 in
    let at : IsWholeAt rest f message = rw (← tail_is start bytes) whole.1.1 in
    let asked : asked_of c.lend-request.result ≡ asked_of_message message = c.lend-request.ensures message whole.1.1 in
    let here = length-drop start bytes in
    let fits : f.end ≤ length rest = rw (ap length (sym (tail_is start bytes))) whole.0.end in
    let before = c.loop-i.invariant in
    let begins : BeginsWithMessage rest message (drop (start + f.end) bytes) = rw (← drop-drop f.end start bytes) at.begins in
    let n = length-append before.messages (message ∷ []) in
    let count = before.count in
    let begun = before.begun in
    let len = before.len in
    let room = before.room in
    let more_room = c.push.ensures.room in
    let test = c.loop-i-test.true in
    let sources = g.S.DrawSource in
    let drawn : List Draws = draws_for sources c.args.source.now before.messages in
    let wants : c.demand_of.result ≡ demand_of (asked_of_message message) = c.demand_of.ensures ∙ ap demand_of asked in
    let d_is : c.draw-draws.result ≡ sources.draws (draws_behind sources c.args.source.now before.messages) (demand_of (asked_of_message message)) =
    c.draw-draws.ensures.value ∙ ap (λ (w : Demand). sources.draws c.loop-i.source w) wants ∙ ap (λ s. sources.draws s (demand_of (asked_of_message message))) before.drawn in
    let all_drawn = ap (λ (d : Draws). drawn ++ d ∷ []) d_is ∙ sym (draws_push sources c.args.source.now before.messages message) in
    record {
      messages = before.messages ++ message ∷ [];
      count = omega (arith, n, count);
      reads = reads_push bytes before.messages rest message (drop (start + f.end) bytes) before.reads begins;
      begun = omega (arith, fits, here, begun);
      front = λ e. absurd (omega (arith, e));
      served = λ outset history m fit.
          rw (← all_drawn, c.push.ensures.written, c.hear_some.ensures)
          (served_push g.H.HookHost c.args.server.now c.loop-i.server c.step-reply.new.self (said_so (seen_output c.args.output.now) c.args.tellings.now) (said_so (seen_output c.loop-i.output) c.loop-i.tellings) outset history m c.args.moment before.messages drawn message c.draw-draws.result c.step-reply.result (asked_of c.lend-request.result) asked
          (before.served outset history m fit) (rw c.interest.ensures at c.step-reply.ensures.replies));
      drawn =
          c.draw-draws.ensures.after ∙ ap (λ (w : Demand). sources.behind c.loop-i.source w) wants ∙ ap (λ s. sources.behind s (demand_of (asked_of_message message))) before.drawn
          ∙ sym (behind_push sources c.args.source.now before.messages message);
      left = suffices_behind _ _ c.args.count c.loop-i.i c.draw-draws.ensures.left before.left;
      len =
          (let grown = ap (λ (o : SeenOutput). length o.bytes) c.push.ensures.written in
          let parts = length-append c.loop-i.output.bytes.items (reply_bytes c.step-reply.result.reply) in
          let short = (c.step-reply.ensures.short (target_small f tail message asked whole.1.1)).short in
          omega (arith, len, grown, parts, short));
      room = omega (arith, room, more_room);
      ends_len = (let grown = ap (λ (o : SeenOutput). length o.ends) c.push.ensures.written in let parts = length-append c.loop-i.output.ends.items ((length c.loop-i.output.bytes.items + length (reply_bytes c.step-reply.result.reply)) ∷ []) in let before_len = before.ends_len in omega (arith, before_len, grown, parts));
      ends_room = (let before_room = before.ends_room in let more = c.push.ensures.ends_room in omega (arith, before_room, more));
    }

pub returns-clause-answered : goal.returns-clause-answered
returns-clause-answered g c =
    let before = c.loop-i.invariant in
    let test = c.loop-i-test.false in
    let le = c.loop-i.auto.i-end in
    let end : c.loop-i.i ≡ c.args.count = omega (arith, test, le) in
    let same = λ (messages : List Message) (first : AreFirst (first_requests c.args.bytes.now c.args.count c.args.moment) messages).
    reads_same c.args.bytes.now before.messages messages _ first.rest (before.count ∙ end ∙ sym first.count_is) before.reads first.reads in
    record {
      serves = λ messages first outset history m fits. rw (← (same messages first).0) (before.served outset history m fits);
      source_is = λ messages first. rw (← (same messages first).0) before.drawn;
    }
