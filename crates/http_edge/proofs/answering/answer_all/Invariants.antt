use Rattle.std.proofs.Common.{◌≡◌, ◌≤◌, ◌+◌, ◌*◌, ◌-◌, List, drop, length, vec_len, vec_capacity}
use Rattle.http_edge.proofs.Names.{Message, ReadsMessages, ServesMessages, drawn_for, replying, said_so, seen_output, draws_behind, Suffices}
use Rattle.http_edge.proofs.answering.answer_all.Given as goal

abbrev pub invariant-loop-i : goal.invariant-loop-i
invariant-loop-i g l = record {
  messages : List Message;
  count : length messages ≡ l.i;
  reads : ReadsMessages l.bytes messages (drop l.start l.bytes);
  begun : l.start ≤ length l.bytes;
  front : l.i ≡ 0 → l.start ≡ 0;
  served : ServesMessages g.H.HookHost (replying l.fn.server (said_so (seen_output l.fn.output) l.fn.tellings)) (drawn_for g.S.DrawSource l.fn.source messages l.moment) (replying l.server (said_so (seen_output l.output) l.tellings));
  drawn : l.source ≡ draws_behind g.S.DrawSource l.fn.source messages;
  left : Suffices (g.S.DrawSource.supply l.source) (l.fn.count - l.i);
  len : vec_len l.output.bytes ≤ vec_len l.fn.output.bytes + l.i * 32768;
  room : vec_capacity l.fn.output.bytes ≤ vec_capacity l.output.bytes;
  ends_len : vec_len l.output.ends ≤ vec_len l.fn.output.ends + l.i;
  ends_room : vec_capacity l.fn.output.ends ≤ vec_capacity l.output.ends;
}
