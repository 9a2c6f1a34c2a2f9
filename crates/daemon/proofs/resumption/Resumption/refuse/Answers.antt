use Rattle.std.proofs.Common.{◌≡◌, None, refl, rules}
use Rattle.std.specs.Prelude.{option_map}
use Rattle.desk.specs.Candidates.{text_of}
use Rattle.desk.specs.Replies.{IsStateReply}
use Rattle.daemon.proofs.Resuming.{of_text}
use Rattle.daemon.proofs.resumption.Resumption.refuse.Goals as goal

pub returns-in_default : goal.returns-in_default
returns-in_default c = record { reply = None; refused = tt; noted = search rules; asker_is = search rules }

pub returns : goal.returns
returns c = record {
  reply = option_map text_of c.state_reply-reply.result;
  refused = of_text (IsStateReply c.args.fault.now) c.state_reply-reply.result c.state_reply-reply.ensures;
  noted = λ _. c.answer.ensures;
  asker_is = search rules;
}
