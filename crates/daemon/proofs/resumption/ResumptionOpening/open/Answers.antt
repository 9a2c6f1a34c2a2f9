use Rattle.std.proofs.Common.{◌≡◌, None, refl, rules}
use Rattle.std.specs.Prelude.{option_map}
use Rattle.desk.specs.Candidates.{text_of}
use Rattle.desk.specs.Replies.{IsGrantedReply}
use Rattle.daemon.proofs.Resuming.{of_text}
use Rattle.daemon.proofs.resumption.ResumptionOpening.open.Goals as goal

pub returns-in_default : goal.returns-in_default
returns-in_default c = record {
  done_is = refl;
  reply = None;
  granted = tt;
  noted = search rules;
  nobody = λ _. refl;
  asker_is = search rules;
}

pub returns : goal.returns
returns c = record {
  done_is = refl;
  reply = option_map text_of c.granted_reply-reply.result;
  granted = of_text (IsGrantedReply c.args.self.now.reloaded) c.granted_reply-reply.result c.granted_reply-reply.ensures;
  noted = λ _. c.answer.ensures;
  nobody = search rules;
  asker_is = search rules;
}
