use Rattle.std.proofs.Common.{false, refl, rules}
use Rattle.std.specs.Prelude.{option_map}
use Rattle.desk.specs.Candidates.{text_of}
use Rattle.desk.specs.Replies.{IsNotBegunReply, IsRefusalReply, IsUnavailable}
use Rattle.desk.specs.declared.reply.Refusal.TheVariants as refusal
use Rattle.daemon.specs.Reloading.{IsNoState, begins, no_key, no_state, not_begun, not_now}
use Rattle.daemon.proofs.Resuming.{of_text}
use Rattle.daemon.proofs.reloads.Reloads.ask.Goals as goal

pub returns-then-not-with_key : goal.returns-then-not-with_key
returns-then-not-with_key g c = no_key (search rules) (record {
  reply = option_map text_of c.refusal_reply.result;
  so = of_text (IsRefusalReply refusal.NoKey) c.refusal_reply.result c.refusal_reply.ensures;
  noted = c.refuse.ensures.noted;
  same = c.refuse.ensures.same;
})

pub returns-in_default : goal.returns-in_default
returns-in_default g c = no_state (search rules) (search rules) (record {
  reply = option_map text_of c.refused.result;
  so = of_text IsNoState c.refused.result c.refused.ensures;
  noted = c.refuse-in_default.ensures.noted;
  same = c.refuse-in_default.ensures.same;
})

pub returns-then-is_some : goal.returns-then-is_some
returns-then-is_some g c = not_now (search rules) (search rules) (search rules) (record {
  reply = option_map text_of c.refusal_reply-then-is_some.result;
  so = of_text IsUnavailable c.refusal_reply-then-is_some.result c.refusal_reply-then-is_some.ensures;
  noted = c.refuse-then-is_some.ensures.noted;
  same = c.refuse-then-is_some.ensures.same;
})

pub returns-in-Ok : goal.returns-in-Ok
returns-in-Ok g c = begins (record {
  key = search rules;
  path = search rules;
  first = search rules;
  wanted = record { asker = c.args.asker; heirs = c.in-Ok.heirs; told = false };
  untold = refl;
  heirs = c.in-Ok.ensures;
  same = refl;
})

pub returns-in-Err : goal.returns-in-Err
returns-in-Err g c = not_begun (search rules) (search rules) (search rules) c.in-Err.why (record {
  reply = option_map text_of c.reply_of.result;
  so = of_text (IsNotBegunReply c.in-Err.why) c.reply_of.result c.reply_of.ensures;
  noted = c.refuse-in-Err.ensures.noted;
  same = c.refuse-in-Err.ensures.same;
})
