use Rattle.std.proofs.Common.{rules, ◌≡◌, ◌∙◌, ◌∷◌, ◌*◌, inl, inr, refl, ap, length, false}
use Rattle.std.specs.Duration.{as_nanos}
use Rattle.std.specs.Prelude.{Option, None, Err, Ok, String, is_err, option_map, string_bytes}
use Rattle.std.specs.Global.{Global}
use Rattle.etcd_client.specs.Connections.{text_of_token}
use Rattle.etcd_client.specs.Tries.{Asker, Came, Try, asker, came_in, limit_of, try_by}
use Rattle.etcd_client.specs.declared.call_log.Attempt.{Attempt}
use Rattle.etcd_client.specs.declared.call_log.CallLog.{CallLog}
use Rattle.etcd_client.specs.declared.members.AskFault.TheVariants.{Unclear}
use Rattle.etcd_client.proofs.Connected.{if_not_err, with_token}
use Rattle.etcd_client.proofs.Tried.{same_asker, sent_once, tried_by}
use Rattle.etcd_client.proofs.asking.Asking.send.Goals as goal

pub returns-in_err-caller-clause-sent : goal.returns-in_err-caller-clause-sent
returns-in_err-caller-clause-sent g c =
    let old = c.args.self.now in
    let line = c.line.new.self in
    let fault : c.from_residual.result ≡ Err c.in_err-caller.field-0.0 = search rules in
    inr (
      fault ∙ ap (λ f. Err f) c.in_err-caller.ensures.unclear,
      same_asker old.access line.access old.at line.at old.token line.token old.log.log.tries line.log.log.tries
          c.line.ensures.access c.line.ensures.at c.line.ensures.token (ap (λ (l : CallLog). l.log.tries) c.line.ensures.log),
    )

pub returns-then-is_err-clause-sent : goal.returns-then-is_err-clause-sent
returns-then-is_err-clause-sent g c =
    let old = c.args.self.now in
    let line = c.line.new.self in
    inr (
      refl,
      same_asker old.access line.access old.at line.at old.token line.token old.log.log.tries line.log.log.tries
          c.line.ensures.access c.line.ensures.at c.line.ensures.token (ap (λ (l : CallLog). l.log.tries) c.line.ensures.log),
    )

pub returns-in_err-response-clause-sent : goal.returns-in_err-response-clause-sent
returns-in_err-response-clause-sent g c =
    let old = c.args.self.now in
    let line = c.line.new.self in
    let by : Asker = (asker old.access old.at old.token old.log.log.tries) in
    let attempt : Attempt = record { member = line.at; path = c.args.path; body = c.args.body; limit = c.limit_of-limit.result } in
    let known : text_of_token c.as_deref-token.result ≡ by.token = c.as_deref-token.ensures.value ∙ ap (λ (t : Option (String Global)). option_map string_bytes t) c.line.ensures.token in
    let within : attempt.limit ≡ limit_of (length attempt.body.now) = c.limit_of-limit.ensures in
    let is : c.from_residual-in_err-response.result ≡ Err Unclear = search rules in
    let tried = c.in_err-response.ensures.tries ∙ ap (λ (t : Try). t ∷ line.log.log.tries) (tried_by by (text_of_token c.as_deref-token.result) attempt None c.line.ensures.at known within)
    ∙ ap (λ (l : CallLog). try_by by c.args.path.now c.args.body.now None ∷ l.log.tries) c.line.ensures.log in
    rw is (inl (
      None,
      sent_once old.access line.access old.at line.at old.token line.token old.log.log.tries c.ask_over.new.log.log.tries c.args.path.now c.args.body.now None
          c.line.ensures.access c.line.ensures.at c.line.ensures.token tried,
      refl,
    ))

pub returns-clause-sent : goal.returns-clause-sent
returns-clause-sent g c =
    let old = c.args.self.now in
    let line = c.line.new.self in
    let by : Asker = (asker old.access old.at old.token old.log.log.tries) in
    let attempt : Attempt = record { member = line.at; path = c.args.path; body = c.args.body; limit = c.limit_of-limit.result } in
    let known : text_of_token c.as_deref-token.result ≡ by.token = c.as_deref-token.ensures.value ∙ ap (λ (t : Option (String Global)). option_map string_bytes t) c.line.ensures.token in
    let within : attempt.limit ≡ limit_of (length attempt.body.now) = c.limit_of-limit.ensures in
    let came : Option Came = came_in (Ok c.in_ok-response.response) in
    let tried = c.in_ok-response.ensures.tries ∙ ap (λ (t : Try). t ∷ line.log.log.tries) (tried_by by (text_of_token c.as_deref-token.result) attempt came c.line.ensures.at known within)
    ∙ ap (λ (l : CallLog). try_by by c.args.path.now c.args.body.now came ∷ l.log.tries) c.line.ensures.log in
    inl (
      came,
      sent_once old.access line.access old.at line.at old.token line.token old.log.log.tries c.ask_over.new.log.log.tries c.args.path.now c.args.body.now came
          c.line.ensures.access c.line.ensures.at c.line.ensures.token tried,
      refl,
    )

pub returns-clause-over : goal.returns-clause-over
returns-clause-over g c =
    let old = c.args.self.now in
    let line = c.line.new.self in
    let by : Asker = (asker old.access old.at old.token old.log.log.tries) in
    let attempt : Attempt = record { member = line.at; path = c.args.path; body = c.args.body; limit = c.limit_of-limit.result } in
    let known : text_of_token c.as_deref-token.result ≡ by.token = c.as_deref-token.ensures.value ∙ ap (λ (t : Option (String Global)). option_map string_bytes t) c.line.ensures.token in
    let within : attempt.limit ≡ limit_of (length attempt.body.now) = c.limit_of-limit.ensures in
    let good : is_err c.begin.result ≡ false = search rules in
    let timed = if_not_err c.begin.result _ good c.begin.ensures.limit in
    let caller = record c.in_ok-caller.caller { stream = c.begin.new.self } in
    record {
      attempt = attempt;
      member_is = c.line.ensures.at;
      path_is = refl;
      body_is = refl;
      old = caller;
      new = c.ask_over.new.caller;
      has_time = ap as_nanos timed ∙ c.from_millis.ensures ∙ ap (λ n. n * 1000000) within;
      is_kept = refl;
      asked = with_token _ _ _ _ attempt _ _ _ known c.in_ok-response.ensures.asked;
    }
