use Rattle.std.proofs.Common.{rules, ◌≡◌, ◌∙◌, inl, inr, refl, sym, ap}
use Rattle.std.specs.Prelude.{Err, string_bytes}
use Rattle.etcd_json.specs.Replies.{login_told}
use Rattle.etcd_client.specs.Tries.{asker}
use Rattle.etcd_client.specs.Told.{unread_by}
use Rattle.etcd_client.proofs.Tried.{no_token_in}
use Rattle.etcd_client.proofs.asking.Asking.ask_token.Goals as goal

pub returns-in_err-text-clause-token : goal.returns-in_err-text-clause-token
returns-in_err-text-clause-token g c =
    let fault = c.in_err-text.field-0.0 in
    let is : c.from_residual.result ≡ Err fault = search rules in
    rw is (inl c.in_err-text.ensures.once)

pub returns-in_err-token-clause-token : goal.returns-in_err-token-clause-token
returns-in_err-token-clause-token g c =
    let unread = c.in_err-token.field-0.0 in
    let is : c.from_residual-in_err-token.result ≡ Err (unread_by unread) = search rules in
    rw is (inr (c.in_ok-text.text, c.in_ok-text.ensures.once, no_token_in c.in_ok-text.text unread _ (sym (ap login_told c.deref.ensures.value)) c.in_err-token.ensures))

pub returns-clause-token : goal.returns-clause-token
returns-clause-token g c =
    let mid = c.ask_once.new.self in
    record {
      text = c.in_ok-text.text;
      token = string_bytes c.in_ok-token.token;
      asked = (asker mid.access mid.at mid.token mid.log.log.tries);
      once = c.in_ok-text.ensures.once;
      told = sym (ap login_told c.deref.ensures.value) ∙ c.in_ok-token.ensures;
      is = refl;
    }
