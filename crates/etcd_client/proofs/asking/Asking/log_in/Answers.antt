use Rattle.std.proofs.Common.{rules, ◌≡◌, ◌∙◌, inl, inr, List, ℕ, refl, ap, true, false}
use Rattle.std.specs.Prelude.{Err, Some, option_map, is_some, string_bytes}
use Rattle.etcd_json.specs.Requests.{login_text}
use Rattle.etcd_client.specs.Tries.{User, asker, user_of}
use Rattle.etcd_client.specs.declared.members.AskFault.TheVariants.{Memory}
use Rattle.etcd_client.proofs.Tried.{no_token, some_token, with_words}
use Rattle.etcd_client.proofs.asking.Asking.log_in.Goals as goal

pub returns-then-is_some-clause-known : goal.returns-then-is_some-clause-known
returns-then-is_some-clause-known g c =
    let is : is_some c.args.self.now.token ≡ true = search rules in
    inl (inr (some_token c.args.self.now.token is), refl)

pub returns-in_default-clause-known : goal.returns-in_default-clause-known
returns-in_default-clause-known g c =
    inl (inl (ap (option_map user_of) c.in_default.is), refl)

pub returns-in_err-body-clause-known : goal.returns-in_err-body-clause-known
returns-in_err-body-clause-known g c =
    let is : c.from_residual.result ≡ Err Memory = search rules in
    rw is (inl (refl, refl))

pub returns-clause-known : goal.returns-clause-known
returns-clause-known g c =
    let old = c.args.self.now in
    let new = c.ask_token.new.self in
    let user : User = record { name = string_bytes c.in-Some.name; password = string_bytes c.in-Some.password } in
    let none : is_some old.token ≡ false = search rules in
    let is : option_map user_of old.access.user ≡ Some user = ap (option_map user_of) c.in-Some.is in
    let words : c.deref-3.result.now ≡ login_text user.name user.password = c.deref-3.ensures.value ∙ c.in_ok-body.ensures
    ∙ ap (λ (n : List ℕ). login_text n c.deref-2.result.now) c.deref.ensures ∙ ap (λ (p : List ℕ). login_text user.name p) c.deref-2.ensures in
    with_words user c.deref-3.result.now c.ask_token.result (asker old.access old.at old.token old.log.log.tries) (asker new.access new.at new.token new.log.log.tries)
    (is, no_token old.token none) words c.ask_token.ensures.token
