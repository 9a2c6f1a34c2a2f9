use Rattle.std.proofs.Common.{rules, ◌≡◌, Result, Ok, Err, ℕ, List, false, codes}
use Rattle.std.specs.Prelude.{is_some}
use Rattle.std.specs.Cow.{cow_str_bytes}
use Rattle.params.specs.Form.{value_sent}
use Rattle.authentication.specs.Authentication.{is_basic, basic_text, basic_credentials, identified}
use Rattle.authentication.specs.declared.authentication.AuthFault.{AuthFault}
use Rattle.authentication.proofs.Headers.{answered, refused, text_basic, unread}
use Rattle.authentication.proofs.authentication.by_header.Goals as goal

pub returns-in_err-sent : goal.returns-in_err-sent
returns-in_err-sent c =
    let none : is_some (value_sent (codes "client_secret") c.args.params.now) ≡ false = search rules in
    let text : basic_text c.args.header.now ≡ Ok c.deref.result.now = search rules in
    let next : List ℕ × List ℕ → Result ℕ AuthFault = λ sent. identified c.args.registry.now.clients (value_sent (codes "client_id") c.args.params.now) sent.0 sent.1 in
    let is : c.from_residual-in_err-sent.result ≡ Err c.in_err-sent.field-0.0 = search rules in
    refused _ (is_basic c.args.header.now) (basic_credentials c.args.header.now) next c.in_err-sent.field-0.0 _ none is (unread (is_basic c.args.header.now) (basic_text c.args.header.now) c.deref.result.now c.in_err-sent.field-0.0 (text_basic c.args.header.now c.deref.result.now text) text c.in_err-sent.ensures)

pub returns : goal.returns
returns c =
    let none : is_some (value_sent (codes "client_secret") c.args.params.now) ≡ false = search rules in
    let text : basic_text c.args.header.now ≡ Ok c.deref.result.now = search rules in
    let next : List ℕ × List ℕ → Result ℕ AuthFault = λ sent. identified c.args.registry.now.clients (value_sent (codes "client_id") c.args.params.now) sent.0 sent.1 in
    let id = cow_str_bytes c.in_ok-sent.sent.id in
    let secret = cow_str_bytes c.in_ok-sent.sent.secret in
    let is : c.identified.result ≡ identified c.args.registry.now.clients (value_sent (codes "client_id") c.args.params.now) id secret = search rules in
    answered _ _ (basic_credentials c.args.header.now) next id secret c.identified.result none (rw text c.in_ok-sent.ensures) is
