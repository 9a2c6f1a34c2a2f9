-- Laws of client authentication: who is authenticated has sent a client's identifier and secret.
use Rattle.std.proofs.Common.{◌≡◌, ◌≤◌, ℕ, ◌-◌, List, length, Bool, true, false, if◌then◌else◌, arith, Option, Some, None, is_some, Ok, Err, codes}
use Rattle.std.specs.Option.{ok_or}
use Rattle.std.proofs.lemmas.Bool.Decides.{nat_tests}
use Rattle.std.proofs.lemmas.Option.{slice_get_within}
use Rattle.params.specs.Form.{value_sent}
use Rattle.registry_json.specs.Faults.{◌>>=◌}
use Rattle.clients.specs.ClientRecord.{ClientRecord}
use Rattle.authentication.specs.Authentication.{AreCredentialsOf, basic_credentials, identified, authenticated, IsSender}
use Rattle.clients.specs.RegistryLaws.{then_ok, option_ok}
use Rattle.authentication.specs.declared.authentication.AuthFault.TheVariants.{NoClient, TwoMethods}

identified-from : (clients : List ClientRecord) (named : Option (List ℕ)) (id secret : List ℕ) (number : ℕ)
    → identified clients named id secret ≡ Ok number → AreCredentialsOf clients number id secret
identified-from clients named id secret number ok = grind (arith, ok)

-- an authenticated client's identifier and secret were sent
pub authenticated-from : (clients : List ClientRecord) (header : Option (List ℕ)) (params : List (List ℕ × List ℕ)) (number : ℕ)
    → authenticated clients header params ≡ Ok number → IsSender clients header params number
authenticated-from clients None params number ok =
    let id = then_ok (ok_or (value_sent (codes "client_id") params) NoClient) _ number ok in
    let secret = then_ok (ok_or (value_sent (codes "client_secret") params) NoClient) _ number id.2 in (
      id.0,
      secret.0,
      (option_ok (value_sent (codes "client_id") params) NoClient id.0 id.1, option_ok (value_sent (codes "client_secret") params) NoClient secret.0 secret.1),
      identified-from clients None id.0 secret.0 number secret.2,
    )
authenticated-from clients (Some header) params number ok = by (is_some (value_sent (codes "client_secret") params)) ok
  where
    by : (beside : Bool) → (if beside then Err TwoMethods else (basic_credentials header >>= (λ sent. identified clients (value_sent (codes "client_id") params) sent.0 sent.1))) ≡ Ok number
        → IsSender clients (Some header) params number
    by true is = cc is
    by false is =
        let sent = then_ok (basic_credentials header) (λ sent. identified clients (value_sent (codes "client_id") params) sent.0 sent.1) number is in
        (sent.0.0, sent.0.1, sent.1, identified-from clients (value_sent (codes "client_id") params) sent.0.0 sent.0.1 number sent.2)

-- and it is listed
pub authenticated-listed : (clients : List ClientRecord) (header : Option (List ℕ)) (params : List (List ℕ × List ℕ)) (number : ℕ)
    → authenticated clients header params ≡ Ok number → number ≤ length clients
authenticated-listed clients header params number ok =
    let w = authenticated-from clients header params number ok in
    let right = w.3.1 in
    let within = slice_get_within clients (number - 1) in
    grind (arith, nat_tests, right, within)
