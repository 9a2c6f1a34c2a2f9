-- What was asked over one connection.
use Rattle.std.proofs.Common.{◌≡◌, List, ℕ, false, subst}
use Rattle.std.specs.Prelude.{IfOk, OnOk, Option, Result, Ok, Err, is_err}
use Rattle.http_call.specs.Exchanged.{IsExchanged}
use Rattle.http_call.specs.declared.call.Caller.{Caller}
use Rattle.http_call.specs.declared.call.Request.{Request}
use Rattle.http_call.specs.declared.call.Response.{Response}
use Rattle.http_call.specs.declared.fault.CallFault.{CallFault}
use Rattle.etcd_client.specs.Connections.{IsAskedOver, text_of_token}
use Rattle.etcd_client.specs.declared.call_log.Attempt.{Attempt}

pub asked_over : {S : Type 0} (contents remaining : S → Option (List ℕ)) (token : Option (List ℕ)) (attempt : Attempt) (request : Request) (old new : Caller S)
    (r : Result Response CallFault) → text_of_token request.token ≡ token → request.path.now ≡ attempt.path.now → request.body.now ≡ attempt.body.now
    → IfOk r (IsExchanged contents remaining request old new) → IfOk r (IsAskedOver contents remaining token attempt old new)
asked_over contents remaining token attempt request old new (Ok response) known path body is =
    record { request = request; token_is = known; path_is = path; body_is = body; exchanged = is }
asked_over contents remaining token attempt request old new (Err fault) known path body is = tt

pub with_token : {S : Type 0} (contents remaining : S → Option (List ℕ)) (token token' : Option (List ℕ)) (attempt : Attempt) (old new : Caller S) (response : Response)
    → token ≡ token' → IsAskedOver contents remaining token attempt old new response → IsAskedOver contents remaining token' attempt old new response
with_token contents remaining token token' attempt old new response is asked =
    subst (λ (t : Option (List ℕ)). IsAskedOver contents remaining t attempt old new response) is asked

pub if_not_err : {A E : Type 0} (r : Result A E) (P : Type 0) → is_err r ≡ false → OnOk r P → P
if_not_err (Ok a) P is so = so
if_not_err (Err e) P is so = absurd cc
