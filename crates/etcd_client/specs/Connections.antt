-- What is asked over one connection.
use Rattle.std.specs.Prelude.{◌≡◌, ◌*◌, List, ℕ, Option, Some, length, option_map}
use Rattle.std.specs.Borrow.{Bor}
use Rattle.http_call.specs.Exchanged.{IsExchanged}
use Rattle.http_call.specs.declared.call.Caller.{Caller}
use Rattle.http_call.specs.declared.call.Request.{Request}
use Rattle.http_call.specs.declared.call.Response.{Response}
use Rattle.etcd_client.specs.Tries.{Asker, limit_of}
use Rattle.etcd_client.specs.declared.call_log.Attempt.{Attempt}

abbrev pub text_of_token : Option (Bor (List ℕ)) → Option (List ℕ)
text_of_token token = option_map (λ t. t.now) token

-- This was sent, with this token, and the response is what came then.
pub record IsAskedOver {S : Type 0} (contents remaining : S → Option (List ℕ)) (token : Option (List ℕ)) (attempt : Attempt) (old new : Caller S) (response : Response) : Type 0 where
  pub request : Request
  pub token_is : text_of_token request.token ≡ token
  pub path_is : request.path.now ≡ attempt.path.now
  pub body_is : request.body.now ≡ attempt.body.now
  pub exchanged : IsExchanged contents remaining request old new response

-- what a connection holds and gives, and for how many nanoseconds it is used
pub record Line (S : Type 0) : Type 0 where
  pub contents : S → Option (List ℕ)
  pub remaining : S → Option (List ℕ)
  pub limit : S → ℕ

abbrev pub line_of : {S : Type 0} → (S → Option (List ℕ)) → (S → Option (List ℕ)) → (S → ℕ) → Line S
line_of contents remaining limit = record { contents = contents; remaining = remaining; limit = limit }

-- by whom it was sent over a connection that is kept, and that had its time
pub record IsOver {S : Type 0} (line : Line S) (by : Asker) (path body : List ℕ) (kept : Option (Caller S)) (response : Response) : Type 0 where
  pub attempt : Attempt
  pub member_is : attempt.member ≡ by.at
  pub path_is : attempt.path.now ≡ path
  pub body_is : attempt.body.now ≡ body
  pub old : Caller S
  pub new : Caller S
  pub has_time : line.limit old.stream ≡ limit_of (length body) * 1000000
  pub is_kept : kept ≡ Some new
  pub asked : IsAskedOver line.contents line.remaining by.token attempt old new response
