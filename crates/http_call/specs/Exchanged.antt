-- A request and its response on one connection.
use Rattle.std.specs.Prelude.{◌≡◌, List, ℕ, [], Option}
use Rattle.std.specs.Io.KnownBytes.{Appends}
use Rattle.http_call.specs.Answers.{Answers, begun, reading}
use Rattle.http_call.specs.Sent.{asked, spelled}
use Rattle.http_call.specs.declared.call.Caller.{Caller}
use Rattle.http_call.specs.declared.call.Request.{Request}
use Rattle.http_call.specs.declared.call.Response.{Response}

-- This request was sent, word for word, where nothing was left of what had come before; and the response is what came then, read to its end.
pub record IsExchanged {S : Type 0} (contents remaining : S → Option (List ℕ)) (request : Request) (old new : Caller S) (response : Response) : Type 0 where
  pub sent : Caller S
  pub bytes : Appends (contents old.stream) (contents sent.stream) (spelled old.client request)
  pub client : sent.client ≡ asked old.client request
  pub unread : sent.unread.items ≡ []
  pub answers : Answers (remaining sent.stream) (remaining new.stream) (begun sent) (reading new response)
