-- A request that was sent, and the response that came.
use Rattle.std.proofs.Common.{◌≡◌, List, ℕ, [], ◌∷◌, ◌<◌, length, refl, Bool, true, arith}
use Rattle.std.proofs.lemmas.Bool.Decides.{nat_tests}
use Rattle.std.specs.Io.KnownBytes.{Appends}
use Rattle.std.specs.Prelude.{◌==◌, IfOk, Option, Result, Ok, Err}
use Rattle.http_call.specs.Answers.{Answers, begun, reading}
use Rattle.http_call.specs.Exchanged.{IsExchanged}
use Rattle.http_call.specs.Sent.{asked, spelled}
use Rattle.http_call.specs.declared.call.Caller.{Caller}
use Rattle.http_call.specs.declared.call.Request.{Request}
use Rattle.http_call.specs.declared.call.Response.{Response}
use Rattle.http_call.specs.declared.fault.CallFault.{CallFault}

pub nothing_left : (items : List ℕ) (empty : Bool) → empty ≡ (length items == 0) → empty ≡ true → items ≡ []
nothing_left [] empty is holds = refl
nothing_left (one ∷ more) empty is holds =
    let some : 0 < length (one ∷ more) = omega arith in
    absurd (grind (arith, nat_tests, is, holds, some))

pub exchanged : {S : Type 0} (contents remaining : S → Option (List ℕ)) (request : Request) (old mid new : Caller S) (r : Result Response CallFault)
    → Appends (contents old.stream) (contents mid.stream) (spelled old.client request) → mid.client ≡ asked old.client request → mid.unread.items ≡ []
    → IfOk r (λ response. Answers (remaining mid.stream) (remaining new.stream) (begun mid) (reading new response)) → IfOk r (IsExchanged contents remaining request old new)
exchanged contents remaining request old mid new (Ok response) bytes client unread answers =
    record { sent = mid; bytes = bytes; client = client; unread = unread; answers = answers }
exchanged contents remaining request old mid new (Err fault) bytes client unread answers = tt
