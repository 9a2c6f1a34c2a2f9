-- Replies are short where their texts are.
use Rattle.std.proofs.Common.{◌≡◌, ◌≤◌, true, ℕ, List, Ok, Err, refl, length, arith}
use Rattle.answers.specs.Names.{ErrorName, InvalidRequest}
use Rattle.answers.proofs.Names.{Result, IfOk, Reply, plain, sent_back, Failure, Written, in_writing, error_text, IsSmallReply, is_reply_status, status_of}
use Rattle.std.specs.Prelude.{codes, Option}
use Rattle.messages.specs.SmallLaws.{small_bytes, small_sent_back}
use Rattle.answers.specs.Short.{IsShortReply, IsShortReturn}

-- a reply that is written of a small one
pub written_short : (reply : Reply) (text : Written) → IsSmallReply reply → text ≡ in_writing reply → IsShortReply text
written_short reply text small is = record { short = rw is (small_bytes reply small) }

-- a reply, as it is made
pub if_short : {E : Type 0} (made : Result Written E) (reply : Reply) → IsSmallReply reply → IfOk made (λ text. text ≡ in_writing reply) → IfOk made IsShortReply
if_short (Ok text) reply small is = written_short reply text small is
if_short (Err e) reply small is = tt

failure_status : (error : ErrorName) → is_reply_status (status_of error) ≡ true
failure_status InvalidRequest = refl
failure_status _ = refl

pub failure_small : (error : ErrorName) → IsSmallReply (plain (status_of error) (Failure error))
failure_small error = record { status = failure_status error; short = tt }

error_short : (error : ErrorName) → length (error_text error) ≤ 40
error_short InvalidRequest = omega arith
error_short _ = omega arith

-- the user agent is sent back with an error
pub turned_small : (uri : List ℕ) (error : ErrorName) (state : Option (List ℕ)) → IsShortReturn uri state → IsSmallReply (sent_back uri (codes "error") (error_text error) state)
turned_small uri error state short = let text = error_short error in small_sent_back uri (codes "error") (error_text error) state short.short_uri (omega (arith, text)) short.short_state

-- or with a code
pub sent_small : (uri text : List ℕ) (state : Option (List ℕ)) → length text ≤ 64 → IsShortReturn uri state → IsSmallReply (sent_back uri (codes "code") text state)
sent_small uri text state few short = small_sent_back uri (codes "code") text state short.short_uri (omega (arith, few)) short.short_state
