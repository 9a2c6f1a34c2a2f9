-- Replies of the server's own are short, and so is a state that came with a target.
use Rattle.std.proofs.Common.{◌≡◌, ◌≤◌, ◌+◌, ◌∙◌, ap, subst, true, ℕ, List, Ok, Err, Option, length, length-drop, arith, ◌==◌}
use Rattle.endpoints.proofs.Names.{IfOk, position_or_len, read_params, ErrorName, plain, Empty, Failure, query_of, Written, in_writing, refuse, status_of}
use Rattle.endpoints.proofs.Names.{Hosting, Parameters, SeenServer, Halt, Refuse, NoMemory, HasShortState}
use Rattle.endpoints.specs.RulingsParts.{EndsBy, Heeding, IsToldBy}
use Rattle.telling.specs.Sought.{upshot_of}
use Rattle.telling.specs.declared.telling.Stepped.{Stepped}
use Rattle.telling.specs.declared.telling.Upshot.{Upshot}
use Rattle.telling.specs.declared.told.Told.{Told}
use Rattle.std.specs.Prelude.{Result, codes}
use Rattle.params.specs.FormLaws.{length-value_of}
use Rattle.messages.specs.Small.{IsSmallReply, is_reply_status}
use Rattle.answers.proofs.Sizes.{written_short, failure_small}
use Rattle.answers.specs.Short.{IsShortReply, state_limit}

pub bare_small : (status : ℕ) → is_reply_status status ≡ true → IsSmallReply (plain status Empty)
bare_small status is = record { status = is; short = tt }

-- what ended a request is told in a short reply
pub ended_short : {H E : Type 0} (hosting : Hosting H) (server : SeenServer H) (heeding : Heeding) (made : Result Stepped E) (halt : Halt) →
    IfOk made (EndsBy hosting server heeding halt) → IfOk made (λ stepped. IsShortReply stepped.reply)
ended_short hosting server heeding (Ok stepped) (Refuse error) is = is.1
ended_short hosting server heeding (Ok stepped) NoMemory is = absurd is
ended_short hosting server heeding (Err e) halt is = tt

-- what ended it is answered, and told
pub ended : {H : Type 0} (hosting : Hosting H) (server : SeenServer H) (heeding : Heeding) (halt : Halt) (error : ErrorName) (status : ℕ) (reply : Written) (upshot : Upshot) (told : Option Told) →
    halt ≡ Refuse error → status ≡ status_of error → reply ≡ in_writing (plain status (Failure error)) → upshot ≡ upshot_of (refuse error) →
    IsToldBy hosting server heeding upshot told → EndsBy hosting server heeding halt (record { reply = reply; told = told })
ended hosting server heeding halt error status reply upshot told refused by made is is_told =
    let written : reply ≡ in_writing (plain (status_of error) (Failure error)) = made ∙ ap (λ (s : ℕ). in_writing (plain s (Failure error))) by in
    rw refused (written, written_short _ reply (failure_small error) written, subst (λ (u : Upshot). IsToldBy hosting server heeding u told) is is_told)

-- the state came from the target
pub state_short : (target : List ℕ) (params : Parameters) → read_params (query_of target) ≡ Ok params → length target ≤ state_limit → HasShortState params
state_short target params read short =
    let within = length-value_of (query_of target) (codes "state") in
    let less = length-drop (position_or_len (λ b. b == 63) target + 1) target in
    grind (arith, within, less, read, short)
