-- POST /owners/end: an owner leaves, the operator says so
use Rattle.std.specs.Prelude.{ℕ, List, Option, option_and_then, codes, length}
use Rattle.endpoints.specs.Names.{value_sent, InvalidRequest, Asked, plain, Outcome, need, refuse, with_form, Parameters, Setting}
use Rattle.clients.specs.Gateway.{number_in}
use Rattle.consent.specs.History.{families_of, consents_of, withdrawals}
use Rattle.messages.specs.Reply.{ended_body}
use Rattle.endpoints.specs.HookPaths.{with_operator}

-- the number of the owner that the form names
abbrev pub owner_asked : Parameters → Option ℕ
owner_asked params = option_and_then number_in (value_sent (codes "owner") params)

-- the owner withdraws its consent from each client: so all that a code of it gave ends. Told is how much lived before
abbrev pub owner_ended : Setting → ℕ → Outcome
owner_ended setting owner =
    let clients = length setting.rules.clients in
    record {
      reply = plain 200 (ended_body (families_of setting.history owner setting.moment) (consents_of setting.history owner clients));
      changes = withdrawals owner clients;
    }

abbrev pub end_owner : Setting → Asked → Outcome
end_owner setting asked =
    -- 1. the operator
    with_operator setting.rules asked
    (with_form asked (λ params.
    -- 2. the owner's number
    need (owner_asked params) (refuse InvalidRequest) (λ owner.
    owner_ended setting owner)))
