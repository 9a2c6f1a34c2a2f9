-- How requests are counted.
use Rattle.std.specs.Prelude.{ℕ, ◌+◌, ◌-◌, ◌^◌, ◌==◌, min, if◌then◌else◌, slice_index_or, slice_set, Option, Some, None}
use Rattle.answers.specs.Names.{Answer, Want, Memory, StoreRoom, ClientRoom, FreshDraw, ConsentRoom, Endpoint}
use Rattle.answers.specs.declared.answer.Answer.TheVariants as answer
use Rattle.answers.specs.Paths.{place_of}
use Rattle.answers.specs.declared.tally.Asked.{Asked}
use Rattle.answers.specs.declared.tally.Replied.{Replied}
use Rattle.answers.specs.declared.tally.Wanted.{Wanted}
use Rattle.answers.specs.declared.tally.Tally.{Tally}
use Rattle.answers.specs.declared.tally.Cause.{Cause}
use Rattle.answers.specs.declared.tally.Cause.TheVariants.{Wants, Denied}

-- a count, which stops at the greatest number
abbrev pub one_more : ℕ → ℕ
one_more count = min (count + 1) (2 ^ 64 - 1)

-- what an answer tells of why it is given
abbrev pub cause_of : Answer → Option Cause
cause_of (answer.Unavailable want) = Some (Wants want)
cause_of (answer.Denied error) = Some Denied
cause_of other = None

-- how many requests there were at the endpoint
abbrev pub count_at : Asked → Endpoint → ℕ
count_at asked endpoint = slice_index_or asked.counts (place_of endpoint) 0

-- one more request at the endpoint, or at a path of none
abbrev pub asked_at : Asked → Option Endpoint → Asked
asked_at asked (Some endpoint) =
    record asked { counts = slice_set asked.counts (place_of endpoint) (one_more (count_at asked endpoint)) }
asked_at asked None = record asked { nowhere = one_more asked.nowhere }

-- one more reply of the status
abbrev pub replied : Replied → ℕ → Replied
replied r status =
    if status == 200 then record r { ok = one_more r.ok }
    else (if status == 302 then record r { found = one_more r.found }
    else (if status == 400 then record r { bad_request = one_more r.bad_request }
    else (if status == 401 then record r { unauthorized = one_more r.unauthorized }
    else (if status == 403 then record r { forbidden = one_more r.forbidden }
    else (if status == 404 then record r { not_found = one_more r.not_found }
    else (if status == 405 then record r { not_allowed = one_more r.not_allowed }
    else (if status == 503 then record r { unavailable = one_more r.unavailable } else r)))))))

-- one more 503, for that
abbrev pub wanted : Wanted → Want → Wanted
wanted w Memory = record w { memory = one_more w.memory }
wanted w StoreRoom = record w { store_room = one_more w.store_room }
wanted w ClientRoom = record w { client_room = one_more w.client_room }
wanted w FreshDraw = record w { fresh_draw = one_more w.fresh_draw }
wanted w ConsentRoom = record w { consent_room = one_more w.consent_room }

-- with the cause, if there is one
abbrev pub with_cause : Tally → Option Cause → Tally
with_cause tally (Some (Wants want)) = record tally { wanted = wanted tally.wanted want }
with_cause tally (Some Denied) = record tally { denied = one_more tally.denied }
with_cause tally None = tally

-- one more request was answered
abbrev pub with_request : Tally → Option Endpoint → ℕ → Option Cause → Tally
with_request tally endpoint status cause =
    with_cause (record tally { asked = asked_at tally.asked endpoint; replied = replied tally.replied status }) cause
