-- The reply to a request and what happens with it, as the first point of a list that holds.
use Rattle.std.specs.Prelude.{ℕ, List, [], Bool, true, false, not, Option, Some, None}
use Rattle.answers.specs.Names.{Change, has_room, has_client_room, is_taken, ErrorName, InvalidClient, AccessDenied, Reply, plain, Empty, Narrowed, Allowed, EmptyScope}
use Rattle.messages.specs.Reply.Body.{Failure}
use Rattle.hook_record.specs.declared.Narrowed.TheVariants.{Denied}
use Rattle.answers.specs.Setting.{Setting}
use Rattle.answers.specs.Quotas.{records_of}

pub record Outcome : Type 0 where
  pub reply : Reply
  pub changes : List Change

-- the point "if so: this", and then the others
abbrev pub point : Bool → Outcome → Outcome → Outcome
point true here later = here
point false here later = later

-- the point "absent: this", and then those that use the value
abbrev pub need : {A : Type 0} → Option A → Outcome → (A → Outcome) → Outcome
need None without later = without
need (Some x) without later = later x

-- a reply with which nothing happens
abbrev pub only : Reply → Outcome
only reply = record { reply = reply; changes = [] }

-- the status of an error that is answered as JSON (RFC 6749, section 5.2)
abbrev pub status_of : ErrorName → ℕ
status_of InvalidClient = 401
status_of AccessDenied = 403
status_of _ = 400

-- an error with which nothing happens
abbrev pub refuse : ErrorName → Outcome
refuse error = only (plain (status_of error) (Failure error))

-- a bare status
abbrev pub bare : ℕ → Outcome
bare status = only (plain status Empty)

-- 503: memory, room or a fresh draw is wanting
abbrev pub unavailable : Outcome
unavailable = bare 503

-- codes or tokens of these digests are given to the client, unless there is no room, none for it, or a draw is taken
abbrev pub unless_taken : Setting → ℕ → List (List ℕ) → Outcome → Outcome
unless_taken setting client digests given =
    point (not (has_room setting.rules.limits.records setting.history setting.moment digests)) unavailable
    (point (not (has_client_room (records_of setting.rules client) setting.history client setting.moment digests)) unavailable
    (point (is_taken setting.history setting.moment digests) unavailable given))

-- how far a grant goes that a host has left
pub record Extent : Type 0 where
  pub scope : ℕ
  pub life : ℕ

-- the points "denied: this" and "no scope is left: this", and then those that use what is left
abbrev pub unless_denied : Narrowed → Outcome → Outcome → (Extent → Outcome) → Outcome
unless_denied Denied denied empty later = denied
unless_denied EmptyScope denied empty later = empty
unless_denied (Allowed scope life) denied empty later = later (record { scope = scope; life = life })

-- a request that memory was refused for has the 503 without events
abbrev pub chosen : Bool → Outcome → Outcome
chosen true right = unavailable
chosen false right = right
