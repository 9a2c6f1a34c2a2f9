-- Beside Fits: only the contracts of this crate's own parts and their proofs cite this, no public clause.
use Rattle.std.specs.Prelude.{◌+◌, ℕ, List, Bool, true, Option, Some, None, nat_le, is_some, length}
use Rattle.consent.specs.History.{Event, are_taken, with_change, CanFollow}
use Rattle.consent.specs.Changes.{change_of}
use Rattle.consent.specs.declared.change.Change.{Change}
use Rattle.token_store.specs.declared.fault.StoreFault.{StoreFault}
use Rattle.token_store.specs.declared.quota.Quota.{Quota}
use Rattle.token_store.specs.Kept.{Kept, Held, kept_at, kept_unexpired, kept_unexpired_of}
use Rattle.token_store.specs.Fits.{FitsStore, refusal_by}

-- what fitted a history fits it with the change, where it may follow
abbrev pub MakesChange : (old new : Held) → ℕ → Change → Type 0
MakesChange old new moment change = (history : List Event) → FitsStore old history moment → CanFollow history moment (change_of change) →
    FitsStore new (with_change history moment (change_of change)) moment

-- what fitted a history, or a list, fits it with the change, which gives nothing, even where it may not follow
abbrev pub Alters : (old new : Held) → ℕ → Change → Type 0
Alters old new moment change = (history : List Event) → FitsStore old history moment → FitsStore new (with_change history moment (change_of change)) moment

-- there is room for so many more
abbrev pub has_kept_room : ℕ → List Kept → ℕ → ℕ → Bool
has_kept_room limit kept moment more = nat_le (kept_unexpired kept moment + more) limit

-- and among the client's, if those have a limit
abbrev pub has_kept_client_room : Option ℕ → List Kept → ℕ → ℕ → ℕ → Bool
has_kept_client_room None kept client moment more = true
has_kept_client_room (Some limit) kept client moment more = nat_le (kept_unexpired_of kept client moment + more) limit

-- one of the digests is that of something unexpired, or of another of them
abbrev pub are_kept : List Kept → ℕ → List (List ℕ) → Bool
are_kept kept moment digests = are_taken (λ digest. is_some (kept_at kept digest moment)) digests

-- why codes or tokens of these digests, for the client of the quota, are refused at the moment, by what is kept
abbrev pub kept_refusal : Quota → List Kept → ℕ → List (List ℕ) → Option StoreFault
kept_refusal quota kept moment digests =
    refusal_by (has_kept_room quota.records kept moment (length digests))
    (has_kept_client_room quota.of_client kept quota.client moment (length digests)) (are_kept kept moment digests)
