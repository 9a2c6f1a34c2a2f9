-- When a store's answers are those of a history.
use Rattle.std.specs.Prelude.{◌≡◌, ◌≤◌, ℕ, List, Bool, Option, Some, None, count_by, option_map, if◌then◌else◌, not}
use Rattle.consent.specs.History.{Event, Grant, grant_at, is_spent, has_ended, code_terms, greatest_family, is_named, unexpired_count, IsHistory, AllFollowAt, has_room, has_client_room, is_taken, with_changes}
use Rattle.consent.specs.Seen.{told_as}
use Rattle.consent.specs.Changes.{changes_of}
use Rattle.consent.specs.declared.change.Change.{Change}
use Rattle.token_store.specs.declared.fault.StoreFault.{StoreFault}
use Rattle.token_store.specs.declared.fault.StoreFault.TheVariants.{Full, ClientFull, DrawTaken}
use Rattle.token_store.specs.declared.quota.Quota.{Quota}
use Rattle.token_store.specs.Kept.{Kept, Held, kept_at, kept_unexpired}

-- what is to be kept of what the digest names: of a used code no texts
abbrev pub to_keep : List Event → List ℕ → ℕ → Grant → Kept
to_keep history digest moment g = record {
  grant = told_as (is_spent history digest moment) g;
  terms = code_terms history g.family;
  spent = is_spent history digest moment;
  ended = has_ended history g.family;
}

-- from the moment on what is kept answers as the history does
pub record FitsHistory (kept : List Kept) (history : List Event) (moment : ℕ) : Type 0 where
  -- each digest is answered for as in the history
  pub answers : (digest : List ℕ) (t : ℕ) → moment ≤ t → kept_at kept digest t ≡ option_map (to_keep history digest t) (grant_at history digest t)
  -- as many are unexpired
  pub count : (t : ℕ) → moment ≤ t → kept_unexpired kept t ≡ unexpired_count history t
  -- no two unexpired records have one digest
  pub once : (digest : List ℕ) → count_by (λ k. is_named digest moment k.grant) kept ≤ 1
  pub is_history : IsHistory history moment

-- the store's answers from the moment on are those of the history, and it knows the greatest number of a family
pub record FitsStore (store : Held) (history : List Event) (moment : ℕ) : Type 0 where
  pub kept : FitsHistory store.kept history moment
  pub last : store.last ≡ greatest_family history

-- so it is of each history that the store fits at the moment
abbrev pub ForEachHistory : Held → ℕ → (List Event → Type 0) → Type 0
ForEachHistory store moment P = (history : List Event) → FitsStore store history moment → P history

-- what fitted a history fits it with the changes, where they may follow
abbrev pub MakesChanges : (old new : Held) → ℕ → List Change → Type 0
MakesChanges old new moment changes = (history : List Event) → FitsStore old history moment →
    AllFollowAt history moment (changes_of changes) → FitsStore new (with_changes history moment (changes_of changes)) moment

-- why codes or tokens are refused: they have no room, or none among the client's, or a digest is taken
abbrev pub refusal_by : (has_room has_client_room is_taken : Bool) → Option StoreFault
refusal_by has_room has_client_room is_taken =
    if not has_room then Some Full else if not has_client_room then Some ClientFull else if is_taken then Some DrawTaken else None

-- why codes or tokens of these digests, for the client of the quota, are refused at the moment
abbrev pub refusal : Quota → List Event → ℕ → List (List ℕ) → Option StoreFault
refusal quota history moment digests =
    refusal_by (has_room quota.records history moment digests) (has_client_room quota.of_client history quota.client moment digests)
    (is_taken history moment digests)
