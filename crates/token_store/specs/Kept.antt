-- What a store answers from: its records, in any order and with any that no longer count.
use Rattle.std.specs.Prelude.{ℕ, List, Bool, Option, find, count_by}
use Rattle.std.specs.List.{list_any}
use Rattle.consent.specs.History.{Grant, Terms, is_named, is_unexpired, is_unexpired_of, is_live_in}
use Rattle.token_store.specs.declared.record.Shared.{Shared}
use Rattle.token_store.specs.declared.tables.Coming.{Coming}

-- a code or token as it is kept: its family's code's terms, spent or not, ended or not
pub record Kept : Type 0 where
  pub grant : Grant
  pub terms : Option Terms
  pub spent : Bool
  pub ended : Bool

-- for how many records more there is memory, the families, and what is expected, if anything is
pub record Room : Type 0 where
  pub records : ℕ
  pub families : List (ℕ × Shared)
  pub coming : Option Coming

-- what a store keeps, the greatest number of a family so far, and what room it has for more
pub record Held : Type 0 where
  pub kept : List Kept
  pub last : ℕ
  pub room : Room

-- what is kept under the digest at the moment
abbrev pub kept_at : List Kept → List ℕ → ℕ → Option Kept
kept_at kept digest moment = find (λ k. is_named digest moment k.grant) kept

abbrev pub kept_unexpired : List Kept → ℕ → ℕ
kept_unexpired kept moment = count_by (λ k. is_unexpired moment k.grant) kept

-- and those of a client alone
abbrev pub kept_unexpired_of : List Kept → ℕ → ℕ → ℕ
kept_unexpired_of kept client moment = count_by (λ k. is_unexpired_of client moment k.grant) kept

-- something unexpired is kept of the family
abbrev pub kept_lives : List Kept → ℕ → ℕ → Bool
kept_lives kept moment family = list_any (λ k. is_live_in family moment k.grant) kept
