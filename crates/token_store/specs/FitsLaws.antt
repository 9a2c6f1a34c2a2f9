-- What fits a history from a moment on, and which changes of it may come next.
use Rattle.std.proofs.Common.{◌≤◌, ℕ, List, arith}
use Rattle.consent.specs.ListLaws.{count_by-narrower}
use Rattle.consent.specs.History.{Event, is_named, IsHistory}
use Rattle.consent.specs.HistoryLaws.{named_before, is_history-later}
use Rattle.token_store.specs.Kept.{Kept, Held}
use Rattle.token_store.specs.Fits.{FitsHistory, FitsStore}

-- it fits from each later moment on
kept_later : (kept : List Kept) (history : List Event) (m t : ℕ) → m ≤ t → FitsHistory kept history m → FitsHistory kept history t
kept_later kept history m t le fits = record {
  answers = λ d u late. fits.answers d u (omega (arith, le, late));
  count = λ u late. fits.count u (omega (arith, le, late));
  once = λ d. (
      let less = count_by-narrower (λ k. is_named d m k.grant) (λ k. is_named d t k.grant) kept (λ k. named_before d m t k.grant le) in
      let one = fits.once d in
      omega (arith, less, one));
  is_history = is_history-later history m t le fits.is_history;
}

pub fits_later : (store : Held) (history : List Event) (m t : ℕ) → m ≤ t → FitsStore store history m → FitsStore store history t
fits_later store history m t le fits = record { kept = kept_later store.kept history m t le fits.kept; last = fits.last }

-- what a store fits is a history
pub store_history : (store : Held) (history : List Event) (m : ℕ) → FitsStore store history m → IsHistory history m
store_history store history m fits = fits.kept.is_history
