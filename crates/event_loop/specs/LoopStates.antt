-- What the loop knows and works with, at one time.
use Rattle.std.specs.Prelude.{◌≡◌, ◌≢◌, ℕ, List, ◌∷◌, Option, Some, slice_set}
use Rattle.event_loop.specs.Names.{Hosting, Event, World, Sockets, Journal, Queue, Ready}
use Rattle.outside.specs.declared.clocks.Clocks.{Ghosts as Clocks}
use Rattle.change_codec.specs.Keepers.{Keeping}
use Rattle.outside.specs.declared.clocks.Times.{Times}
use Rattle.event_loop.specs.declared.limits.Limits.{Limits}
use Rattle.event_loop.specs.declared.place.Place.{Place}
use Rattle.event_loop.specs.declared.report.LastTold.{LastTold}
use Rattle.outside.specs.Calls.{Call}
use Rattle.event_loop.specs.Progress.{Progress}
use Rattle.event_loop.specs.Noting.{Noted}

-- what the sockets, the clocks, the journal, the keeper and the host promise
pub record Promises (N C J K H : Type 0) : Type 1 where
  pub sockets : Sockets N
  pub clocks : Clocks C
  pub journal : Journal J
  pub keeping : Keeping K
  pub hosting : Hosting H

abbrev pub promises : {N C J K H : Type 0} → Sockets N → Clocks C → Journal J → Keeping K → Hosting H → Promises N C J K H
promises sockets clocks journal keeping hosting = record { sockets = sockets; clocks = clocks; journal = journal; keeping = keeping; hosting = hosting }

-- What the loop works with: sockets, clocks, a journal, a keeper, and an edge with its draws, on its progress. What it knows:
-- its limits, its places, what the last wait found and was not looked at yet, who waits to be accepted, what the clocks
-- told last, the greatest moment that was kept or with which it began, when a fault was noted last, and the journal was told
-- last what the server does, and whether what is kept wants room, in which second shortening was refused last, since which a reload is wanted, in which it began, how many connections came, and its
-- turn: how often it waited. What was done so far, the last call first.
pub record LoopState (N C J K H : Type 0) : Type 0 where
  pub sockets : N
  pub clocks : C
  pub noted : Noted J
  pub keeper : K
  pub progress : Progress H
  pub limits : Limits
  pub places : List Place
  pub found : List Ready
  pub queue : Queue
  pub times : Times
  pub held : ℕ
  pub told : LastTold
  pub refused : Option ℕ
  pub reload : Option ℕ
  pub began : ℕ
  pub accepted : ℕ
  pub turn : ℕ
  pub calls : List Call

-- one call more, by which the sockets are others
abbrev pub with_call : {N C J K H : Type 0} → LoopState N C J K H → Call → N → LoopState N C J K H
with_call s call n = record s { sockets = n; calls = call ∷ s.calls }

-- what is known of one place is other
abbrev pub with_place : {N C J K H : Type 0} → LoopState N C J K H → ℕ → Place → LoopState N C J K H
with_place s k place = record s { places = slice_set s.places k place }

-- what was kept last, if anything is kept, is all that happened
abbrev pub IsAllKept : World → Type 0
IsAllKept world = (kept : List Event) → world.kept ≡ Some kept → kept ≡ world.history

-- a history was kept last, and more has happened
pub record IsUnkept (world : World) : Type 0 where
  pub kept : List Event
  pub here : world.kept ≡ Some kept
  pub more : kept ≢ world.history
