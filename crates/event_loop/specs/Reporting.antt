-- What the journal is told of the server, and when.
use Rattle.std.specs.Prelude.{◌≡◌, ◌≢◌, ◌≤◌, ◌-◌, ℕ, Bool, true, nat_le, Option, Some, None, IsSome, length}
use Rattle.event_loop.specs.Names.{Journal, Notice, ShorteningRefused, WantsRoom, Reported, StoreFull}
use Rattle.event_loop.specs.declared.report.LastTold.{LastTold}
use Rattle.outside.specs.declared.report.Report.{Report}
use Rattle.event_loop.specs.Places.{open_count}
use Rattle.event_loop.specs.LoopStates.{Promises, LoopState}

-- A report tells the greatest moment by which a request was answered, for how long it has served, how many connections are
-- there and came, how much the server keeps, and how much its keeper keeps.
pub record Tells {N C J K H : Type 0} (p : Promises N C J K H) (s : LoopState N C J K H) (report : Report) : Type 0 where
  pub moment : report.moment ≡ s.progress.edge.server.greatest
  pub seconds : report.seconds ≡ s.times.steady - s.began
  pub connections : report.«open» ≡ open_count s.places
  pub accepted : report.accepted ≡ s.accepted
  pub records : report.records ≡ length s.progress.edge.server.store.kept
  pub consents : report.consents ≡ length s.progress.edge.server.consents.masks
  pub hooks : report.hooks ≡ length (p.hosting.names s.progress.edge.server.host)
  pub state : report.state ≡ p.keeping.size s.keeper

-- that was never, or so many seconds ago
abbrev pub is_long_ago : Option ℕ → ℕ → ℕ → Bool
is_long_ago None now seconds = true
is_long_ago (Some last) now seconds = nat_le seconds (now - last)

-- Where reports are wanted: of what the server does, once so many seconds have passed since the last one, and of a full store
-- at most once a minute. And whether they are wanted or not: whether what is kept wants room, once each time that this changes.
pub data IsDue {N C J K H : Type 0} (p : Promises N C J K H) (s : LoopState N C J K H) : Notice → LastTold → Type 0 where
  reported : (every : ℕ) (report : Report) → s.limits.report ≡ Some every → every ≤ s.times.steady - s.told.report → Tells p s report →
      IsDue p s (Reported report) (record s.told { report = s.times.steady })
  full : IsSome s.limits.report → is_long_ago s.told.full s.times.steady 60 ≡ true →
      IsDue p s StoreFull (record s.told { full = Some s.times.steady })
  wanted : p.keeping.wants_room s.keeper ≢ s.told.room → IsDue p s (WantsRoom (p.keeping.wants_room s.keeper)) (record s.told { room = p.keeping.wants_room s.keeper })

-- That shortening is refused is told whether reports are wanted or not: once, until no more is kept than may be.
abbrev pub TellsRefusal : {J : Type 0} → Journal J → Option ℕ → J → J → Type 0
TellsRefusal journaling None journal journal' = journaling.reports journal ShorteningRefused journal'
TellsRefusal journaling (Some last) journal journal' = journal' ≡ journal
