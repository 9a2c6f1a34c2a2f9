-- How the loop ends.
use Rattle.std.specs.Prelude.{◌≡◌, ◌⊎◌, ◌≤◌, ◌<◌, ℕ, List, Option, Some, None, max, ◌-◌}
use Rattle.event_loop.specs.Names.{Journey, Reached, LoopFault, Ready, HeldMeanwhile, KeepsBasis, KeepsNot, TellsBasis, horizon_bound}
use Rattle.outside.specs.declared.clocks.Times.{Times}
use Rattle.outside.specs.declared.fault.LoopFault.TheVariants.{Wait, Clock, ClockAhead, Keep, Rounds, Reload}
use Rattle.event_loop.specs.declared.limits.Limits.{Limits}
use Rattle.event_loop.specs.declared.tools.Tools.{Tools}
use Rattle.outside.specs.Calls as call
use Rattle.outside.specs.Calls.{Keeping, Shortening, IsDone}
use Rattle.event_loop.specs.Done.{HaveDone}
use Rattle.event_loop.specs.Durable.{Carries, Onward, KeeperHolds, IsWriteKept, IsWriteTold, IsDurable, IsDurableToEnd, MomentIsHeld, MomentStays, latest}
use Rattle.event_loop.specs.Places.{AllFree}
use Rattle.event_loop.specs.Closing.{IsTimeToReload}
use Rattle.event_loop.specs.Moments.{seconds_too_far}
use Rattle.event_loop.specs.LoopStates.{Promises, LoopState, IsAllKept, IsUnkept, with_call}
use Rattle.event_loop.specs.Answered.{IsAllAnswered}
use Rattle.event_loop.specs.Sole.{IsWriteSole}
use Rattle.event_loop.specs.Served.{IsFirst, LoopStep, MayWait, Served, Shuts, TellsLast}

-- so many rounds can be counted
abbrev pub rounds_limit : ℕ
rounds_limit = 18446744073709551615

-- why it goes on no more: a wait failed; behind a wait the clocks told nothing, or a moment that is too far ahead of the greatest
-- that was kept, or one that could not be kept, and what it found was not looked at; what is unkept could not be kept; the keeper did not confirm that nobody else had begun, or did not keep its
-- place; what is kept could not be shortened, and may be lost; or so
-- many rounds were made as can be counted; or it is time to reload
pub data CannotGoOn {N C J K H : Type 0} (p : Promises N C J K H) (s : LoopState N C J K H) : LoopFault → LoopState N C J K H → Type 0 where
  no_wait : (limit : Option ℕ) (room : ℕ) (n : N) → MayWait p s limit room → p.sockets.does s.sockets (call.WaitFailed limit room) n →
      CannotGoOn p s Wait (with_call s (call.WaitFailed limit room) n)
  no_time : (limit : Option ℕ) (room : ℕ) (found : List Ready) (n : N) (c : C) → MayWait p s limit room →
      p.sockets.does s.sockets (call.Waited limit room found) n → p.clocks.tells s.clocks None c →
      CannotGoOn p s Clock (record (with_call s (call.Waited limit room found) n) { clocks = c; found = found })
  too_far : (limit : Option ℕ) (room : ℕ) (found : List Ready) (n : N) (times : Times) (c : C) (seconds : ℕ) → MayWait p s limit room →
      p.sockets.does s.sockets (call.Waited limit room found) n → p.clocks.tells s.clocks (Some times) c →
      seconds_too_far s.limits.ahead (Some times) s.held ≡ Some seconds →
      CannotGoOn p s (ClockAhead seconds) (record (with_call s (call.Waited limit room found) n) { clocks = c; found = found })
  no_moment : (limit : Option ℕ) (room : ℕ) (found : List Ready) (n : N) (times : Times) (c : C) (keeper : K) → MayWait p s limit room →
      p.sockets.does s.sockets (call.Waited limit room found) n → p.clocks.tells s.clocks (Some times) c →
      seconds_too_far s.limits.ahead (Some times) s.held ≡ None →
      HeldMeanwhile p.keeping.crashes s.keeper keeper → TellsBasis p.keeping.crashes (horizon_bound times.moment) s.keeper keeper → p.keeping.has_failed keeper →
      CannotGoOn p s Keep (record (with_call s (call.Waited limit room found) n) { clocks = c; keeper = keeper; found = found })
  not_kept : (keeper : K) (unkept : IsUnkept s.progress.journey.world) → ¬ (IsDone Keeping s.calls) →
      KeepsNot p.keeping.crashes unkept.kept s.progress.journey.world.history s.keeper keeper → TellsBasis p.keeping.crashes (horizon_bound s.times.moment) s.keeper keeper → p.keeping.has_failed keeper →
      CannotGoOn p s Keep (record s { keeper = keeper })
  not_shortened : (keeper : K) → IsAllKept s.progress.journey.world → ¬ (IsDone Shortening s.calls) →
      KeepsNot p.keeping.crashes s.progress.journey.world.history s.progress.journey.world.history s.keeper keeper → TellsBasis p.keeping.crashes 0 s.keeper keeper → p.keeping.has_failed keeper →
      CannotGoOn p s Keep (record s { keeper = keeper })
  not_confirmed : (keeper : K) → IsAllKept s.progress.journey.world → HeldMeanwhile p.keeping.crashes s.keeper keeper → TellsBasis p.keeping.crashes 0 s.keeper keeper → p.keeping.has_failed keeper →
      CannotGoOn p s Keep (record s { keeper = keeper })
  not_tended : (keeper : K) → HeldMeanwhile p.keeping.crashes s.keeper keeper → TellsBasis p.keeping.crashes 0 s.keeper keeper → p.keeping.has_failed keeper → CannotGoOn p s Keep (record s { keeper = keeper })
  to_reload : IsTimeToReload s.reload s.limits.crowded s.times s.places s.progress.journey.world.connections → CannotGoOn p s Reload s
  no_more : rounds_limit ≤ call.waits s.calls → CannotGoOn p s Rounds s

-- the moment that the clocks told then, where it could not be kept, alone or with changes
abbrev pub told_then : {N C J K H : Type 0} {p : Promises N C J K H} {s s' : LoopState N C J K H} {fault : LoopFault} → CannotGoOn p s fault s' → ℕ
told_then (no_moment limit room found n times c keeper may done told near lost basis asked) = times.moment
told_then {s = s} (not_kept keeper unkept undone lost basis asked) = s.times.moment
told_then failing = 0

-- what a loop begins with: its limits, its tools, and the journey that led to their edge
pub record Beginning (N C J K H : Type 0) : Type 0 where
  pub limits : Limits
  pub tools : Tools N C J K H
  pub journey : Journey H

-- the tools of a state
abbrev pub tools_at : {N C J K H : Type 0} → LoopState N C J K H → Tools N C J K H
tools_at s = record {
  sockets = s.sockets;
  edge = s.progress.edge;
  clocks = s.clocks;
  generator = s.progress.generator;
  journal = s.noted.journal;
  keeper = s.keeper;
  tellings = s.progress.audience;
}

-- The clocks told the first times, and steps led on, whose every state is answered, until something failed; then nothing
-- was done but that each connection that was left was closed or handed on, and forgotten, and all places are free, and that behind them,
-- where reports are wanted, there was one more. That is what the sockets did. Each state has all that had happened and was kept at
-- those before it. With each write all that had happened was kept, all that was told of requests was handed to the journal, and the keeper was asked since the last
-- wait, behind all that was read, and told that up to then nobody else had begun; and
-- where the keeper held at first what was kept, all that was kept is durable. What crashes told at some state, each crash tells from then on, and no moment that is more than a minute
-- beyond the greatest that the clocks told since. Behind
-- the first wait that is the moment by which requests are answered, and each crash tells the greatest one by which one was.
pub record HasServed {N C J K H : Type 0} (p : Promises N C J K H) (start : Beginning N C J K H) (fault : LoopFault) (tools' : Tools N C J K H) : Type 0 where
  pub first : LoopState N C J K H
  pub is_first : IsFirst p first
  pub limits_are : first.limits ≡ start.limits
  pub journey_is : first.progress.journey ≡ start.journey
  pub told : p.clocks.tells start.tools.clocks (Some first.times) first.clocks
  pub tools_are : tools_at first ≡ record start.tools { clocks = first.clocks }
  pub last : LoopState N C J K H
  pub served : Served p first last
  pub answered : (s : LoopState N C J K H) → Served p first s → IsAllAnswered p s
  pub kept : (s s' : LoopState N C J K H) → Served p first s → LoopStep p s s' → IsWriteKept s s'
  pub audited : (s s' : LoopState N C J K H) → Served p first s → LoopStep p s s' → IsWriteTold s s'
  pub sole : (s s' : LoopState N C J K H) → Served p first s → LoopStep p s s' → IsWriteSole p first s s'
  pub durable : KeeperHolds p first → (s s' : LoopState N C J K H) → Served p first s → Onward p s s' → IsDurable p s s'
  pub carries : (s s' : LoopState N C J K H) → Served p first s → Onward p s s' → Carries s.progress.journey s'.progress.journey
  pub basis : (s s' : LoopState N C J K H) → Served p first s → (on : Onward p s s') → KeepsBasis p.keeping.crashes (horizon_bound (latest on)) s.keeper s'.keeper
  pub moment : (s : LoopState N C J K H) → Served p first s → 0 < call.waits s.calls → MomentIsHeld p s
  pub moment_stays : (s s' : LoopState N C J K H) → Served p first s → Onward p s s' → MomentStays p first s s'
  pub failed : LoopState N C J K H
  pub fails : CannotGoOn p last fault failed
  pub emptied : LoopState N C J K H
  pub shuts : Shuts p fault failed emptied
  pub end : LoopState N C J K H
  pub tells_last : TellsLast p emptied end
  pub done : HaveDone p.sockets first.sockets end.calls end.sockets
  pub durable_then : KeeperHolds p first → (s : LoopState N C J K H) → Served p first s → Onward p s last → IsDurableToEnd p s last end
  pub basis_then : (s : LoopState N C J K H) → Served p first s → (on : Onward p s last) →
      TellsBasis p.keeping.crashes (horizon_bound (max (latest on) (told_then fails))) s.keeper end.keeper
  pub moment_stays_then : (s : LoopState N C J K H) → Served p first s → Onward p s last → MomentStays p first s end
  pub free : AllFree end.places
  pub tools_are_then : tools' ≡ tools_at end

-- nothing was done, since the clocks told nothing
pub record ServesNothing {N C J K H : Type 0} (p : Promises N C J K H) (tools : Tools N C J K H) (fault : LoopFault) (tools' : Tools N C J K H) : Type 0 where
  pub is_clock : fault ≡ Clock
  pub clocks : C
  pub told_nothing : p.clocks.tells tools.clocks None clocks
  pub same : tools' ≡ record tools { clocks = clocks }

-- wherever the edge was reached
abbrev pub RunEnds : {N C J K H : Type 0} → Promises N C J K H → Limits → Tools N C J K H → LoopFault → Tools N C J K H → Type 0
RunEnds p limits tools fault tools' = (journey : Journey _) → Reached p.hosting tools.edge journey →
    HasServed p (record { limits = limits; tools = tools; journey = journey }) fault tools' ⊎ ServesNothing p tools fault tools'
