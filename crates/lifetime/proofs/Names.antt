-- The names of other crates that more than one file of these proofs uses.
pub use Rattle.lifetime.specs.Names.{IsFrontOf, RegistryRecord, Event, Outset, outset_of, SeenServer, Onward, HasServed, LoopState, Served, Named, SeenEdge, Journey, Reached}
pub use Rattle.lifetime.specs.Names.{HookFact, SeenKeeper, WasLived, StandsFor, until_of, IsPutOn, IsOfDisk, IsOldOr, IsUntouched, Tell, TellsRules, rules_of, StateFault}
pub use Rattle.batch_file.specs.Frames.{IsReadable, recovered, torn_of}
pub use Rattle.change_codec.specs.Keeping.{Basis, HoldsBasis, IsWithin, NoLater, Readable, Rules, TellsBasis, horizon_bound}
pub use Rattle.endpoints.specs.Bounded.{AllRight, IsBounded}
pub use Rattle.endpoints.specs.Hosts.{HostRun}
pub use Rattle.event_loop.specs.Durable.{Carries, KeeperHolds, StandsBetween, latest}
pub use Rattle.event_loop.specs.Ends.{told_then}
pub use Rattle.state_file.specs.Knowing.{LeftTells}
pub use Rattle.event_loop.specs.DurableLaws.{front_then, same_front, served_onward, served_on}
pub use Rattle.event_loop.specs.Served.{begins}
pub use Rattle.event_loop.specs.declared.tools.Tools.{Tools}
pub use Rattle.rules_codec.specs.Facts.{hook_fact}
pub use Rattle.lifetime.specs.Found.{ComesOf, IsHeir, IsLeftBeside, IsTold, MayBeFound, StartsFrom, at_first, ever, grows, is_it, once_settled, settled_at, starts}
pub use Rattle.lifetime.specs.Given.{Given, LifePromises, in_loop, life_promises, given}
pub use Rattle.lifetime.specs.Lives.{HasLived, HasNotLived, IsLife, IsWhole, LosesNothing, is_ahead, is_refused, is_unopened, is_unsettled, Leaves, LeavesKept, loop_of, TellsNoLater, StaysWhole, until_with}
pub use Rattle.lifetime.specs.Plans.{IsPlanOf, IsPlanned, begun_from, RefusesPlan, batches_under, start_of}
pub use Rattle.lifetime.specs.Starts.{Begun, Settles, LooksAt, Outlook, too_far_at}
pub use Rattle.lifetime.specs.declared.life.Life.{Life}
pub use Rattle.lifetime.specs.declared.plan.Plan.{Plan}
pub use Rattle.lifetime.specs.declared.going_on.Ending.{Ending}
pub use Rattle.state_file.specs.Standing.{StandFor}
pub use Rattle.narrowing.specs.Narrowing.{history_under, HasLeftOfEach, IsNarrower, under_in}
pub use Rattle.narrowing.specs.declared.narrowed.Narrowed.{Narrowed}
pub use Rattle.change_codec.specs.Rules.{RulesFact}
pub use Rattle.std.specs.Prelude.{Contains, is_some, IsSome}
