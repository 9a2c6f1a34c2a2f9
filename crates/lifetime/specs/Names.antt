-- The names of types and of other crates that more than one file of these definitions uses.
pub use Rattle.batch_file.specs.Crashes.{LeavesOnly}
pub use Rattle.change_codec.specs.Keepers.{Keeping, keeping}
pub use Rattle.change_codec.specs.Keeping.{IsFrontOf}
pub use Rattle.clients.specs.RegistryRecord.{RegistryRecord}
pub use Rattle.consent.specs.History.{Event}
pub use Rattle.endpoints.specs.Server.{Outset, outset_of, SeenServer}
pub use Rattle.event_loop.specs.Durable.{Onward}
pub use Rattle.event_loop.specs.Ends.{Beginning, HasServed, ServesNothing}
pub use Rattle.event_loop.specs.LoopStates.{Promises, LoopState, promises}
pub use Rattle.event_loop.specs.Served.{Served}
pub use Rattle.outside.specs.declared.clocks.Times.{Times}
pub use Rattle.outside.specs.declared.journal.Journal.{Ghosts as Journal}
pub use Rattle.hook_chain.specs.Chains.{Named}
pub use Rattle.http_edge.specs.Edges.{SeenEdge}
pub use Rattle.http_edge.specs.Reached.{new_journey, Reached, resumed_journey, Journey}
pub use Rattle.rules_codec.specs.Facts.{HookFact}
pub use Rattle.lifetime.specs.declared.life.LifeEnd.{LifeEnd}
pub use Rattle.lifetime.specs.declared.life.LifeEnd.TheVariants.{Refused, Stopped, Unopened}
pub use Rattle.state_keeper.specs.Seen.{SeenKeeper, IsLongFile, ShortensFile, SlicesFile, file_crashes}
pub use Rattle.state_file.specs.Runs.{WasLived, OfEachRun}
pub use Rattle.state_file.specs.Standing.{StandsFor, IsMomentTold, until_of}
pub use Rattle.state_keeper.specs.Starting.{IsOfDisk, IsUntouched, IsOldOr, IsPutOn}
pub use Rattle.state_file.specs.Telling.{TellsRules, rules_of, Tell}
pub use Rattle.state_file.specs.declared.fault.StateFault.{StateFault}
