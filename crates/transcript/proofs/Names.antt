-- The names of other crates that more than one file of these proofs uses.
pub use Rattle.clients.specs.RegistryRecord.{RegistryRecord}
pub use Rattle.endpoints.specs.Server.{outset_of, Outset}
pub use Rattle.hook_host.specs.declared.host.HookHost.{Ghosts as Hosting}
pub use Rattle.http_edge.specs.Edges.{SeenEdge}
pub use Rattle.http_edge.specs.Reached.{new_journey}
pub use Rattle.http_edge.specs.Schedule.{Happening, World, Connection, Happens, Run, first_world}
pub use Rattle.http_edge.specs.Schedule.{fresh, connection_at, with_connection}
pub use Rattle.messages.specs.declared.request.Draws.{Draws}
pub use Rattle.std.proofs.lemmas.Bool.Decides.{nat_tests}
pub use Rattle.std.proofs.lemmas.Iterator.Consumers.{map_from_collect}
pub use Rattle.std.proofs.lemmas.Iterator.Splits.{YieldsList-from_str_split}
pub use Rattle.std.proofs.lemmas.List.{take_all, length-append}
pub use Rattle.std.specs.Io.BufRead.{ends_with_byte, strip_last}
pub use Rattle.std.specs.List.{slice_split, AllByRecursion}
pub use Rattle.std.specs.Option.{unwrap_or, option_map}
pub use Rattle.transcript.specs.Called.{AreCalls, AreDone, LinesAreMade, IsCallOf, StateEach}
pub use Rattle.transcript.specs.Events.{StandFor, happening}
pub use Rattle.transcript.specs.Lines.{Statement, Opens, Brings, Ends, WordsState}
pub use Rattle.transcript.specs.Pieces.{draws_in, AllDraw, SpellsDraws, SpellsPiece}
pub use Rattle.transcript.specs.Replays.{Configures, Stops, IsReplayFault, printed}
pub use Rattle.transcript.specs.Running.{HaveStated, IsFirstRefusal, printed_lanes}
pub use Rattle.transcript.specs.declared.fault.ReplayFault.{ReplayFault}
