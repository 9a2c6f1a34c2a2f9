-- The names of types and of other crates that more than one file of these definitions uses.
pub use Rattle.change_codec.specs.Keeping.{IsFrontOf}
pub use Rattle.consent.specs.History.{Change, with_changes, IsHistory}
pub use Rattle.endpoints.specs.Bounded.{IsBounded, AllRight}
pub use Rattle.endpoints.specs.Server.{Outset, SeenServer, Before, FitsServer, AreNoted, Notes}
pub use Rattle.heads.specs.Message.{Message, asked_of_message, HasNone, ReadsMessages, Messages, IsHopeless, MustTell, MayTell}
pub use Rattle.hook_host.specs.declared.host.HookHost.{Ghosts as Hosting}
pub use Rattle.http_edge.specs.declared.fault.EdgeFault.{EdgeFault}
pub use Rattle.http_edge.specs.declared.fault.EdgeFault.TheVariants.{TooMany, NotOpen, AlreadyOpen, PieceTooLong, Memory, TooManyRequests, DrawsShort}
pub use Rattle.http_edge.specs.declared.lane.Phase.{Phase}
pub use Rattle.http_edge.specs.declared.lane.Phase.TheVariants.{Closing, Ended, Closed}
pub use Rattle.http_edge.specs.declared.source.Demand.{Demand}
pub use Rattle.http_edge.specs.declared.source.Demand.TheVariants.{Fresh, Nothing}
pub use Rattle.http_edge.specs.declared.source.DrawSource.{Ghosts as Sources}
pub use Rattle.messages.specs.Asked.{Asked}
pub use Rattle.messages.specs.Written.{in_writing, reply_bytes, faulty_bytes}
pub use Rattle.messages.specs.declared.request.Draws.{Draws}
