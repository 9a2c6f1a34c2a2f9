-- The names of types and of other crates that more than one file of these definitions uses.
pub use Rattle.change_codec.specs.Keeping.{Until, IsFrontOf, Holds, HoldsBasis, Leaves, HeldMeanwhile, KeepsBasis, KeepsNot, TellsBasis, Keeps, IsNoFurther, horizon_bound}
pub use Rattle.consent.specs.History.{Event}
pub use Rattle.outside.specs.declared.fault.ConnectionFault.{ConnectionFault}
pub use Rattle.outside.specs.declared.fault.ConnectionFault.TheVariants.{Accept, Refused, Write}
pub use Rattle.outside.specs.declared.fault.LoopFault.{LoopFault}
pub use Rattle.outside.specs.declared.journal.Journal.{Ghosts as Journal}
pub use Rattle.event_loop.specs.declared.place.Stage.{Stage}
pub use Rattle.event_loop.specs.declared.place.Stage.TheVariants.{Open, Free, Broken, Ended, Leaving}
pub use Rattle.event_loop.specs.declared.queue.Queue.{Queue}
pub use Rattle.event_loop.specs.declared.queue.Queue.TheVariants.{Told, Empty, Barred, Asked, Waits}
pub use Rattle.outside.specs.declared.report.Notice.{Notice}
pub use Rattle.outside.specs.declared.report.Notice.TheVariants.{ShorteningRefused, WantsRoom, Reported, StoreFull}
pub use Rattle.outside.specs.declared.sockets.Accepted.TheVariants.{Later}
pub use Rattle.outside.specs.declared.sockets.Ready.{Ready}
pub use Rattle.outside.specs.declared.sockets.Sockets.{Ghosts as Sockets}
pub use Rattle.hook_host.specs.declared.host.HookHost.{Ghosts as Hosting}
pub use Rattle.http_edge.specs.Edges.{SeenEdge}
pub use Rattle.http_edge.specs.Pieces.{IsBrought, SuppliedEdge}
pub use Rattle.http_edge.specs.Reached.{is_closing, IsHeld, GoesOn, Journey, Reached, PieceGoesOn, InEach, led_on}
pub use Rattle.http_edge.specs.Refusals.{IsOpeningRefusal, IsPieceRefusal, IsEndingRefusal}
pub use Rattle.http_edge.specs.Schedule.{Forgotten, Opened, Piece, World, Connection, connection_at, untaken, AreLeftOfReply, Happening, HasEnded, piece_of}
pub use Rattle.http_edge.specs.declared.fault.EdgeFault.{EdgeFault}
pub use Rattle.rand_chacha.specs.ChaCha.{ChaCha}
