-- The names of other crates that more than one file of these proofs uses.
pub use Rattle.http_edge.specs.Names.{with_changes, Change, SeenServer, Outset, FitsServer, Notes, Before, AreNoted, Message, asked_of_message, Messages, HasNone, ReadsMessages, Hosting, TooMany}
pub use Rattle.http_edge.specs.Names.{NotOpen, AlreadyOpen, PieceTooLong, DrawsShort, TooManyRequests, Memory, Closing, Sources, Asked, in_writing, reply_bytes, Draws}
pub use Rattle.consent.specs.History.{Event, event_at}
pub use Rattle.consent.specs.ListLaws.{find-passes}
pub use Rattle.endpoints.specs.Hosts.{says_with}
pub use Rattle.endpoints.specs.Replies.{request_outcome}
pub use Rattle.endpoints.specs.Server.{AreUnkept, NowNotes, IsStep}
pub use Rattle.heads.specs.Message.{BeginsWithMessage}
pub use Rattle.heads.specs.ReadingLaws.{messages_cut, nothing_has_none, reads_push, reads_next, reads_same}
pub use Rattle.heads.specs.WaitingLaws.{front_whole, waiting-append}
pub use Rattle.http_edge.specs.Answers.{Answerer, answerer, next_answerer, AnsweredRequest, changes_made, mishaps_in, tellings_of, replies_of, ends_of, IsOutcomeOfRequest, AreAnswered, AreAskedBy, draws_in}
pub use Rattle.http_edge.specs.Edges.{SeenEdge}
pub use Rattle.http_edge.specs.EdgesParts.{GivenWithMore, IsOpenRefusal, IsEndRefusal, IsBytesRefusal, MayHear}
pub use Rattle.http_edge.specs.Heard.{AreMessagesRead, IsHeard, timed_bytes, hearing, IsHearingRefusal, AreMessagesServed, IsStillNone, before_messages, Said, said_so, replying, AreFirst, first_requests}
pub use Rattle.http_edge.specs.Heard.{ServesMessages, drawn_for, HasRoom, SeenOutput, seen_output, lane_output, taken_from, with_reply, with_faulty}
pub use Rattle.http_edge.specs.Lanes.{SeenLane, lane_at, output_in, ends_from, ShowsConnections, ShowsConnection, rest_in}
pub use Rattle.http_edge.specs.LanesParts.{with_lane, without_lane, fresh_lane, IsHearing, IsLeftIn}
pub use Rattle.http_edge.specs.Pieces.{IsBrought, WhereReached, supplied}
pub use Rattle.http_edge.specs.Places.{AreApart}
pub use Rattle.http_edge.specs.PlacesParts.{IsPlace, IsPosition}
pub use Rattle.http_edge.specs.Reached.{Journey, Reached, BeginsOver, ResumesOver, GoesOn, HappeningLeads, PieceGoesOn, PieceLeads, IsHeld}
pub use Rattle.http_edge.specs.Refusals.{MaySend, Completes, IsPieceRefusal, IsOpeningRefusal, IsEndingRefusal}
pub use Rattle.http_edge.specs.Rests.{SeenRest}
pub use Rattle.http_edge.specs.Schedule.{Connection, connection_at, with_connection, without_connection, fresh, untaken, World, Piece, AnsweredPiece, Happening, Opened, Came, HasEnded, Taken}
pub use Rattle.http_edge.specs.Schedule.{Forgotten, Kept, Happens, IsKeptOf, Run, ended, has_stream_ended, is_closing_phase, first_world, resumed, heard, moment_after, faulty_if, end_if, piece_of, IsLeftOfReply, AreLeftOfReply}
pub use Rattle.http_edge.specs.Sources.{demand_of, draws_for, draws_behind, wants_draws}
pub use Rattle.http_edge.specs.Supply.{Suffices, one_fewer}
pub use Rattle.http_edge.specs.declared.lane.Phase.TheVariants.{Open}
pub use Rattle.messages.specs.Asked.{asked_of}
pub use Rattle.messages.specs.Written.{Written}
pub use Rattle.std.proofs.Math.Seq.{drop-nil}
pub use Rattle.std.proofs.lemmas.Bool.{eqb-true, ltb-true}
pub use Rattle.std.proofs.lemmas.Bool.Decides.{eqb_tells, nat_tests, leb_tells}
pub use Rattle.std.proofs.lemmas.List.{length-drop, drop-drop, drop-append-le, map-append, take_all}
pub use Rattle.std.proofs.lemmas.Result.{on_ok_weaker}
pub use Rattle.std.specs.Option.{option_copied}
pub use Rattle.std.specs.Prelude.{◌==◌, IsSome, option_map, slice_get, is_some, IfSome, IfErr, Result, Ok, Err, max, ◌⊎◌, bytes_eq, IsTrue}
