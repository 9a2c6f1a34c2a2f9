-- The names of other crates that more than one file of these proofs uses.
pub use Rattle.event_loop.specs.Names.{IsFrontOf, Holds, Keeps, KeepsBasis, Leaves, TellsBasis, HoldsBasis, Until, Event, Write, Refused, LoopFault, Ended, Leaving, AreLeftOfReply, Broken, Free, Open, Queue, Told}
pub use Rattle.event_loop.specs.Names.{Empty, Barred, Waits, Ready, Hosting, SeenEdge, is_closing, Journey, Reached, led_on, connection_at, piece_of, untaken, Piece, World, Connection, Opened, Forgotten}
pub use Rattle.event_loop.specs.Names.{HasEnded, InEach}
pub use Rattle.change_codec.specs.Keeping.{Crashes, Basis, LeavesEither}
pub use Rattle.change_codec.specs.Keepers.{keeping}
pub use Rattle.endpoints.specs.Server.{Outset, AreUnkept}
pub use Rattle.outside.specs.Calls.{CallKind, IsDone, Transfer, Reading, Looking, Writing, Call, Keeping, Shortening, done_since, Wrote, waits as waits_done, Accepting}
pub use Rattle.event_loop.specs.Closing.{AreWithin, Closes, leaves, Cause, gives_way, makes_room, freed_queue, is_silent, IsBehindReply, IsEldest, IsOwed, HasWhole, leaves_rest, AreBetween, IsBetween, Passes, hands_on}
pub use Rattle.event_loop.specs.Coming.{opens, denies, fresh_place, finds_nobody, asks}
pub use Rattle.event_loop.specs.Durable.{Carries, Onward, stays, onward, KeeperHolds, StandsBetween, MomentIsHeld, MomentStays}
pub use Rattle.event_loop.specs.Ends.{CannotGoOn, no_wait, no_time, too_far, no_moment, not_kept, not_shortened, not_confirmed, not_tended, no_more, to_reload}
pub use Rattle.event_loop.specs.Giving.{GivesPieces, nothing, gives, cut_limit, AreBytesHeard, IsUnheard}
pub use Rattle.event_loop.specs.GivingParts.{GivesOn, progress_of}
pub use Rattle.event_loop.specs.Goes.{Running, Standing, Past, Duty, DoneMore, DoneAfter, ActsAt, IsReadyFor, past_of, state_of, to_read, to_write, LeadsOn, standing, LeavesOthers, HoldsAt, LeadsToActs, LeadsToTidy}
pub use Rattle.event_loop.specs.Goes.{LeadsToSettled, LeadsToAccepts, GoesReading, GoesKept, GoesTold, GoesWriting, IsWritable, LeadsToKept, LeadsToTold, LeadsWriting, StaysIdle, SettlesAt, TidiesAt, IsHeardAt, IsRestedAt, IsRested}
pub use Rattle.event_loop.specs.Goes.{IsSettledAt, GoesSettled, running, IsCalm, NobodyIsSilent, OnlyTells, IsLimit, IsReadyToWait, LeadsAway, GoesShorter, LeadsToShort, LeadsToTended, SettlesAll}
pub use Rattle.event_loop.specs.Goes.{AreAllSettled, IsHearing, IsHeardAs, ReadsAt, ReadsOn, GoesFurther, LeadsFurther, LeadsTelling, AreGuestsBrief, IsEldestAt, IsGuest, IsRoomMadeIn, IsTried, OnlyTellsRoom, WhereKnown, counts_from}
pub use Rattle.event_loop.specs.Goes.{MayRest, IsToldAs, IsWorkLeft, a_read, a_write, IsLeftAt, noted_in, LeadsToHearing, LeadsShut, LeadsReading, LeadsRound, GoesRound, IsInTime}
pub use Rattle.event_loop.specs.LoopStates.{Promises, LoopState, IsAllKept, with_call, with_place, IsUnkept, promises}
pub use Rattle.event_loop.specs.Noting.{Noted, notes_it, passes}
pub use Rattle.event_loop.specs.Places.{IsOccupied, MayRead, MayWrite, read_limit, IsInService, IsFreeAt, NeedsNoRead, NeedsNoWrite, AllFree, is_taken, open_count, IsOver, IsPlaceAtRest, IsStaying, to_offer, taken_stage}
pub use Rattle.event_loop.specs.Progress.{Progress, known, led, IsReached}
pub use Rattle.event_loop.specs.Reading.{ReadsPlace, hears, refuses, ends, ends_nothing, finds_nothing, read_place}
pub use Rattle.event_loop.specs.Reporting.{TellsRefusal, is_long_ago, full, reported}
pub use Rattle.event_loop.specs.Served.{Served, goes, LoopStep, hears_of, comes, reads, writes, closes, keeps, begins, Shuts, TellsLast, tells_nothing, passes_on, shortens, is_short, IsKeptShort, stops, shuts, reports_last, IsIdle}
pub use Rattle.event_loop.specs.Served.{IsPatient, MayWait, HadTurn, IsFirst, told_place, hears_of_listener, hears_of_reload, hears_of_none, hears_out, looks_again, fails_to_look, MayLook, no_slice, reports, audits, confirms, tends}
pub use Rattle.event_loop.specs.Writing.{WritesPlace, offered, sends, finds_no_room}
pub use Rattle.outside.specs.declared.clocks.Times.{Times}
pub use Rattle.outside.specs.declared.fault.ConnectionFault.TheVariants.{Read}
pub use Rattle.event_loop.specs.declared.place.Place.{Place}
pub use Rattle.event_loop.specs.declared.report.LastTold.{LastTold}
pub use Rattle.event_loop.specs.declared.service.Service.{Service}
pub use Rattle.event_loop.specs.declared.tools.Tools.{Tools}
pub use Rattle.heads.specs.Message.{Message}
pub use Rattle.http_edge.proofs.Connections.{no_other, added_other, found_number, put_other, without_other, found_put, found_fresh}
pub use Rattle.http_edge.specs.Pieces.{PieceGiven, RefusesPiece, supplied}
pub use Rattle.http_edge.specs.Schedule.{Came, IsServerStill, moment_after, PieceComes, PiecePasses, TakesOutput, TakesNothing, AnsweredPiece}
pub use Rattle.http_edge.specs.Schedule.{KeepsHistory, Opens, StreamEnds, ForgetsConnection, fresh, Kept, Taken}
pub use Rattle.std.proofs.lemmas.Bool.{false≢true, eqb-true, cases_lt}
pub use Rattle.std.proofs.lemmas.Bool.Decides.{eqb_tells, nat_tests}
pub use Rattle.std.proofs.lemmas.List.{drop_all}
pub use Rattle.std.proofs.lemmas.Option.{same_Some, slice_get_within, get_or_from_slice_get, slice_get-get_or, slice_get_past}
pub use borrow.Author.Count.{below_more}
