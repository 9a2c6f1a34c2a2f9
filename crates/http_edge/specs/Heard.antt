-- A piece that was read and answered.
use Rattle.std.specs.Prelude.{◌≡◌, ◌≤◌, ◌<◌, ◌+◌, ◌*◌, ℕ, List, [], ◌∷◌, ◌++◌, Bool, true, Option, length, drop, if◌then◌else◌, vec_len, vec_capacity}
use Rattle.http_edge.specs.Names.{Hosting, with_changes, Draws, SeenServer, Outset, Before, FitsServer, AreNoted, Message, HasNone, ReadsMessages, Messages, IsHopeless, MustTell, MayTell, Sources}
use Rattle.http_edge.specs.Names.{Closing, EdgeFault, TooManyRequests, DrawsShort, Memory}
use Rattle.consent.specs.History.{Event}
use Rattle.messages.specs.Small.{reply_limit}
use Rattle.heads.specs.declared.scan.Scan.{Scan}
use Rattle.http_edge.specs.Limits.{request_limit}
use Rattle.http_edge.specs.Answers.{AnsweredRequest, AreAnswered, answerer, AreAskedBy, draws_in, changes_made, replies_of, ends_of, tellings_of}
use Rattle.http_edge.specs.Schedule.{faulty_if, end_if, moment_after}
use Rattle.http_edge.specs.Supply.{Suffices, FallsShort}
use Rattle.http_edge.specs.Sources.{draws_for, draws_behind}
use Rattle.http_edge.specs.Lanes.{SeenLane, ends_from}
use Rattle.http_edge.specs.declared.output.Output.{Output}
use Rattle.telling.specs.Audience.{Audience, heard_by}

-- no message yet, and no faulty head that has to be told of
pub record IsStillNone (bytes : List ℕ) : Type 0 where
  pub none : HasNone bytes
  pub untold : ¬ (MustTell bytes)

-- so many messages stand at the front
pub record HasMessages (bytes : List ℕ) (count : ℕ) : Type 0 where
  pub messages : List Message
  pub rest : List ℕ
  pub reads : ReadsMessages bytes messages rest
  pub count_is : length messages ≡ count

-- so much room do the replies to what was read need at most, and the 400 of a faulty head behind them
abbrev pub reply_room : Scan → ℕ
reply_room scan = scan.count * reply_limit + length (faulty_if scan.faulty)

-- output, and up to how many of its bytes the ends of its replies are
pub record SeenOutput : Type 0 where
  pub bytes : List ℕ
  pub ends : List ℕ

abbrev pub seen_output : Output → SeenOutput
seen_output output = record { bytes = output.bytes.items; ends = output.ends.items }

-- that of a lane
abbrev pub lane_output : SeenLane → SeenOutput
lane_output lane = record { bytes = lane.output; ends = lane.ends }

-- there is room for so many bytes more, and for the ends of so many replies
pub record HasRoom (output : Output) (bytes replies : ℕ) : Type 0 where
  pub bytes_fit : vec_len output.bytes + bytes ≤ vec_capacity output.bytes
  pub ends_fit : vec_len output.ends + replies ≤ vec_capacity output.ends

-- so many bytes fewer
abbrev pub taken_from : SeenOutput → ℕ → SeenOutput
taken_from output n = record { bytes = drop n output.bytes; ends = ends_from n output.ends }

-- one reply more
abbrev pub with_reply : SeenOutput → List ℕ → SeenOutput
with_reply output reply = record { bytes = output.bytes ++ reply; ends = output.ends ++ (length output.bytes + length reply) ∷ [] }

-- the 400 of a faulty head more, where it is given
abbrev pub with_faulty : SeenOutput → Bool → SeenOutput
with_faulty output closes = record { bytes = output.bytes ++ faulty_if closes; ends = output.ends ++ end_if closes (length (output.bytes ++ faulty_if closes)) }

-- the output behind which replies are written, and who is told of what is answered
pub record Said : Type 0 where
  pub output : SeenOutput
  pub audience : Audience

abbrev pub said_so : SeenOutput → Audience → Said
said_so output audience = record { output = output; audience = audience }

-- a server, and what was said so far
pub record Replying (H : Type 0) : Type 0 where
  pub server : SeenServer H
  pub said : Said

abbrev pub replying : {H : Type 0} → SeenServer H → Said → Replying H
replying server said = record { server = server; said = said }

-- messages that came at a moment, with the draws of their requests
pub record Incoming : Type 0 where
  pub messages : List Message
  pub moment : ℕ
  pub draws : List Draws

-- they come with the source's next draws
abbrev pub drawn_for : {S : Type 0} → Sources S → S → List Message → ℕ → Incoming
drawn_for sources source messages moment = record { messages = messages; moment = moment; draws = draws_for sources source messages }

-- the messages have outcomes, from the host before to the new one, whose replies were written behind the output, the server
-- fits what they changed, just that is noted, and so much is told
pub record AreMessagesServed {H : Type 0} (hosting : Hosting H) (before : Before H) (said : Said) (incoming : Incoming) (new : Replying H) : Type 0 where
  pub requests : List AnsweredRequest
  pub asked : AreAskedBy incoming.messages requests
  pub draws : incoming.draws ≡ draws_in requests
  pub answered : AreAnswered hosting (answerer before.outset before.history before.server.host before.moment) requests new.server.host
  pub output_is : new.said.output.bytes ≡ said.output.bytes ++ replies_of requests
  pub ends_are : new.said.output.ends ≡ said.output.ends ++ ends_of (length said.output.bytes) requests
  pub heard : new.said.audience ≡ heard_by said.audience (tellings_of requests)
  pub fits : FitsServer hosting new.server before.outset (with_changes before.history before.moment (changes_made requests)) before.moment
  pub noted : AreNoted before.server new.server before.history (with_changes before.history before.moment (changes_made requests))

-- what is before the messages, where the server fits the history from the moment on
abbrev pub before_messages : {H : Type 0} → SeenServer H → Outset H → List Event → ℕ → Incoming → Before H
before_messages server outset history m incoming =
    record { server = server; outset = outset; history = history; moment = moment_after m incoming.moment incoming.messages }

-- whatever history the server fitted
abbrev pub ServesMessages : {H : Type 0} → Hosting H → Replying H → Incoming → Replying H → Type 0
ServesMessages hosting old incoming new =
    (outset : Outset _) (history : List Event) (m : ℕ) → FitsServer hosting old.server outset history m →
    AreMessagesServed hosting (before_messages old.server outset history m incoming) old.said incoming new

-- what answers requests: a server with what was said so far, and what they have their draws from
pub record Answering (H S : Type 0) : Type 0 where
  pub replying : Replying H
  pub source : S

abbrev pub answering : {H S : Type 0} → SeenServer H → Said → S → Answering H S
answering server said source = record { replying = replying server said; source = source }

-- the first requests of bytes, so many, which came at a moment
pub record FirstRequests : Type 0 where
  pub bytes : List ℕ
  pub count : ℕ
  pub moment : ℕ

abbrev pub first_requests : List ℕ → ℕ → ℕ → FirstRequests
first_requests bytes count moment = record { bytes = bytes; count = count; moment = moment }

-- these messages are theirs
pub record AreFirst (first : FirstRequests) (messages : List Message) : Type 0 where
  pub rest : List ℕ
  pub reads : ReadsMessages first.bytes messages rest
  pub count_is : length messages ≡ first.count

-- the first requests were answered, each with the source's next draws
pub record AnswersFirst {H S : Type 0} (hosting : Hosting H) (sources : Sources S) (old : Answering H S) (first : FirstRequests) (new : Answering H S) :
    Type 0 where
  pub serves : (messages : List Message) → AreFirst first messages →
      ServesMessages hosting old.replying (drawn_for sources old.source messages first.moment) new.replying
  pub source_is : (messages : List Message) → AreFirst first messages → new.source ≡ draws_behind sources old.source messages

-- the messages of the bytes, how many there may be, and what is kept of the bytes
pub record AreMessagesRead (bytes kept : List ℕ) (messages : List Message) (closes : Bool) : Type 0 where
  pub rest : List ℕ
  pub reads : Messages bytes messages rest
  pub few : length messages ≤ request_limit
  pub kept_is : kept ≡ (if closes then [] else rest)
  pub may_tell : closes ≡ true → IsHopeless rest × MayTell rest
  pub must_tell : MustTell rest → closes ≡ true

-- what hears bytes: a server, the lane on which they come, what their requests have their draws from, and who is told of them
pub record Hearing (H S : Type 0) : Type 0 where
  pub server : SeenServer H
  pub lane : SeenLane
  pub source : S
  pub audience : Audience

abbrev pub hearing : {H S : Type 0} → SeenServer H → SeenLane → S → Audience → Hearing H S
hearing server lane source audience = record { server = server; lane = lane; source = source; audience = audience }

-- bytes that came at a moment
pub record TimedBytes : Type 0 where
  pub bytes : List ℕ
  pub moment : ℕ

abbrev pub timed_bytes : List ℕ → ℕ → TimedBytes
timed_bytes bytes moment = record { bytes = bytes; moment = moment }

-- the messages of the bytes were answered, each with the source's next draws, and after them a faulty head, if one was told of
pub record IsHeard {H S : Type 0} (hosting : Hosting H) (sources : Sources S) (old : Hearing H S) (came : TimedBytes) (new : Hearing H S) : Type 0 where
  pub messages : List Message
  pub closes : Bool
  pub read : AreMessagesRead came.bytes new.lane.rest messages closes
  pub enough : Suffices (sources.supply old.source) (length messages)
  pub middle : SeenOutput
  pub serves : ServesMessages hosting (replying old.server (said_so (lane_output old.lane) old.audience))
      (drawn_for sources old.source messages came.moment) (replying new.server (said_so middle new.audience))
  pub output_is : lane_output new.lane ≡ with_faulty middle closes
  pub number_is : new.lane.number ≡ old.lane.number
  pub phase_is : new.lane.phase ≡ (if closes then Closing else old.lane.phase)
  pub source_is : new.source ≡ draws_behind sources old.source messages

-- why bytes are refused
abbrev pub IsHearingRefusal : EdgeFault → List ℕ → Option ℕ → Type 0
IsHearingRefusal TooManyRequests bytes supply = (messages : List Message) × (rest : List ℕ) × Messages bytes messages rest × (request_limit < length messages)
IsHearingRefusal DrawsShort bytes supply = (messages : List Message) × (rest : List ℕ) × Messages bytes messages rest × (length messages ≤ request_limit) ×
    FallsShort supply (length messages)
IsHearingRefusal Memory bytes supply = (messages : List Message) × (rest : List ℕ) × Messages bytes messages rest × (length messages ≤ request_limit) ×
    Suffices supply (length messages)
IsHearingRefusal fault bytes supply = ⊥
