-- What came and went on connections, what was kept, and what the server's outputs are then.
use Rattle.std.specs.Prelude.{◌≡◌, ◌⊎◌, ◌≤◌, ◌<◌, ◌+◌, ℕ, List, [], ◌∷◌, ◌++◌, Bool, true, false, not, Option, Some, None, ◌==◌, if◌then◌else◌, find, filter, length, drop, max, Contains, ⊤}
use Rattle.http_edge.specs.Names.{Hosting, IsFrontOf, IsHistory, with_changes, Draws, faulty_bytes, AllRight, Outset, Message, Messages, IsHopeless, MustTell, MayTell, Phase, Closing, Ended, Closed}
use Rattle.clients.specs.RegistryRecord.{RegistryRecord}
use Rattle.consent.specs.History.{Event}
use Rattle.http_edge.specs.Limits.{connection_limit, piece_limit, request_limit}
use Rattle.endpoints.specs.Hosts.{HostRun}
use Rattle.http_edge.specs.Answers.{Mishap, AnsweredRequest, AreAnswered, answerer, AreAskedBy, draws_in, mishaps_in, changes_made, replies_of, ends_of, tellings_of}
use Rattle.http_edge.specs.declared.lane.Phase.TheVariants.{Open}
use Rattle.telling.specs.declared.told.Told.{Told}

-- a piece of a connection's stream, which came at a moment
pub record Piece : Type 0 where
  pub connection : ℕ
  pub bytes : List ℕ
  pub moment : ℕ

abbrev pub piece_of : ℕ → List ℕ → ℕ → Piece
piece_of c bytes moment = record { connection = c; bytes = bytes; moment = moment }

-- a piece that was answered: with draws for the requests that it completed, and with what was free, which is a mishap for each
-- of these, whether the 400 of a faulty head was given, and what is told of them
pub record AnsweredPiece : Type 0 where
  pub piece : Piece
  pub draws : List Draws
  pub mishaps : List Mishap
  pub closes : Bool
  pub tellings : List Told

-- an accepted event
pub data Happening : Type 0 where
  Opened : (c : ℕ) → Happening
  Came : (came : AnsweredPiece) → Happening
  HasEnded : (c : ℕ) → Happening
  Taken : (c n : ℕ) → Happening
  Forgotten : (c : ℕ) → Happening
  -- what the server has done is kept, so that it outlives the server
  Kept : Happening
  -- the edge begins over a server to which this has happened, and of which this was kept, if anything is kept
  Resumed : (history : List Event) → (greatest : ℕ) → (kept : Option (List Event)) → Happening

-- its stream has ended
abbrev pub has_stream_ended : Phase → Bool
has_stream_ended Open = false
has_stream_ended Closing = false
has_stream_ended Ended = true
has_stream_ended Closed = true

-- the 400 of a faulty head was given
abbrev pub is_closing_phase : Phase → Bool
is_closing_phase Open = false
is_closing_phase Closing = true
is_closing_phase Ended = false
is_closing_phase Closed = true

-- the phase once the stream has ended
abbrev pub ended : Phase → Phase
ended phase = if is_closing_phase phase then Closed else Ended

-- a connection from its opening on: all that came, the messages that were answered, all its output, up to how many bytes of that
-- the ends of its replies are, and how much of it was taken
pub record Connection : Type 0 where
  pub number : ℕ
  pub phase : Phase
  pub stream : List ℕ
  pub messages : List Message
  pub output : List ℕ
  pub ends : List ℕ
  pub taken : ℕ

-- the connections that were not forgotten, in the order of their opening, the greatest moment that a request was
-- handed, what the server has done, and how much of that was kept, if anything is kept
pub record World : Type 0 where
  pub connections : List Connection
  pub greatest : ℕ
  pub history : List Event
  pub kept : Option (List Event)

-- nothing has happened yet, and nothing is kept
abbrev pub first_world : World
first_world = record { connections = []; greatest = 0; history = []; kept = None }

-- nothing has happened since the history and its greatest moment
abbrev pub resumed : List Event → ℕ → Option (List Event) → World
resumed history greatest kept = record { connections = []; greatest = greatest; history = history; kept = kept }

-- THE CONNECTIONS

abbrev pub connection_at : List Connection → ℕ → Option Connection
connection_at connections c = find (λ k. k.number == c) connections

-- the connection of that number is other
abbrev pub with_connection : ℕ → Connection → List Connection → List Connection
with_connection c new [] = []
with_connection c new (k ∷ more) = if k.number == c then new ∷ more else k ∷ with_connection c new more

abbrev pub without_connection : ℕ → List Connection → List Connection
without_connection c connections = filter (λ k. not (k.number == c)) connections

-- one that was just opened
abbrev pub fresh : ℕ → Connection
fresh c = record { number = c; phase = Open; stream = []; messages = []; output = []; ends = []; taken = 0 }

-- what is to be taken of its output
abbrev pub untaken : Option Connection → List ℕ
untaken None = []
untaken (Some k) = drop k.taken k.output

-- so many bytes are left of it up to the next end of a reply: none right behind one
pub record IsLeftOfReply (k : Connection) (n : ℕ) : Type 0 where
  pub ends : Contains k.ends (k.taken + n)
  pub within : k.taken + n ≤ length k.output
  pub next : (m : ℕ) → m < n → ¬ (Contains k.ends (k.taken + m))

-- of a connection that has output
abbrev pub AreLeftOfReply : Option Connection → ℕ → Type 0
AreLeftOfReply None n = n ≡ 0
AreLeftOfReply (Some k) n = 0 < length k.output → IsLeftOfReply k n

-- ONE EVENT

-- the 400 of a faulty head, where it is given
abbrev pub faulty_if : Bool → List ℕ
faulty_if closes = if closes then faulty_bytes else []

-- behind so many bytes it ends
abbrev pub end_if : Bool → ℕ → List ℕ
end_if closes n = if closes then n ∷ [] else []

-- only requests move the greatest moment
abbrev pub moment_after : ℕ → ℕ → List Message → ℕ
moment_after greatest moment [] = greatest
moment_after greatest moment (message ∷ messages) = max greatest moment

-- the connection after bytes, with what they complete
abbrev pub heard : Connection → List ℕ → List Message → List AnsweredRequest → Bool → Connection
heard k bytes messages requests closes = record {
  number = k.number;
  phase = if closes then Closing else Open;
  stream = k.stream ++ bytes;
  messages = k.messages ++ messages;
  output = k.output ++ (replies_of requests ++ faulty_if closes);
  ends = k.ends ++ (ends_of (length k.output) requests ++ end_if closes (length (k.output ++ (replies_of requests ++ faulty_if closes))));
  taken = k.taken;
}

-- bytes came on an open connection: the messages that they complete are those of its whole stream, and are answered, each with
-- draws of its own
pub record PieceComes {H : Type 0} (hosting : Hosting H) (outset : Outset H) (old : World) (came : AnsweredPiece) (new : World) : Type 0 where
  pub before : Connection
  pub here : connection_at old.connections came.piece.connection ≡ Some before
  pub is_open : before.phase ≡ Open
  pub messages : List Message
  pub rest : List ℕ
  pub reads : Messages (before.stream ++ came.piece.bytes) (before.messages ++ messages) rest
  pub few : length messages ≤ request_limit
  pub requests : List AnsweredRequest
  pub asked : AreAskedBy messages requests
  -- draws may be left
  pub left : List Draws
  pub draws : came.draws ≡ draws_in requests ++ left
  pub mishaps : came.mishaps ≡ mishaps_in requests
  pub tellings : came.tellings ≡ tellings_of requests
  -- the host with which they begin, and the one that they leave
  pub host : H
  pub comes : HostRun hosting outset.first old.history host
  pub after : H
  pub answered : AreAnswered hosting (answerer outset old.history host new.greatest) requests after
  -- a faulty head is told of only where nothing good can come and it may be, and at the latest where it must be
  pub may_tell : came.closes ≡ true → IsHopeless rest × MayTell rest
  pub must_tell : MustTell rest → came.closes ≡ true
  pub greatest : new.greatest ≡ moment_after old.greatest came.piece.moment messages
  pub history : new.history ≡ with_changes old.history new.greatest (changes_made requests)
  pub kept : new.kept ≡ old.kept
  pub connections : new.connections ≡
      with_connection came.piece.connection (heard before came.piece.bytes messages requests came.closes) old.connections

-- the server's side is as it was
pub record IsServerStill (old new : World) : Type 0 where
  pub greatest : new.greatest ≡ old.greatest
  pub history : new.history ≡ old.history
  pub kept : new.kept ≡ old.kept

-- bytes that come after the 400 of a faulty head change nothing
pub record PiecePasses (old : World) (came : AnsweredPiece) (new : World) : Type 0 where
  pub before : Connection
  pub here : connection_at old.connections came.piece.connection ≡ Some before
  pub is_closing : before.phase ≡ Closing
  pub no_mishaps : came.mishaps ≡ []
  pub none_told : came.tellings ≡ []
  pub no_more : came.closes ≡ false
  pub same : new ≡ old

-- a connection is opened that was not there, and there are not too many
pub record Opens (old new : World) (c : ℕ) : Type 0 where
  pub absent : connection_at old.connections c ≡ None
  pub few : length old.connections < connection_limit
  pub still : IsServerStill old new
  pub connections : new.connections ≡ old.connections ++ fresh c ∷ []

-- the stream of a connection ends
pub record StreamEnds (old new : World) (c : ℕ) : Type 0 where
  pub before : Connection
  pub here : connection_at old.connections c ≡ Some before
  pub not_ended : has_stream_ended before.phase ≡ false
  pub still : IsServerStill old new
  pub connections : new.connections ≡ with_connection c (record before { phase = ended before.phase }) old.connections

-- so many bytes of a connection's output are taken
pub record TakesOutput (old new : World) (c n : ℕ) : Type 0 where
  pub before : Connection
  pub here : connection_at old.connections c ≡ Some before
  pub fits : before.taken + n ≤ length before.output
  pub still : IsServerStill old new
  pub connections : new.connections ≡ with_connection c (record before { taken = before.taken + n }) old.connections

-- of a connection that is not there nothing is taken
pub record TakesNothing (old new : World) (c n : ℕ) : Type 0 where
  pub absent : connection_at old.connections c ≡ None
  pub nothing : n ≡ 0
  pub same : new ≡ old

-- a connection is forgotten, if it is there
pub record ForgetsConnection (old new : World) (c : ℕ) : Type 0 where
  pub still : IsServerStill old new
  pub connections : new.connections ≡ without_connection c old.connections

-- where something was kept before, the server's whole history is kept
pub record KeepsHistory (old new : World) : Type 0 where
  pub before : List Event
  pub kept_before : old.kept ≡ Some before
  pub kept : new ≡ record old { kept = Some old.history }

-- what was kept, if anything is kept, is the beginning of what has happened
abbrev pub IsKeptOf : Option (List Event) → List Event → Type 0
IsKeptOf None history = ⊤
IsKeptOf (Some kept) history = IsFrontOf kept history

-- where nothing has happened yet, the server goes on from a history that is right under its rules
pub record Resumes (rules : RegistryRecord) (old new : World) : Type 0 where
  pub first : old ≡ first_world
  pub is_history : IsHistory new.history new.greatest
  pub right : AllRight rules [] new.history
  pub kept : IsKeptOf new.kept new.history

abbrev pub Happens : {H : Type 0} → Hosting H → Outset H → World → Happening → World → Type 0
Happens hosting outset old (Opened c) new = Opens old new c
Happens hosting outset old (Came came) new =
    (length came.piece.bytes ≤ piece_limit) × (PieceComes hosting outset old came new ⊎ PiecePasses old came new)
Happens hosting outset old (HasEnded c) new = StreamEnds old new c
Happens hosting outset old (Taken c n) new = TakesOutput old new c n ⊎ TakesNothing old new c n
Happens hosting outset old (Forgotten c) new = ForgetsConnection old new c
Happens hosting outset old Kept new = KeepsHistory old new
Happens hosting outset old (Resumed history greatest kept) new = Resumes outset.rules old new × (new ≡ resumed history greatest kept)

-- A SCHEDULE

abbrev pub Run : {H : Type 0} → Hosting H → Outset H → World → List Happening → World → Type 0
Run hosting outset old [] new = new ≡ old
Run hosting outset old (e ∷ later) new =
    (middle : World) × Happens hosting outset old e middle × Run hosting outset middle later new
