-- One more request is answered.
use Rattle.std.proofs.Common.{◌≡◌, ℕ, List, [], ◌∷◌, ◌++◌, ◌+◌, false, length, length-append, map, append_assoc, append-nil, refl, ap, subst, ◌∙◌, sym, arith}
use Rattle.http_edge.proofs.Names.{map-append, max, Hosting, Event, Change, event_at, with_changes, Draws, Asked, Written, in_writing, reply_bytes, says_with, request_outcome, SeenServer, Outset}
use Rattle.http_edge.proofs.Names.{Before, FitsServer, AreNoted, IsStep, Message, Messages, asked_of_message, AnsweredRequest, answerer, IsOutcomeOfRequest, AreAnswered, AreAskedBy, changes_made, draws_in}
use Rattle.http_edge.proofs.Names.{replies_of, ends_of, end_if, faulty_if, SeenOutput, Said, said_so, tellings_of, lane_output, with_reply, with_faulty, AreMessagesServed, IsStillNone, IsHeard, IsHearingRefusal, timed_bytes, hearing, before_messages, replying, SeenLane, Sources, Memory}
use Rattle.std.proofs.lemmas.List.Concat.{flat_map-append}
use Rattle.std.specs.Prelude.{Option}
use Rattle.answers.specs.Outcomes.{Outcome}
use Rattle.answers.specs.Setting.{Setting}
use Rattle.endpoints.specs.Telling.{Heeded, StepsTelling, heeded, request_told}
use Rattle.telling.specs.Audience.{Audience, heard_by, heard_some}
use Rattle.telling.specs.AudienceLaws.{heard_next, none_heard}
use Rattle.telling.specs.Interests.{wanted_of}
use Rattle.telling.specs.declared.telling.Stepped.{Stepped}
use Rattle.telling.specs.declared.told.Told.{Told}
use Rattle.http_edge.proofs.Drawing.{suffices_none}

-- changes after changes
pub changes_join : (history : List Event) (m : ℕ) (a b : List Change) → with_changes (with_changes history m a) m b ≡ with_changes history m (a ++ b)
changes_join history m a b = append_assoc history (map (event_at m) a) (map (event_at m) b) ∙ ap (λ l. history ++ l) (sym (map-append (event_at m) a b))

changes_push : (rs : List AnsweredRequest) (r : AnsweredRequest) → changes_made (rs ++ r ∷ []) ≡ changes_made rs ++ r.outcome.changes
changes_push rs r = flat_map-append (λ x. x.outcome.changes) rs (r ∷ []) ∙ ap (λ l. changes_made rs ++ l) (append-nil r.outcome.changes)

replies_push : (rs : List AnsweredRequest) (r : AnsweredRequest) → replies_of (rs ++ r ∷ []) ≡ replies_of rs ++ reply_bytes (in_writing r.outcome.reply)
replies_push rs r =
    flat_map-append (λ x. reply_bytes (in_writing x.outcome.reply)) rs (r ∷ []) ∙ ap (λ l. replies_of rs ++ l) (append-nil (reply_bytes (in_writing r.outcome.reply)))

-- how long a reply is
abbrev size_of : AnsweredRequest → ℕ
size_of r = length (reply_bytes (in_writing r.outcome.reply))

-- the end of one more reply is behind all the others
ends_push : (start : ℕ) (rs : List AnsweredRequest) (r : AnsweredRequest) → ends_of start (rs ++ r ∷ []) ≡ ends_of start rs ++ (start + length (replies_of rs) + size_of r) ∷ []
ends_push start [] r = ap (λ n. n ∷ []) (let is : start + size_of r ≡ start + 0 + size_of r = omega arith in is)
ends_push start (x ∷ rs) r =
    let size = length-append (reply_bytes (in_writing x.outcome.reply)) (replies_of rs) in
    let is : start + size_of x + length (replies_of rs) + size_of r ≡ start + length (replies_of (x ∷ rs)) + size_of r = omega (arith, size) in
    ap (λ l. (start + size_of x) ∷ l) (ends_push (start + size_of x) rs r ∙ ap (λ n. ends_of (start + size_of x) rs ++ n ∷ []) is)

answered_push : {H : Type 0} (hosting : Hosting H) (outset : Outset H) (m : ℕ) (history : List Event) (host between after : H) (rs : List AnsweredRequest) (r : AnsweredRequest) →
    AreAnswered hosting (answerer outset history host m) rs between →
    IsOutcomeOfRequest hosting (answerer outset (with_changes history m (changes_made rs)) between m) r after →
    AreAnswered hosting (answerer outset history host m) (rs ++ r ∷ []) after
answered_push {H} hosting outset m history host between after [] r all is =
    (after, subst (λ (h : H). IsOutcomeOfRequest hosting (answerer outset history h m) r after) all (rw append-nil at is), refl)
answered_push hosting outset m history host between after (x ∷ rs) r all is = (
  all.0,
  all.1,
  answered_push hosting outset m (with_changes history m x.outcome.changes) all.0 between after rs r all.2 (rw (← changes_join history m x.outcome.changes (changes_made rs)) at is),
)

-- one more request asks what one more message asks
asked_push : (messages : List Message) (message : Message) (rs : List AnsweredRequest) (r : AnsweredRequest) → r.asked ≡ asked_of_message message → AreAskedBy messages rs →
    AreAskedBy (messages ++ message ∷ []) (rs ++ r ∷ [])
asked_push messages message rs r same asked =
    map-append (λ (x : AnsweredRequest). x.asked) rs (r ∷ []) ∙ ap (λ (l : List Asked). l ++ r.asked ∷ []) asked
    ∙ ap (λ (q : Asked). map asked_of_message messages ++ q ∷ []) same ∙ sym (map-append asked_of_message messages (message ∷ []))

draws_push : (draws : List Draws) (rs : List AnsweredRequest) (r : AnsweredRequest) → draws ≡ draws_in rs → draws ++ r.draws ∷ [] ≡ draws_in (rs ++ r ∷ [])
draws_push draws rs r are = ap (λ (l : List Draws). l ++ r.draws ∷ []) are ∙ sym (map-append (λ (x : AnsweredRequest). x.draws) rs (r ∷ []))

tellings_push : (rs : List AnsweredRequest) (r : AnsweredRequest) → tellings_of (rs ++ r ∷ []) ≡ tellings_of rs ++ r.told ∷ []
tellings_push rs r = map-append (λ (x : AnsweredRequest). x.told) rs (r ∷ [])

-- a request as it comes, and of which requests it is to be told by what was said so far
abbrev pub heeded_by : Said → Asked → ℕ → Draws → Heeded
heeded_by said asked moment draws = heeded (record { asked = asked; moment = moment; draws = draws }) said.audience.interest

-- what is said once this is answered too
abbrev pub said_then : Said → Stepped → Said
said_then said stepped = said_so (with_reply said.output (reply_bytes stepped.reply)) (heard_some said.audience stepped.told)

-- it answers it after the others
served_more : {H : Type 0} (hosting : Hosting H) (before : Before H) (server server' : SeenServer H) (first now : Said) (g moment : ℕ) (messages : List Message) (draws : List Draws) (rs : List AnsweredRequest) (message : Message) (d : Draws) (stepped : Stepped) (asked : Asked) →
    asked ≡ asked_of_message message → max g moment ≡ before.moment → AreAskedBy messages rs → draws ≡ draws_in rs →
    AreAnswered hosting (answerer before.outset before.history before.server.host before.moment) rs server.host → now.output.bytes ≡ first.output.bytes ++ replies_of rs → now.output.ends ≡ first.output.ends ++ ends_of (length first.output.bytes) rs →
    now.audience ≡ heard_by first.audience (tellings_of rs) →
    FitsServer hosting server before.outset (with_changes before.history before.moment (changes_made rs)) g →
    AreNoted before.server server before.history (with_changes before.history before.moment (changes_made rs)) →
    StepsTelling hosting server (heeded_by now asked moment d) stepped server' →
    AreMessagesServed hosting before first (record { messages = messages ++ message ∷ []; moment = moment; draws = draws ++ d ∷ [] }) (replying server' (said_then now stepped))
served_more hosting before server server' first now g moment messages draws rs message d stepped asked asks later all are answered written_is ends_are heard fits noted steps =
    let output = first.output in
    let out = now.output in
    let reply = stepped.reply in
    let m = before.moment in
    let h = with_changes before.history m (changes_made rs) in
    let step = steps before.outset h g fits in
    let setting : Setting = record {
      rules = before.outset.rules;
      history = h;
      host = says_with hosting server.host step.1;
      moment = m;
      draws = d;
    } in
    let o : Outcome = request_outcome step.0 setting asked in
    let t : Told = request_told step.0 (hosting.verdicts server.host) setting asked in
    let tells = rw later at step.4 in
    let r : AnsweredRequest = record { asked = asked; draws = d; mishap = record { refused = step.0; fault = step.1 }; outcome = o; told = t } in
    let done : IsStep hosting (record { server = server; outset = before.outset; history = h; moment = m }) o reply server' = rw later at step.3 in
    let is : IsOutcomeOfRequest hosting (answerer before.outset h server.host m) r server'.host = record { fault = step.2; outcome_is = refl; told_is = refl; changes = done.hosts } in
    let joined = changes_join before.history m (changes_made rs) o.changes ∙ ap (with_changes before.history m) (sym (changes_push rs r)) in
    record {
      requests = rs ++ r ∷ [];
      asked = asked_push messages message rs r asks all;
      draws = draws_push draws rs r are;
      answered = answered_push hosting before.outset m before.history before.server.host server.host server'.host rs r answered is;
      output_is =
          ap (λ x. x ++ reply_bytes reply) written_is ∙ append_assoc output.bytes (replies_of rs) (reply_bytes reply)
          ∙ ap (λ x. output.bytes ++ (replies_of rs ++ reply_bytes x)) done.reply_is ∙ ap (λ x. output.bytes ++ x) (sym (replies_push rs r));
      ends_are =
          (let size = ap length written_is in
          let parts = length-append output.bytes (replies_of rs) in
          let same = ap (λ x. length (reply_bytes x)) done.reply_is in
          let is : length out.bytes + length (reply_bytes reply) ≡ length output.bytes + length (replies_of rs) + size_of r = omega (arith, size, parts, same) in
          ap (λ x. x ++ (length out.bytes + length (reply_bytes reply)) ∷ []) ends_are ∙ append_assoc output.ends (ends_of (length output.bytes) rs) _
          ∙ ap (λ n. output.ends ++ (ends_of (length output.bytes) rs ++ n ∷ [])) is ∙ ap (λ x. output.ends ++ x) (sym (ends_push (length output.bytes) rs r)));
      heard =
          ap (λ a. heard_some a stepped.told) heard
          ∙ heard_next first.audience (tellings_of rs) stepped.told t (tells ∙ ap (λ (a : Audience). wanted_of a.interest t) heard)
          ∙ ap (heard_by first.audience) (sym (tellings_push rs r));
      fits = rw joined at done.fits;
      noted = λ kept notes. rw joined at (done.noted kept (noted kept notes));
    }

-- no request is answered yet
pub served_none : {H : Type 0} (hosting : Hosting H) (server : SeenServer H) (said : Said) (moment : ℕ) (outset : Outset H) (history : List Event) (m : ℕ) →
    FitsServer hosting server outset history m →
    AreMessagesServed hosting (record { server = server; outset = outset; history = history; moment = m }) said (record { messages = []; moment = moment; draws = [] }) (replying server said)
served_none hosting server said moment outset history m fits = record {
  requests = [];
  asked = refl;
  draws = refl;
  answered = refl;
  output_is = sym (append-nil said.output.bytes);
  ends_are = sym (append-nil said.output.ends);
  heard = sym (none_heard said.audience);
  fits = rw append-nil fits;
  noted = λ kept notes. rw append-nil notes;
}

none_asked : (rs : List AnsweredRequest) → AreAskedBy [] rs → rs ≡ []
none_asked [] asked = refl
none_asked (r ∷ rs) asked = absurd (cc)

-- one more message, which asks this, is answered
pub served_push : {H : Type 0} (hosting : Hosting H) (first server server' : SeenServer H) (begun now : Said) (outset : Outset H) (history : List Event) (m moment : ℕ) (messages : List Message) (draws : List Draws) (message : Message) (d : Draws) (stepped : Stepped) (asked : Asked) →
    asked ≡ asked_of_message message →
    AreMessagesServed hosting (before_messages first outset history m (record { messages = messages; moment = moment; draws = draws })) begun (record { messages = messages; moment = moment; draws = draws }) (replying server now) →
    StepsTelling hosting server (heeded_by now asked moment d) stepped server' →
    AreMessagesServed hosting (before_messages first outset history m (record { messages = messages ++ message ∷ []; moment = moment; draws = draws ++ d ∷ [] })) begun
    (record { messages = messages ++ message ∷ []; moment = moment; draws = draws ++ d ∷ [] }) (replying server' (said_then now stepped))
served_push hosting first server server' begun now outset history m moment [] draws message d stepped asked asks served steps =
    let none = none_asked served.requests served.asked in
    let said : now.output.bytes ≡ begun.output.bytes ++ [] = served.output_is ∙ ap (λ rs. begun.output.bytes ++ replies_of rs) none in
    let ends : now.output.ends ≡ begun.output.ends ++ [] = served.ends_are ∙ ap (λ rs. begun.output.ends ++ ends_of (length begun.output.bytes) rs) none in
    let heard : now.audience ≡ heard_by begun.audience [] = served.heard ∙ ap (λ rs. heard_by begun.audience (tellings_of rs)) none in
    served_more hosting (record { server = first; outset = outset; history = history; moment = max m moment }) server server' begun now m moment [] draws [] message d stepped asked asks refl refl
    (served.draws ∙ ap draws_in none) (rw none at served.answered) said ends heard (rw none at served.fits) (rw none at served.noted) steps
served_push hosting first server server' begun now outset history m moment (x ∷ messages) draws message d stepped asked asks served steps =
    served_more hosting (record { server = first; outset = outset; history = history; moment = max m moment }) server server' begun now (max m moment) moment (x ∷ messages) draws served.requests message d stepped asked asks (omega arith)
    served.asked served.draws served.answered served.output_is served.ends_are served.heard served.fits served.noted steps

abbrev of_parts : List ℕ → List ℕ → SeenOutput
of_parts bytes ends = record { bytes = bytes; ends = ends }

-- no 400 of a faulty head is none more
faulty_none : (output : SeenOutput) → output ≡ with_faulty output false
faulty_none output = ap (λ bytes. of_parts bytes output.ends) (sym (append-nil output.bytes)) ∙ ap (of_parts (output.bytes ++ [])) (sym (append-nil output.ends))

-- bytes in which there is no message are heard
pub heard_none : {H S : Type 0} (hosting : Hosting H) (sources : Sources S) (server : SeenServer H) (source : S) (audience : Audience) (lane lane' : SeenLane) (bytes : List ℕ) (moment : ℕ) → IsStillNone bytes →
    lane'.rest ≡ bytes → lane_output lane' ≡ lane_output lane → lane'.number ≡ lane.number → lane'.phase ≡ lane.phase →
    IsHeard hosting sources (hearing server lane source audience) (timed_bytes bytes moment) (hearing server lane' source audience)
heard_none hosting sources server source audience lane lane' bytes moment none same output number phase = record {
  messages = [];
  closes = false;
  read = record { rest = bytes; reads = record { reads = refl; none = none.none }; few = omega arith; kept_is = same; may_tell = λ e. absurd (cc); must_tell = λ must. absurd (none.untold must) };
  enough = suffices_none (sources.supply source);
  middle = lane_output lane;
  serves = λ outset history m fits. served_none hosting server (said_so (lane_output lane) audience) moment outset history m fits;
  output_is = output ∙ faulty_none (lane_output lane);
  number_is = number;
  phase_is = phase;
  source_is = refl;
}

-- where memory is refused, it is for nothing that was to be answered
pub refused_none : (bytes : List ℕ) (supply : Option ℕ) → IsStillNone bytes → IsHearingRefusal Memory bytes supply
refused_none bytes supply none =
    let reads : Messages bytes [] bytes = record { reads = refl; none = none.none } in
    ([], bytes, reads, omega arith, suffices_none supply)
