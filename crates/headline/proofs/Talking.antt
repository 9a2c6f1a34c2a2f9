-- Connections are conversations, event by event.
use Rattle.std.proofs.Common.{◌≡◌, ◌≢◌, ◌≤◌, inl, inr, arith, ◌+◌, ℕ, List, [], ◌∷◌, ◌++◌, Bool, true, false, Some, None, cond, length, take, append_assoc, append-nil, refl, sym, ap, subst, ◌∙◌}
use Rattle.headline.proofs.Names.{◌==◌, map-append, All-append, All-cons, All-nil, All-weaker, Hosting, with_changes, event_at, Asked, Outset, AnsweredRequest, AreAnswered, AreAskedBy, changes_made}
use Rattle.headline.proofs.Names.{draws_in, mishaps_in, replies_of, World, Connection, AnsweredPiece, Happening, Opened, Came, HasEnded, Taken, Forgotten, Kept, Resumed, Happens, Run, PieceComes}
use Rattle.headline.proofs.Names.{Opens, StreamEnds, TakesOutput, ForgetsConnection, connection_at, with_connection, fresh, heard, is_closing_phase, faulty_if, HostRun}
use Rattle.std.specs.Prelude.{All, map}
use Rattle.std.proofs.lemmas.Bool.{eqb-true}
use Rattle.std.proofs.lemmas.List.Concat.{flat_map-append}
use Rattle.std.proofs.lemmas.List.Sums.{fold-append}
use Rattle.consent.specs.History.{Event}
use Rattle.endpoints.proofs.Stepping.{host_join}
use Rattle.messages.specs.Written.{in_writing, reply_bytes}
use Rattle.messages.specs.declared.request.Draws.{Draws}
use Rattle.heads.specs.Message.{Message, asked_of_message}
use Rattle.heads.specs.ReadingLaws.{nothing_has_none}
use Rattle.http_edge.specs.Answers.{answerer}
use Rattle.http_edge.specs.Names.{IsFrontOf}
use Rattle.http_edge.specs.Reached.{Journey, led_on}
use Rattle.http_edge.specs.Schedule.{ended, moment_after}
use Rattle.http_edge.specs.declared.lane.Phase.{Phase}
use Rattle.http_edge.specs.declared.lane.Phase.TheVariants as phase
use Rattle.headline.specs.Conversations.{Conversation, HasConversations, HasOutcome, draws_on, with_draws}
use Rattle.http_edge.proofs.Connections.{by_number, same_connection, found_number, found_put, found_fresh, found_gone, put_other, added_other, without_other}

-- a world's history and its greatest moment go on from another's
record HasGrown (old new : World) : Type 0 where
  pub front : IsFrontOf old.history new.history
  pub greatest : old.greatest ≤ new.greatest

grown_still : (old new : World) → new.history ≡ old.history → new.greatest ≡ old.greatest → HasGrown old new
grown_still old new history greatest = record { front = ([], history ∙ sym (append-nil old.history)); greatest = omega (arith, greatest) }

-- only requests move the greatest moment, and only onwards
moved_onwards : (greatest m : ℕ) (messages : List Message) → greatest ≤ moment_after greatest m messages
moved_onwards greatest m [] = omega arith
moved_onwards greatest m (message ∷ messages) = omega arith

grown_came : {H : Type 0} (hosting : Hosting H) (outset : Outset H) (old new : World) (came : AnsweredPiece) → PieceComes hosting outset old came new → HasGrown old new
grown_came hosting outset old new came comes = record {
  front = (map (event_at new.greatest) (changes_made comes.requests), comes.history);
  greatest = (let moved = moved_onwards old.greatest came.piece.moment comes.messages in let is = comes.greatest in omega (arith, moved, is));
}

-- the outcome of a request stays one
outcome_stays : {H : Type 0} (hosting : Hosting H) (outset : Outset H) (old new : World) → HasGrown old new → (request : AnsweredRequest) → HasOutcome hosting outset old request →
    HasOutcome hosting outset new request
outcome_stays hosting outset old new grown request has =
    let front = with_changes has.history has.moment request.outcome.changes in
    let is = has.so_far in
    let on = grown.greatest in
    record {
      moment = has.moment;
      so_far = omega (arith, is, on);
      history = has.history;
      front = (has.front.0 ++ grown.front.0, grown.front.1 ∙ ap (λ (l : List Event). l ++ grown.front.0) has.front.1 ∙ append_assoc front has.front.0 grown.front.0);
      host = has.host;
      comes = has.comes;
      after = has.after;
      answered = has.answered;
    }

-- requests that were answered one after another have outcomes
have_outcomes : {H : Type 0} (hosting : Hosting H) (outset : Outset H) (world : World) (m : ℕ) (history : List Event) (host after : H) (requests : List AnsweredRequest) →
    m ≤ world.greatest → HostRun hosting outset.first history host → IsFrontOf (with_changes history m (changes_made requests)) world.history →
    AreAnswered hosting (answerer outset history host m) requests after → All (HasOutcome hosting outset world) requests
have_outcomes hosting outset world m history host after [] so_far comes front a = All-nil (HasOutcome hosting outset world)
have_outcomes hosting outset world m history host after (r ∷ requests) so_far comes front a =
    let next = with_changes history m r.outcome.changes in
    let more = map (event_at m) (changes_made requests) in
    let joined : with_changes history m (changes_made (r ∷ requests)) ≡ next ++ more =
    ap (λ (l : List Event). history ++ l) (map-append (event_at m) r.outcome.changes (changes_made requests)) ∙ sym (append_assoc history (map (event_at m) r.outcome.changes) more) in
    let on : IsFrontOf (next ++ more) world.history = subst (λ (l : List Event). IsFrontOf l world.history) joined front in
    All-cons (HasOutcome hosting outset world) r requests
    (record {
      moment = m;
      so_far = so_far;
      history = history;
      front = (more ++ on.0, on.1 ∙ append_assoc next more on.0);
      host = host;
      comes = comes;
      after = a.0;
      answered = a.1;
    })
    (have_outcomes hosting outset world m next a.0 after requests so_far (host_join hosting outset.first host a.0 history (with_changes [] m r.outcome.changes) comes a.1.changes) on a.2)

-- more requests ask what more messages ask
join_asked : (messages more : List Message) (requests later : List AnsweredRequest) → AreAskedBy messages requests → AreAskedBy more later →
    AreAskedBy (messages ++ more) (requests ++ later)
join_asked messages more requests later a b =
    map-append (λ (r : AnsweredRequest). r.asked) requests later ∙ ap (λ (l : List Asked). l ++ map (λ (r : AnsweredRequest). r.asked) later) a
    ∙ ap (λ (l : List Asked). map asked_of_message messages ++ l) b ∙ sym (map-append asked_of_message messages more)

-- the draws of the requests come first
their_draws : (requests : List AnsweredRequest) (left : List Draws) → take (length (mishaps_in requests)) (draws_in requests ++ left) ≡ draws_in requests
their_draws [] left = refl
their_draws (r ∷ requests) left = ap (λ ds. r.draws ∷ ds) (their_draws requests left)

-- a stream's end tells nothing of faulty heads
closing_stays : (p : Phase) → is_closing_phase (ended p) ≡ is_closing_phase p
closing_stays p = grind arith

closing_told : (closes : Bool) → is_closing_phase (cond closes phase.Closing phase.Open) ≡ closes
closing_told closes = grind arith

-- what comes on one connection, or opens it, draws nothing for another
undrawn : (c d : ℕ) (draws other : List Draws) → d ≢ c → cond (c == d) other draws ≡ draws
undrawn c d draws other apart = by_number c d (λ b. cond b other draws ≡ draws) (λ same. absurd (apart (sym same))) (λ _. refl)

drawn_here : (c d : ℕ) (draws other : List Draws) → d ≡ c → cond (c == d) other draws ≡ other
drawn_here c d draws other is = by_number c d (λ b. cond b other draws ≡ other) (λ _. refl) (λ apart. absurd (apart is))

-- nor does a piece without requests
passes_undrawn : (came : AnsweredPiece) → came.mishaps ≡ [] → (d : ℕ) (draws : List Draws) → with_draws d draws (Came came) ≡ draws
passes_undrawn came none d draws =
    let same : draws ++ take (length came.mishaps) came.draws ≡ draws = rw none (append-nil draws) in
    elim (came.piece.connection == d) as (λ b. cond b (draws ++ take (length came.mishaps) came.draws) draws ≡ draws) [ true ↦ same | false ↦ refl ]

-- one event leads on
module _ {H : Type 0} (hosting : Hosting H) (journey : Journey H) (e : Happening) (new : World) (grown : HasGrown journey.world new) (talks : HasConversations hosting journey) where
  abbrev later : Journey H
  later = led_on journey (e ∷ []) new

  draws_then : (c : ℕ) → draws_on c later.schedule ≡ with_draws c (draws_on c journey.schedule) e
  draws_then c = fold-append (with_draws c) [] journey.schedule (e ∷ [])

  -- no draws came on the connection
  carried : (k : Connection) → with_draws k.number (draws_on k.number journey.schedule) e ≡ draws_on k.number journey.schedule → Conversation hosting journey k → Conversation hosting later k
  carried k none t = record {
    rest = t.rest;
    reads = t.reads;
    requests = t.requests;
    asked = t.asked;
    draws = t.draws ∙ sym (draws_then k.number ∙ none);
    each = All-weaker (HasOutcome hosting journey.outset journey.world) (HasOutcome hosting journey.outset new) (outcome_stays hosting journey.outset journey.world new grown) t.requests t.each;
    replies = t.replies;
  }

  -- all connections are as they were
  talks_same : ((d : ℕ) (draws : List Draws) → with_draws d draws e ≡ draws) → new.connections ≡ journey.world.connections → HasConversations hosting later
  talks_same none same d k here = carried k (none k.number (draws_on k.number journey.schedule)) (talks d k (ap (λ ks. connection_at ks d) (sym same) ∙ here))

  module _ (c : ℕ) (none : (d : ℕ) (draws : List Draws) → d ≢ c → with_draws d draws e ≡ draws) where
    -- all but this one are as they were
    changed : ((d : ℕ) → d ≢ c → connection_at new.connections d ≡ connection_at journey.world.connections d) →
        ((k : Connection) → connection_at new.connections c ≡ Some k → Conversation hosting later k) → HasConversations hosting later
    changed others this d k here =
        by_number c d (λ b. Conversation hosting later k)
        (λ same. this k (ap (λ n. connection_at new.connections n) same ∙ here))
        (λ other.
        let there = sym (others d other) ∙ here in
        let is = eqb-true k.number d (found_number journey.world.connections d k there) in
        carried k (none k.number (draws_on k.number journey.schedule) (λ same. other (sym is ∙ same))) (talks d k there))

    -- this one is there now
    becomes : (x : Connection) → connection_at new.connections c ≡ Some x → Conversation hosting later x →
        (k : Connection) → connection_at new.connections c ≡ Some k → Conversation hosting later k
    becomes x now talk k here = subst (λ y. Conversation hosting later y) (same_connection x k (sym now ∙ here)) talk

    -- the one of this number is put in the place of the one before
    put : (y x : Connection) → connection_at journey.world.connections c ≡ Some y → x.number ≡ y.number → new.connections ≡ with_connection c x journey.world.connections →
        Conversation hosting later x → HasConversations hosting later
    put y x here number connections talk =
        let old = journey.world.connections in
        changed (λ d other. rw connections (put_other old c d x (ap (λ (n : ℕ). n == c) number ∙ found_number old c y here) other))
        (becomes x (rw connections (found_put old c y x here number)) talk)

module _ {H : Type 0} (hosting : Hosting H) (journey : Journey H) (new : World) (talks : HasConversations hosting journey) where
  talks_opened : (c : ℕ) → Opens journey.world new c → HasConversations hosting (led_on journey (Opened c ∷ []) new)
  talks_opened c opens =
      let old = journey.world.connections in
      let grown = grown_still journey.world new opens.still.history opens.still.greatest in
      let anew = draws_then hosting journey (Opened c) new grown talks c ∙ drawn_here c c (draws_on c journey.schedule) [] refl in
      changed hosting journey (Opened c) new grown talks c (λ d draws other. undrawn c d draws [] other)
      (λ d other. rw opens.connections (added_other old c d other))
      (becomes hosting journey (Opened c) new grown talks c (λ d draws other. undrawn c d draws [] other) (fresh c) (rw opens.connections (found_fresh old c opens.absent))
      (record {
        rest = [];
        reads = record { reads = refl; none = nothing_has_none };
        requests = [];
        asked = refl;
        draws = sym anew;
        each = All-nil (HasOutcome hosting journey.outset new);
        replies = refl;
      }))

  talks_ended : (c : ℕ) → StreamEnds journey.world new c → HasConversations hosting (led_on journey (HasEnded c ∷ []) new)
  talks_ended c ends =
      let y = ends.before in
      let grown = grown_still journey.world new ends.still.history ends.still.greatest in
      let t = carried hosting journey (HasEnded c) new grown talks y refl (talks c y ends.here) in
      put hosting journey (HasEnded c) new grown talks c (λ d draws other. refl) y (record y { phase = ended y.phase }) ends.here refl ends.connections (record {
        rest = t.rest;
        reads = t.reads;
        requests = t.requests;
        asked = t.asked;
        draws = t.draws;
        each = t.each;
        replies = t.replies ∙ ap (λ b. replies_of t.requests ++ faulty_if b) (sym (closing_stays y.phase));
      })

  talks_forgotten : (c : ℕ) → ForgetsConnection journey.world new c → HasConversations hosting (led_on journey (Forgotten c ∷ []) new)
  talks_forgotten c forgets =
      let old = journey.world.connections in
      let grown = grown_still journey.world new forgets.still.history forgets.still.greatest in
      changed hosting journey (Forgotten c) new grown talks c (λ d draws other. refl) (λ d other. rw forgets.connections (without_other old c d other)) (λ k here.
      let gone : connection_at new.connections c ≡ None = rw forgets.connections (found_gone old c) in
      let none : Some k ≡ None = sym here ∙ gone in absurd (cc))

  talks_taken : (c n : ℕ) → TakesOutput journey.world new c n → HasConversations hosting (led_on journey (Taken c n ∷ []) new)
  talks_taken c n takes =
      let y = takes.before in
      let grown = grown_still journey.world new takes.still.history takes.still.greatest in
      let t = carried hosting journey (Taken c n) new grown talks y refl (talks c y takes.here) in
      put hosting journey (Taken c n) new grown talks c (λ d draws other. refl) y (record y { taken = y.taken + n }) takes.here refl takes.connections
      (record { rest = t.rest; reads = t.reads; requests = t.requests; asked = t.asked; draws = t.draws; each = t.each; replies = t.replies })

  talks_came : (came : AnsweredPiece) → PieceComes hosting journey.outset journey.world came new → HasConversations hosting (led_on journey (Came came ∷ []) new)
  talks_came came comes =
      let c = came.piece.connection in
      let y = comes.before in
      let grown = grown_came hosting journey.outset journey.world new came comes in
      let t = talks c y comes.here in
      let stay = outcome_stays hosting journey.outset journey.world new grown in
      let P = HasOutcome hosting journey.outset new in
      let now = have_outcomes hosting journey.outset new new.greatest journey.world.history comes.host comes.after comes.requests (omega arith) comes.comes
      ([], comes.history ∙ sym (append-nil (with_changes journey.world.history new.greatest (changes_made comes.requests)))) comes.answered in
      let more : List ℕ = replies_of comes.requests ++ faulty_if came.closes in
      let said : y.output ≡ replies_of t.requests = t.replies
      ∙ ap (λ b. replies_of t.requests ++ faulty_if b) (ap is_closing_phase comes.is_open) ∙ append-nil (replies_of t.requests) in
      let before = draws_on y.number journey.schedule in
      let own : take (length came.mishaps) came.draws ≡ draws_in comes.requests =
      ap (λ mishaps. take (length mishaps) came.draws) comes.mishaps
      ∙ ap (take (length (mishaps_in comes.requests))) comes.draws ∙ their_draws comes.requests comes.left in
      let given = drawn_here c y.number before (before ++ take (length came.mishaps) came.draws) (eqb-true y.number c (found_number journey.world.connections c y comes.here)) in
      put hosting journey (Came came) new grown talks c (λ d draws other. undrawn c d draws (draws ++ take (length came.mishaps) came.draws) other)
      y (heard y came.piece.bytes comes.messages comes.requests came.closes) comes.here refl comes.connections (record {
        rest = comes.rest;
        reads = comes.reads;
        requests = t.requests ++ comes.requests;
        asked = join_asked y.messages comes.messages t.requests comes.requests t.asked comes.asked;
        draws = map-append (λ (r : AnsweredRequest). r.draws) t.requests comes.requests
            ∙ ap (λ (ds : List Draws). ds ++ draws_in comes.requests) t.draws
            ∙ ap (λ (ds : List Draws). before ++ ds) (sym own)
            ∙ sym (draws_then hosting journey (Came came) new grown talks y.number ∙ given);
        each = All-append P t.requests comes.requests (All-weaker (HasOutcome hosting journey.outset journey.world) P stay t.requests t.each) now;
        replies = ap (λ l. l ++ more) said
            ∙ sym (append_assoc (replies_of t.requests) (replies_of comes.requests) (faulty_if came.closes))
            ∙ ap (λ l. l ++ faulty_if came.closes) (sym (flat_map-append (λ (r : AnsweredRequest). reply_bytes (in_writing r.outcome.reply)) t.requests comes.requests))
            ∙ ap (λ b. replies_of (t.requests ++ comes.requests) ++ faulty_if b) (sym (closing_told came.closes));
      })

  -- the world is the same
  talks_still : (e : Happening) → new ≡ journey.world → ((d : ℕ) (draws : List Draws) → with_draws d draws e ≡ draws) → HasConversations hosting (led_on journey (e ∷ []) new)
  talks_still e same none =
      let grown = grown_still journey.world new (ap (λ (w : World). w.history) same) (ap (λ (w : World). w.greatest) same) in
      talks_same hosting journey e new grown talks none (ap (λ (w : World). w.connections) same)

  -- one event happens
  talks_on : (e : Happening) → Happens hosting journey.outset journey.world e new → HasConversations hosting (led_on journey (e ∷ []) new)
  talks_on (Opened c) happens = talks_opened c happens
  talks_on (Came came) happens = elim happens.1 [
    | inl comes ↦ talks_came came comes
    | inr passes ↦ talks_still (Came came) passes.same (passes_undrawn came passes.no_mishaps)
  ]
  talks_on (HasEnded c) happens = talks_ended c happens
  talks_on (Taken c n) happens = elim happens [
    | inl takes ↦ talks_taken c n takes
    | inr nothing ↦ talks_still (Taken c n) nothing.same (λ d draws. refl)
  ]
  talks_on (Forgotten c) happens = talks_forgotten c happens
  talks_on Kept happens =
      let grown = grown_still journey.world new (ap (λ (w : World). w.history) happens.kept) (ap (λ (w : World). w.greatest) happens.kept) in
      talks_same hosting journey Kept new grown talks (λ d draws. refl) (ap (λ (w : World). w.connections) happens.kept)
  talks_on (Resumed history greatest kept) happens = λ d k here.
      let none : connection_at new.connections d ≡ None = ap (λ (w : World). connection_at w.connections d) happens.1 in
      let never : Some k ≡ None = sym here ∙ none in absurd (cc)

pub talks_run : {H : Type 0} (hosting : Hosting H) (journey : Journey H) (more : List Happening) (new : World) → Run hosting journey.outset journey.world more new → HasConversations hosting journey →
    HasConversations hosting (led_on journey more new)
talks_run hosting journey [] new run talks =
    let P : List Happening → World → Type 0 = λ es w. HasConversations hosting (record { outset = journey.outset; schedule = es; world = w }) in
    subst (λ w. P (journey.schedule ++ []) w) (sym run) (subst (λ es. P es journey.world) (sym (append-nil journey.schedule)) talks)
talks_run hosting journey (e ∷ more) new run talks =
    subst (λ (es : List Happening). HasConversations hosting (record { outset = journey.outset; schedule = es; world = new })) (append_assoc journey.schedule (e ∷ []) more)
    (talks_run hosting (led_on journey (e ∷ []) run.0) more new run.2 (talks_on hosting journey run.0 talks e run.1))
