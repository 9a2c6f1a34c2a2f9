-- An edge goes on by one event.
use Rattle.std.proofs.Common.{◌≡◌, ◌≤◌, ◌<◌, ◌+◌, inl, inr, ℕ, List, [], ◌∷◌, ◌++◌, Bool, false, cond, Some, None, length, length-append, append_assoc, append-nil, drop, refl, ap, ◌∙◌, sym, subst, arith}
use Rattle.http_edge.proofs.Names.{length-drop, drop-drop, drop-append-le, IsSome, option_map, Hosting, Event, with_changes, SeenServer, Outset, FitsServer, AreUnkept, Notes, NowNotes, Draws}
use Rattle.http_edge.proofs.Names.{Message, messages_cut, nothing_has_none, AnsweredRequest, changes_made, mishaps_in, tellings_of, replies_of, ends_of, ends_from, SeenOutput, lane_output, with_faulty, World, Connection, Piece, AnsweredPiece, Happening, Opened, Came}
use Rattle.http_edge.proofs.Names.{HasEnded, Taken, Forgotten, Kept, Happens, IsKeptOf, Run, ended, has_stream_ended, is_closing_phase, first_world, resumed, fresh, heard, with_connection, without_connection}
use Rattle.http_edge.proofs.Names.{moment_after, faulty_if, SeenLane, lane_at, ShowsConnection, ShowsConnections, with_lane, without_lane, fresh_lane, AreMessagesRead, IsHeard, timed_bytes, hearing}
use Rattle.http_edge.proofs.Names.{SeenEdge, Journey, Reached, BeginsOver, ResumesOver, GoesOn, HappeningLeads, PieceGoesOn, PieceLeads, GivenWithMore, IsBrought, WhereReached, supplied, draws_for}
use Rattle.http_edge.proofs.Names.{draws_behind, Suffices, Sources, Open, Closing}
use Rattle.std.specs.Prelude.{Option}
use Rattle.telling.specs.Audience.{Audience, heard_by}
use Rattle.telling.specs.AudienceLaws.{none_heard}
use Rattle.consent.specs.HistoryLaws.{Happened-none}
use Rattle.endpoints.specs.Bounded.{IsBounded}
use Rattle.endpoints.specs.BoundedLaws.{tokens_keep_their_bounds}
use Rattle.http_edge.specs.declared.lane.Phase.{Phase}
use Rattle.http_edge.specs.contracts.draw_list.DrawListDrawSource.TheImpl as list
use Rattle.http_edge.proofs.Ends.{ends_further, ends_heard, whole_heard}
use Rattle.http_edge.proofs.Showing.{shows_here, shows_none, shows_put, shows_without, shows_added, shows_length}
use Rattle.http_edge.proofs.Drawing.{suffices_none}

-- what a server fits is bounded
pub fits_bounded : {H : Type 0} (hosting : Hosting H) (server : SeenServer H) (outset : Outset H) (history : List Event) (m : ℕ) → FitsServer hosting server outset history m →
    IsBounded outset.rules history
fits_bounded hosting server outset history m fits = tokens_keep_their_bounds outset.rules history m fits.store.kept.is_history fits.right

pub run_push : {H : Type 0} (hosting : Hosting H) (outset : Outset H) (old middle new : World) (es : List Happening) (e : Happening) →
    Run hosting outset old es middle → Happens hosting outset middle e new → Run hosting outset old (es ++ e ∷ []) new
run_push hosting outset old middle new [] e same happens = (new, (let P : World → Type 0 = λ w. Happens hosting outset w e new in subst P same happens), refl)
run_push hosting outset old middle new (x ∷ es) e run happens = (run.0, run.1, run_push hosting outset run.0 middle new es e run.2 happens)

-- the world with other connections
abbrev pub changed : World → List Connection → World
changed world connections = record world { connections = connections }

-- an event leads on to an edge that shows the new world
lead_on : {H : Type 0} (hosting : Hosting H) (edge edge' : SeenEdge H) (journey : Journey H) (new : World) (e : Happening) → Reached hosting edge journey →
    Happens hosting journey.outset journey.world e new → FitsServer hosting edge'.server journey.outset new.history new.greatest →
    Notes edge'.server new.kept new.history → ShowsConnections edge'.lanes new.connections → GoesOn hosting edge' journey e
lead_on hosting edge edge' journey new e reached happens fits notes shows = record {
  world = new;
  happens = happens;
  reached = record {
    run = run_push hosting journey.outset first_world journey.world new journey.schedule e reached.run happens;
    server = fits;
    notes = notes;
    shows = shows;
    bounded = fits_bounded hosting edge'.server journey.outset new.history new.greatest fits;
  };
}

-- an event after which the same server has other lanes
goes_on : {H : Type 0} (hosting : Hosting H) (edge edge' : SeenEdge H) (journey : Journey H) (connections : List Connection) (e : Happening) →
    Reached hosting edge journey → edge'.server ≡ edge.server → ShowsConnections edge'.lanes connections → Happens hosting journey.outset journey.world e (changed journey.world connections) →
    GoesOn hosting edge' journey e
goes_on hosting edge edge' journey connections e reached same shows happens =
    lead_on hosting edge edge' journey (changed journey.world connections) e reached happens (rw same reached.server) (rw same reached.notes) shows

shows_fresh : (c : ℕ) → ShowsConnection (fresh_lane c) (fresh c)
shows_fresh c = record { number = refl; phase = refl; within = omega arith; output = refl; ends = refl; whole = λ some. absurd (omega (arith, some)); rest = λ e. record { reads = refl; none = nothing_has_none }; nothing_held = λ e. refl }

pub on_opened : {H : Type 0} (hosting : Hosting H) (edge edge' : SeenEdge H) (c : ℕ) → edge'.server ≡ edge.server → lane_at edge.lanes c ≡ None → length edge.lanes < 64 →
    edge'.lanes ≡ edge.lanes ++ fresh_lane c ∷ [] → HappeningLeads hosting edge edge' (Opened c)
on_opened hosting edge edge' c same none few lanes journey reached =
    let size = shows_length edge.lanes journey.world.connections reached.shows in
    goes_on hosting edge edge' journey (journey.world.connections ++ fresh c ∷ []) _ reached same
    (rw lanes (shows_added edge.lanes journey.world.connections (fresh_lane c) (fresh c) reached.shows (shows_fresh c)))
    (record { absent = shows_none edge.lanes journey.world.connections c reached.shows none; few = omega (arith, size, few); still = record { greatest = refl; history = refl; kept = refl }; connections = refl })

pub on_ended : {H : Type 0} (hosting : Hosting H) (edge edge' : SeenEdge H) (c : ℕ) (lane : SeenLane) → edge'.server ≡ edge.server → lane_at edge.lanes c ≡ Some lane → has_stream_ended lane.phase ≡ false →
    edge'.lanes ≡ with_lane c (record { number = lane.number; phase = ended lane.phase; rest = []; output = lane.output; ends = lane.ends }) edge.lanes → HappeningLeads hosting edge edge' (HasEnded c)
on_ended hosting edge edge' c lane same here not_ended lanes journey reached =
    let at = shows_here edge.lanes journey.world.connections c lane reached.shows here in
    let shows = at.2 in
    let k : Connection = record at.0 { phase = ended at.0.phase } in
    goes_on hosting edge edge' journey (with_connection c k journey.world.connections) _ reached same
    (rw lanes (shows_put edge.lanes journey.world.connections c _ k reached.shows
    (record {
      number = shows.number;
      phase = ap ended shows.phase;
      within = shows.within;
      output = shows.output;
      ends = shows.ends;
      whole = shows.whole;
      rest = λ e. absurd (grind (arith, e));
      nothing_held = λ e. refl;
    })))
    (record { before = at.0; here = at.1; not_ended = sym (ap has_stream_ended shows.phase) ∙ not_ended; still = record { greatest = refl; history = refl; kept = refl }; connections = refl })

pub on_taken : {H : Type 0} (hosting : Hosting H) (edge edge' : SeenEdge H) (c n : ℕ) (lane : SeenLane) → edge'.server ≡ edge.server → lane_at edge.lanes c ≡ Some lane → n ≤ length lane.output →
    edge'.lanes ≡ with_lane c (record { number = lane.number; phase = lane.phase; rest = lane.rest; output = drop n lane.output; ends = ends_from n lane.ends }) edge.lanes → HappeningLeads hosting edge edge' (Taken c n)
on_taken hosting edge edge' c n lane same here fits lanes journey reached =
    let at = shows_here edge.lanes journey.world.connections c lane reached.shows here in
    let shows = at.2 in
    let x = at.0 in
    let k : Connection = record x { taken = x.taken + n } in
    let size = ap length shows.output in
    let within = shows.within in
    let left = length-drop x.taken x.output in
    let enough : x.taken + n ≤ length x.output = omega (arith, size, within, left, fits) in
    goes_on hosting edge edge' journey (with_connection c k journey.world.connections) _ reached same
    (rw lanes (shows_put edge.lanes journey.world.connections c _ k reached.shows
    (record { number = shows.number; phase = shows.phase; within = enough; output = ap (drop n) shows.output ∙ drop-drop n x.taken x.output; ends = ap (ends_from n) shows.ends ∙ ends_further x.taken n x.ends; whole = shows.whole; rest = shows.rest; nothing_held = shows.nothing_held })))
    (inl (record { before = x; here = at.1; fits = enough; still = record { greatest = refl; history = refl; kept = refl }; connections = refl }))

pub on_taken_nothing : {H : Type 0} (hosting : Hosting H) (edge edge' : SeenEdge H) (c n : ℕ) → edge'.server ≡ edge.server → lane_at edge.lanes c ≡ None → n ≡ 0 → edge'.lanes ≡ edge.lanes →
    HappeningLeads hosting edge edge' (Taken c n)
on_taken_nothing hosting edge edge' c n same none zero lanes journey reached =
    goes_on hosting edge edge' journey journey.world.connections _ reached same (rw lanes reached.shows)
    (inr (record { absent = shows_none edge.lanes journey.world.connections c reached.shows none; nothing = zero; same = refl }))

-- a server that notes does so from this history on, once it was kept
notes_anew : (unkept : Option (List Event)) (history : List Event) → IsSome unkept → AreUnkept (option_map (λ facts. []) unkept) (Some history) history
notes_anew None history noting = cc
notes_anew (Some facts) history noting = Happened-none history

-- what has happened was kept, and what is noted changes no answer
pub on_kept : {H : Type 0} (hosting : Hosting H) (edge edge' : SeenEdge H) → NowNotes edge.server edge'.server (option_map (λ facts. []) edge.server.unkept) → edge'.lanes ≡ edge.lanes →
    IsSome edge.server.unkept → HappeningLeads hosting edge edge' Kept
on_kept hosting edge edge' same lanes noting journey reached =
    let world = journey.world in
    let fits = reached.server in
    let notes = reached.notes in
    let before : (before : List Event) × (world.kept ≡ Some before) = grind (arith, noting, notes) in
    lead_on hosting edge edge' journey (record world { kept = Some world.history }) Kept reached (record { before = before.0; kept_before = before.1; kept = refl })
    (rw same (record { rules_are = fits.rules_are; greatest_is = fits.greatest_is; store = fits.store; consents = fits.consents; hosts = fits.hosts; right = fits.right }))
    (rw same (notes_anew edge.server.unkept world.history noting)) (rw lanes reached.shows)

-- an edge without connections over a server
pub begun : {H : Type 0} (hosting : Hosting H) (edge : SeenEdge H) → edge.lanes ≡ [] → BeginsOver hosting edge.server edge
begun hosting edge none outset fits notes =
    record { run = refl; server = fits; notes = notes; shows = rw none tt; bounded = fits_bounded hosting edge.server outset [] 0 fits }

-- what was kept is the beginning of what has happened
is_kept_of : (unkept : Option (List Event)) (kept : Option (List Event)) (history : List Event) → AreUnkept unkept kept history → IsKeptOf kept history
is_kept_of unkept None history noted = tt
is_kept_of (Some facts) (Some kept) history noted = (facts, noted.leads)
is_kept_of None (Some kept) history noted = absurd noted

-- that goes on from a history
pub goes_on_from : {H : Type 0} (hosting : Hosting H) (edge : SeenEdge H) → edge.lanes ≡ [] → ResumesOver hosting edge.server edge
goes_on_from hosting edge none outset history m kept fits notes = record {
  run = (
    resumed history m kept,
    (record { first = refl; is_history = fits.store.kept.is_history; right = fits.right; kept = is_kept_of edge.server.unkept kept history notes }, refl),
    refl,
  );
  server = fits;
  notes = notes;
  shows = rw none tt;
  bounded = fits_bounded hosting edge.server outset history m fits;
}

pub on_forgotten : {H : Type 0} (hosting : Hosting H) (edge edge' : SeenEdge H) (c : ℕ) → edge'.server ≡ edge.server → edge'.lanes ≡ without_lane c edge.lanes → HappeningLeads hosting edge edge' (Forgotten c)
on_forgotten hosting edge edge' c same lanes journey reached =
    goes_on hosting edge edge' journey (without_connection c journey.world.connections) _ reached same
    (rw lanes (shows_without edge.lanes journey.world.connections c reached.shows))
    (record { still = record { greatest = refl; history = refl; kept = refl }; connections = refl })

-- with the same draws it leads on so, and as much is told
abbrev same_draws : {H : Type 0} (hosting : Hosting H) (edge : SeenEdge H) (journey : Journey H) (piece : Piece) {draws others : List Draws} → draws ≡ others →
    PieceGoesOn hosting edge journey piece draws → PieceGoesOn hosting edge journey piece others
same_draws hosting edge journey piece same on = record {
  mishaps = on.mishaps;
  closes = on.closes;
  tellings = on.tellings;
  on = subst (λ (ds : List Draws). GoesOn hosting edge journey (Came (record { piece = piece; draws = ds; mishaps = on.mishaps; closes = on.closes; tellings = on.tellings }))) same on.on;
}

same_tellings : {H : Type 0} (hosting : Hosting H) (edge : SeenEdge H) (journey : Journey H) (piece : Piece) {draws others : List Draws} (same : draws ≡ others) →
    (on : PieceGoesOn hosting edge journey piece draws) → (same_draws hosting edge journey piece same on).tellings ≡ on.tellings
same_tellings hosting edge journey piece same on = refl

-- where it leads on whatever draws are left, it does so with none
gives : {H S : Type 0} (hosting : Hosting H) (sources : Sources S) (edge edge' : SeenEdge H) (piece : Piece) (source source' : S) (before after : Audience) (messages : List Message) →
    WhereReached hosting edge (λ connections. IsBrought connections piece messages) → Suffices (sources.supply source) (length messages) →
    (leads : (left : List Draws) → PieceLeads hosting edge edge' piece (draws_for sources source messages ++ left)) → source' ≡ draws_behind sources source messages →
    ((journey : Journey H) (reached : Reached hosting edge journey) → after ≡ heard_by before (leads [] journey reached).tellings) →
    GivenWithMore hosting sources (supplied edge source before) piece (supplied edge' source' after)
gives hosting sources edge edge' piece source source' before after messages brought enough leads behind heard = record {
  given = record {
    messages = messages;
    brought = brought;
    enough = enough;
    leads = λ journey reached. same_draws hosting edge' journey piece (append-nil (draws_for sources source messages)) (leads [] journey reached);
    source_is = behind;
    heard = λ journey reached. heard journey reached ∙ ap (heard_by before) (sym (same_tellings hosting edge' journey piece (append-nil (draws_for sources source messages)) (leads [] journey reached)));
  };
  leads = leads;
}

-- bytes after the 400 of a faulty head
pub on_passed : {H S : Type 0} (hosting : Hosting H) (sources : Sources S) (edge edge' : SeenEdge H) (piece : Piece) (lane : SeenLane) (source source' : S) (audience : Audience) → edge'.server ≡ edge.server → edge'.lanes ≡ edge.lanes →
    lane_at edge.lanes piece.connection ≡ Some lane → lane.phase ≡ Closing → length piece.bytes ≤ 65536 → source' ≡ source →
    GivenWithMore hosting sources (supplied edge source audience) piece (supplied edge' source' audience)
on_passed hosting sources edge edge' piece lane source source' audience same lanes here closing short undrawn =
    gives hosting sources edge edge' piece source source' audience audience []
    (λ journey reached.
    let at = shows_here edge.lanes journey.world.connections piece.connection lane reached.shows here in
    inr (rw at.1 (ap is_closing_phase (sym at.2.phase ∙ closing)), refl))
    (suffices_none (sources.supply source))
    (λ left journey reached.
    let at = shows_here edge.lanes journey.world.connections piece.connection lane reached.shows here in
    record {
      mishaps = [];
      closes = false;
      tellings = [];
      on = goes_on hosting edge edge' journey journey.world.connections _ reached same (rw lanes reached.shows)
          (short, inr (record { before = at.0; here = at.1; is_closing = sym at.2.phase ∙ closing; no_mishaps = refl; none_told = refl; no_more = refl; same = refl }));
    })
    undrawn (λ journey reached. sym (none_heard audience))

-- the lane after a piece shows the connection after it
shows_heard : (lane lane' : SeenLane) (k : Connection) (piece : List ℕ) (messages : List Message) (requests : List AnsweredRequest) (middle : SeenOutput) (closes : Bool) → k.phase ≡ Open →
    ShowsConnection lane k → lane'.number ≡ lane.number → AreMessagesRead (lane.rest ++ piece) lane'.rest messages closes → lane'.phase ≡ cond closes Closing Open →
    lane_output lane' ≡ with_faulty middle closes → middle.bytes ≡ lane.output ++ replies_of requests → middle.ends ≡ lane.ends ++ ends_of (length lane.output) requests → ShowsConnection lane' (heard k piece messages requests closes)
shows_heard lane lane' k piece messages requests middle closes is_open shows number read phase output said ends =
    let le = shows.within in
    let new : List ℕ = replies_of requests ++ faulty_if closes in
    let n = length-append k.output new in
    record {
      number = number ∙ shows.number;
      phase = phase;
      within = omega (arith, le, n);
      output =
          ap (λ (o : SeenOutput). o.bytes) output ∙ ap (λ o. o ++ faulty_if closes) (said ∙ ap (λ o. o ++ replies_of requests) shows.output)
          ∙ append_assoc (drop k.taken k.output) (replies_of requests) (faulty_if closes) ∙ sym (drop-append-le k.taken k.output new le);
      ends = ap (λ (o : SeenOutput). o.ends) output ∙ ends_heard lane k middle requests closes shows said ends;
      whole = whole_heard k.output k.ends requests closes shows.whole;
      rest = λ now. let kept : lane'.rest ≡ read.rest = grind (arith, read.kept_is, now) in rw kept (messages_cut k.stream piece k.messages messages lane.rest read.rest (shows.rest is_open) read.reads);
      nothing_held = λ other. grind (arith, read.kept_is, other);
    }

-- a piece that was heard leads on
leads_heard : {H S : Type 0} (hosting : Hosting H) (sources : Sources S) (edge edge' : SeenEdge H) (piece : Piece) (lane lane' : SeenLane) (source source' : S) (before after : Audience) →
    lane_at edge.lanes piece.connection ≡ Some lane → lane.phase ≡ Open → length piece.bytes ≤ 65536 →
    (hears : IsHeard hosting sources (hearing edge.server lane source before) (timed_bytes (lane.rest ++ piece.bytes) piece.moment) (hearing edge'.server lane' source' after)) → edge'.lanes ≡ with_lane piece.connection lane' edge.lanes →
    (left : List Draws) → PieceLeads hosting edge edge' piece (draws_for sources source hears.messages ++ left)
leads_heard hosting sources edge edge' piece lane lane' source source' before after here is_open short hears lanes left journey reached =
    let world = journey.world in
    let c = piece.connection in
    let at = shows_here edge.lanes world.connections c lane reached.shows here in
    let k = at.0 in
    let shows = at.2 in
    let opened : k.phase ≡ Open = sym shows.phase ∙ is_open in
    let closes = hears.closes in
    let messages = hears.messages in
    let served = hears.serves journey.outset world.history world.greatest reached.server in
    let m = moment_after world.greatest piece.moment messages in
    let k' = heard k piece.bytes messages served.requests closes in
    let world' : World = record { connections = with_connection c k' world.connections; greatest = m; history = with_changes world.history m (changes_made served.requests); kept = world.kept } in
    let came : AnsweredPiece = record { piece = piece; draws = draws_for sources source messages ++ left; mishaps = mishaps_in served.requests; closes = closes; tellings = tellings_of served.requests } in
    let happens : Happens hosting journey.outset world (Came came) world' = (
      short,
      inl (record {
        before = k;
        here = at.1;
        is_open = opened;
        messages = messages;
        rest = hears.read.rest;
        reads = messages_cut k.stream piece.bytes k.messages messages lane.rest hears.read.rest (shows.rest opened) hears.read.reads;
        few = hears.read.few;
        requests = served.requests;
        asked = served.asked;
        left = left;
        draws = ap (λ draws. draws ++ left) served.draws;
        mishaps = refl;
        tellings = refl;
        host = edge.server.host;
        comes = reached.server.hosts;
        after = edge'.server.host;
        answered = served.answered;
        may_tell = hears.read.may_tell;
        must_tell = hears.read.must_tell;
        greatest = refl;
        history = refl;
        kept = refl;
        connections = refl;
      }),
    ) in
    let shown : ShowsConnection lane' k' =
    shows_heard lane lane' k piece.bytes messages served.requests hears.middle closes opened shows hears.number_is hears.read (hears.phase_is ∙ ap (λ (p : Phase). cond closes Closing p) is_open) hears.output_is served.output_is served.ends_are in
    record {
      mishaps = mishaps_in served.requests;
      closes = closes;
      tellings = tellings_of served.requests;
      on = lead_on hosting edge edge' journey world' (Came came) reached happens served.fits (served.noted world.kept reached.notes)
          (rw lanes (shows_put edge.lanes world.connections c lane' k' reached.shows shown));
    }

-- a piece was heard
pub on_heard : {H S : Type 0} (hosting : Hosting H) (sources : Sources S) (edge edge' : SeenEdge H) (piece : Piece) (lane lane' : SeenLane) (source source' : S) (before after : Audience) →
    lane_at edge.lanes piece.connection ≡ Some lane → lane.phase ≡ Open → length piece.bytes ≤ 65536 →
    IsHeard hosting sources (hearing edge.server lane source before) (timed_bytes (lane.rest ++ piece.bytes) piece.moment) (hearing edge'.server lane' source' after) → edge'.lanes ≡ with_lane piece.connection lane' edge.lanes →
    GivenWithMore hosting sources (supplied edge source before) piece (supplied edge' source' after)
unfolding leads_heard
on_heard hosting sources edge edge' piece lane lane' source source' before after here is_open short hears lanes =
    gives hosting sources edge edge' piece source source' before after hears.messages
    (λ journey reached.
    let at = shows_here edge.lanes journey.world.connections piece.connection lane reached.shows here in
    let opened : at.0.phase ≡ Open = sym at.2.phase ∙ is_open in
    inl (record {
      connection = at.0;
      here = at.1;
      is_open = opened;
      short = short;
      rest = hears.read.rest;
      reads = messages_cut at.0.stream piece.bytes at.0.messages hears.messages lane.rest hears.read.rest (at.2.rest opened) hears.read.reads;
    }))
    hears.enough (leads_heard hosting sources edge edge' piece lane lane' source source' before after here is_open short hears lanes) hears.source_is
    (λ journey reached. (hears.serves journey.outset journey.world.history journey.world.greatest reached.server).heard)

-- DRAWS THAT ARE HANDED IN

-- each request has its own, and the others are left
list_draws : (draws : List Draws) (messages : List Message) → length messages ≤ length draws → draws_for list.ghosts draws messages ++ drop (length messages) draws ≡ draws
list_draws draws [] enough = refl
list_draws [] (x ∷ messages) enough = absurd (omega (arith, enough))
list_draws (d ∷ draws) (x ∷ messages) enough = ap (λ (ds : List Draws). d ∷ ds) (list_draws draws messages (omega (arith, enough)))

-- what is given with a list of draws leads on with these
pub list_leads : {H : Type 0} (hosting : Hosting H) (edge edge' : SeenEdge H) (piece : Piece) (draws left : List Draws) (before after : Audience) →
    GivenWithMore hosting list.ghosts (supplied edge draws before) piece (supplied edge' left after) → PieceLeads hosting edge edge' piece draws
list_leads hosting edge edge' piece draws left before after more journey reached =
    let given = more.given in
    subst (λ (ds : List Draws). PieceGoesOn hosting edge' journey piece ds) (list_draws draws given.messages given.enough)
    (more.leads (drop (length given.messages) draws) journey reached)
