-- What calls lead to that lines state.
use Rattle.std.proofs.Common.{◌≡◌, ◌≢◌, ◌+◌, ℕ, suc, List, [], ◌∷◌, ◌++◌, Bool, Option, None, Some, false, length, refl, sym, ap, ◌∙◌, subst}
use Rattle.std.proofs.lemmas.List.{append_assoc, append-nil}
use Rattle.headline.specs.Calls.{IsCause, IsHappening, Lead}
use Rattle.headline.specs.Headline.{IsMade}
use Rattle.headline.specs.declared.call.EdgeCall.{EdgeCall}
use Rattle.headline.specs.declared.call.EdgeCall.TheVariants.{Event}
use Rattle.headline.specs.declared.call.Upshot.{Upshot}
use Rattle.headline.specs.declared.call.Upshot.TheVariants as upshot
use Rattle.http_edge.specs.Answers.{Mishap}
use Rattle.http_edge.specs.Reached.{Journey, led_on}
use Rattle.http_edge.specs.Refusals.{IsEndingRefusal, IsOpeningRefusal}
use Rattle.http_edge.specs.Schedule.{HasEnded, Opened}
use Rattle.http_edge.specs.declared.event.Event.TheVariants as event
use Rattle.http_edge.specs.declared.fault.EdgeFault.{EdgeFault}
use Rattle.http_edge.specs.declared.fault.EdgeFault.TheVariants as edge
use Rattle.telling.specs.declared.told.Told.{Told}
use Rattle.transcript.proofs.Names.{Hosting, Outset, Happening, happening, SeenEdge, World, Connection, Run, new_journey, Statement, Opens, Brings, Ends, StandFor, Stops}
use Rattle.transcript.proofs.Names.{AreCalls, AreDone, LinesAreMade, IsCallOf, StateEach, HaveStated, IsFirstRefusal, ReplayFault}
use Rattle.transcript.specs.Events.{IsStatementRefusal}
use Rattle.transcript.specs.Faults.{IsLineFault, of_event}
use Rattle.transcript.specs.Lines.{States}
use Rattle.transcript.specs.Replays.{LeadTo}
use Rattle.transcript.specs.declared.fault.ReplayFault.TheVariants.{BadLine, Memory}

-- ---- one call

-- what came of the call of a statement
came_of : (statement : Statement) (call : EdgeCall) (bytes : List ℕ) (e : Happening) → IsCallOf statement call → IsHappening call bytes e
    → (mishaps : List Mishap) × (closes : Bool) × (tellings : List Told) × (e ≡ happening statement mishaps closes tellings)
came_of (Opens c) (Event (event.Open d)) bytes e is came = ([], false, [], came ∙ ap Opened is)
came_of (Brings c moment draws piece) (Event (event.Bytes d p m ds)) bytes e is came = (came.0, came.1, came.2, rw (is.0, is.1, is.2, is.3) at came.3)
came_of (Ends c) (Event (event.End d)) bytes e is came = ([], false, [], came ∙ ap HasEnded is)
came_of _ _ bytes e is came = absurd is

-- why it was refused
refuses : (statement : Statement) (call : EdgeCall) (fault : EdgeFault) (connections : List Connection) → IsCallOf statement call → IsCause fault connections call
    → IsStatementRefusal fault connections statement
refuses (Opens c) (Event (event.Open d)) fault connections is cause = subst (λ (k : ℕ). IsOpeningRefusal fault connections k) is cause
refuses (Brings c moment draws piece) (Event (event.Bytes d p m ds)) fault connections is cause = rw (is.0, is.1, is.3) at cause
refuses (Ends c) (Event (event.End d)) fault connections is cause = subst (λ (k : ℕ). IsEndingRefusal fault connections k) is cause
refuses _ _ fault connections is cause = absurd is

line_fault : (connections : List Connection) (number : ℕ) (line : List ℕ) (statement : Statement) (cause : EdgeFault) → of_event number cause ≢ Memory → States line statement
    → IsStatementRefusal cause connections statement → IsLineFault connections number line (of_event number cause)
line_fault connections number line statement edge.Memory not states refusal = absurd (not refl)
line_fault connections number line statement edge.TooMany not states refusal = (refl, record { statement = statement; states = states; refusal = refusal; not_memory = λ same. cc })
line_fault connections number line statement edge.NotOpen not states refusal = (refl, record { statement = statement; states = states; refusal = refusal; not_memory = λ same. cc })
line_fault connections number line statement edge.AlreadyOpen not states refusal = (refl, record { statement = statement; states = states; refusal = refusal; not_memory = λ same. cc })
line_fault connections number line statement edge.PieceTooLong not states refusal = (refl, record { statement = statement; states = states; refusal = refusal; not_memory = λ same. cc })
line_fault connections number line statement edge.DrawsShort not states refusal = (refl, record { statement = statement; states = states; refusal = refusal; not_memory = λ same. cc })
line_fault connections number line statement edge.TooManyRequests not states refusal = (refl, record { statement = statement; states = states; refusal = refusal; not_memory = λ same. cc })

-- ---- all calls

-- the events that lines stand for lead from the one journey's world to the other's
record Walked {H : Type 0} (hosting : Hosting H) (lines : List (List ℕ)) (old : Journey H) (new : World) : Type 0 where
  pub events : List Happening
  pub stand_for : StandFor lines events
  pub run : Run hosting old.outset old.world events new

walk : {H : Type 0} (hosting : Hosting H) (lines : List (List ℕ)) (statements : List Statement) (calls : List EdgeCall) (upshots : List Upshot) (old new : Journey H)
    → StateEach lines statements → AreCalls statements calls → AreDone upshots → Lead hosting old calls upshots new → Walked hosting lines old new.world
walk hosting [] [] [] [] old new each are done lead = record { events = []; stand_for = tt {0}; run = ap (λ (j : Journey _). j.world) lead }
walk hosting (line ∷ lines) (statement ∷ statements) (call ∷ calls) (upshot.Done bytes ∷ upshots) old new each are done lead =
    let e = lead.1 in
    let came = came_of statement call bytes.items e are.0 lead.2 in
    let rest = walk hosting lines statements calls upshots (led_on old (e ∷ []) lead.3) new each.1 are.1 done lead.5 in
    record {
      events = e ∷ rest.events;
      stand_for = (record { statement = statement; states = each.0; mishaps = came.0; closes = came.1; tellings = came.2; event_is = came.3 }, rest.stand_for);
      run = (lead.3, lead.4, rest.run);
    }
walk hosting [] [] [] (u ∷ upshots) old new each are done lead = absurd lead
walk hosting [] [] (call ∷ calls) upshots old new each are done lead = absurd are
walk hosting [] (statement ∷ statements) calls upshots old new each are done lead = absurd each
walk hosting (line ∷ lines) [] calls upshots old new each are done lead = absurd each
walk hosting (line ∷ lines) (statement ∷ statements) [] upshots old new each are done lead = absurd are
walk hosting (line ∷ lines) (statement ∷ statements) (call ∷ calls) [] old new each are done lead = absurd lead
walk hosting (line ∷ lines) (statement ∷ statements) (call ∷ calls) (upshot.Refused fault ∷ upshots) old new each are done lead = absurd done

-- where none was refused, the lines' events lead to the world of the calls
pub leads : {H : Type 0} (hosting : Hosting H) (outset : Outset H) (lines : List (List ℕ)) (edge : SeenEdge H) (all : LinesAreMade hosting outset lines edge)
    → LeadTo hosting outset lines all.made.journey.world
leads hosting outset lines edge all =
    let walked = walk hosting lines all.statements all.calls all.upshots (new_journey outset) all.made.journey all.each all.are all.done all.made.lead in
    record { schedule = walked.events; stand_for = walked.stand_for; run = walked.run }

-- ---- up to the first that was refused

record Halted {H : Type 0} (hosting : Hosting H) (lines : List (List ℕ)) (before : ℕ) (cause : EdgeFault) (old : Journey H) : Type 0 where
  pub front : List (List ℕ)
  pub line : List ℕ
  pub behind : List (List ℕ)
  pub are : lines ≡ front ++ line ∷ behind
  pub count : length front ≡ before
  pub world : World
  pub walked : Walked hosting front old world
  pub statement : Statement
  pub states : States line statement
  pub refusal : IsStatementRefusal cause world.connections statement

halt : {H : Type 0} (hosting : Hosting H) (lines : List (List ℕ)) (statements : List Statement) (calls : List EdgeCall) (before : List Upshot) (cause : EdgeFault) (behind : List Upshot)
    (old new : Journey H) → StateEach lines statements → AreCalls statements calls → AreDone before → Lead hosting old calls (before ++ upshot.Refused cause ∷ behind) new
    → Halted hosting lines (length before) cause old
halt hosting (line ∷ lines) (statement ∷ statements) (call ∷ calls) [] cause behind old new each are done lead = record {
  front = [];
  line = line;
  behind = lines;
  are = refl;
  count = refl;
  world = old.world;
  walked = record { events = []; stand_for = tt {0}; run = refl };
  statement = statement;
  states = each.0;
  refusal = refuses statement call cause old.world.connections are.0 lead.0;
}
halt hosting (line ∷ lines) (statement ∷ statements) (call ∷ calls) (upshot.Done bytes ∷ before) cause behind old new each are done lead =
    let e = lead.1 in
    let came = came_of statement call bytes.items e are.0 lead.2 in
    let rest = halt hosting lines statements calls before cause behind (led_on old (e ∷ []) lead.3) new each.1 are.1 done lead.5 in
    record {
      front = line ∷ rest.front;
      line = rest.line;
      behind = rest.behind;
      are = ap (λ (x : List (List ℕ)). line ∷ x) rest.are;
      count = ap (λ (n : ℕ). suc n) rest.count;
      world = rest.world;
      walked = record {
        events = e ∷ rest.walked.events;
        stand_for = (record { statement = statement; states = each.0; mishaps = came.0; closes = came.1; tellings = came.2; event_is = came.3 }, rest.walked.stand_for);
        run = (lead.3, lead.4, rest.walked.run);
      };
      statement = rest.statement;
      states = rest.states;
      refusal = rest.refusal;
    }
halt hosting [] [] [] [] cause behind old new each are done lead = absurd lead
halt hosting [] [] [] (u ∷ before) cause behind old new each are done lead = absurd lead
halt hosting [] [] (call ∷ calls) before cause behind old new each are done lead = absurd are
halt hosting [] (statement ∷ statements) calls before cause behind old new each are done lead = absurd each
halt hosting (line ∷ lines) [] calls before cause behind old new each are done lead = absurd each
halt hosting (line ∷ lines) (statement ∷ statements) [] before cause behind old new each are done lead = absurd are
halt hosting (line ∷ lines) (statement ∷ statements) (call ∷ calls) (upshot.Refused fault ∷ before) cause behind old new each are done lead = absurd done

pub stops_there : {H : Type 0} (hosting : Hosting H) (outset : Outset H) (lines : List (List ℕ)) (statements : List Statement) (bad : Option ℕ) (calls : List EdgeCall)
    (upshots : List Upshot) (edge : SeenEdge H) (fault : ReplayFault) → HaveStated lines statements bad → AreCalls statements calls → IsMade hosting outset calls upshots edge
    → IsFirstRefusal upshots fault → fault ≢ Memory → Stops hosting outset lines fault
stops_there hosting outset lines statements bad calls upshots edge fault stated are made first not_memory =
    let lead = subst (λ (us : List Upshot). Lead hosting (new_journey outset) calls us made.journey) first.are made.lead in
    let halted = halt hosting stated.front statements calls first.before first.cause first.behind (new_journey outset) made.journey stated.each are first.done lead in
    let number = length halted.front + 2 in
    let same : fault ≡ of_event number first.cause = rw halted.count first.fault_is in
    record {
      before = halted.front;
      line = halted.line;
      behind = halted.behind ++ stated.rest;
      lines_are = stated.are ∙ ap (λ (x : List (List ℕ)). x ++ stated.rest) halted.are ∙ append_assoc halted.front (halted.line ∷ halted.behind) stated.rest;
      world = halted.world;
      lead = record { schedule = halted.walked.events; stand_for = halted.walked.stand_for; run = halted.walked.run };
      fault_is = subst (λ f. IsLineFault halted.world.connections number halted.line f) (sym same)
          (line_fault halted.world.connections number halted.line halted.statement first.cause (λ is. not_memory (same ∙ is)) halted.states halted.refusal);
    }

each_length : (lines : List (List ℕ)) (statements : List Statement) → StateEach lines statements → length lines ≡ length statements
each_length [] [] each = refl
each_length (line ∷ lines) (statement ∷ statements) each = ap (λ (n : ℕ). suc n) (each_length lines statements each.1)
each_length _ _ each = absurd each

-- a line states nothing, and none before it was refused
pub stops_bad : {H : Type 0} (hosting : Hosting H) (outset : Outset H) (lines : List (List ℕ)) (statements : List Statement) (number : ℕ) (calls : List EdgeCall) (upshots : List Upshot)
    (edge : SeenEdge H) → HaveStated lines statements (Some number) → AreCalls statements calls → IsMade hosting outset calls upshots edge → AreDone upshots
    → Stops hosting outset lines (BadLine number)
stops_bad hosting outset lines statements number calls upshots edge stated are made done =
    let walked = walk hosting stated.front statements calls upshots (new_journey outset) made.journey stated.each are done made.lead in
    let count = each_length stated.front statements stated.each in
    let end = stated.end in
    record {
      before = stated.front;
      line = end.0;
      behind = end.1;
      lines_are = stated.are ∙ ap (λ (x : List (List ℕ)). stated.front ++ x) end.2;
      world = made.journey.world;
      lead = record { schedule = walked.events; stand_for = walked.stand_for; run = walked.run };
      fault_is = (end.3 ∙ ap (λ (n : ℕ). n + 2) (sym count), end.4);
    }

-- every line states something, and none was refused
pub all_made : {H : Type 0} (hosting : Hosting H) (outset : Outset H) (lines : List (List ℕ)) (statements : List Statement) (calls : List EdgeCall) (upshots : List Upshot)
    (edge : SeenEdge H) → HaveStated lines statements None → AreCalls statements calls → IsMade hosting outset calls upshots edge → AreDone upshots
    → LinesAreMade hosting outset lines edge
all_made hosting outset lines statements calls upshots edge stated are made done =
    let whole : stated.front ≡ lines = sym (append-nil stated.front) ∙ ap (λ (x : List (List ℕ)). stated.front ++ x) (sym stated.end) ∙ sym stated.are in
    record {
      statements = statements;
      each = subst (λ (x : List (List ℕ)). StateEach x statements) whole stated.each;
      calls = calls;
      are = are;
      upshots = upshots;
      done = done;
      made = made;
    }
