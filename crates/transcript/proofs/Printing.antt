-- What is printed of an edge is all that went to its connections.
use Rattle.std.proofs.Common.{◌≡◌, ℕ, List, [], ◌∷◌, ◌++◌, Bool, Some, flat_map, refl, ap, ◌∙◌, ⊎_elim, arith}
use Rattle.transcript.proofs.Names.{AllByRecursion, nat_tests, Hosting, Outset, World, Connection, Happening, Happens, Run, first_world, fresh, connection_at, with_connection}
use Rattle.transcript.proofs.Names.{SeenEdge, Statement, Opens, Brings, Ends, happening, StandFor, LinesAreMade, printed, printed_lanes}
use Rattle.http_edge.specs.Answers.{Mishap}
use Rattle.http_edge.specs.Lanes.{SeenLane, ShowsConnections}
use Rattle.telling.specs.declared.told.Told.{Told}
use Rattle.transcript.specs.Replays.{IsOutputOfLines}
use Rattle.transcript.proofs.Calling.{leads}

-- nothing was taken of connections
abbrev AreWhole : List Connection → Type 0
AreWhole connections = AllByRecursion (λ k. k.taken ≡ 0) connections

-- a connection is other
with_whole : (ks : List Connection) (c : ℕ) (before new : Connection) → connection_at ks c ≡ Some before → new.taken ≡ before.taken → AreWhole ks → AreWhole (with_connection c new ks)
with_whole [] c before new here same all = all
with_whole (k ∷ ks) c before new here same all = let rest = with_whole ks c before new in grind (arith, nat_tests, rest, same, here, all.0, all.1)

-- there is one more
added_whole : (ks : List Connection) (c : ℕ) → AreWhole ks → AreWhole (ks ++ fresh c ∷ [])
added_whole [] c whole = (refl, tt {0})
added_whole (k ∷ ks) c whole = (whole.0, added_whole ks c whole.1)

-- by what the line of an event states
happens_whole : {H : Type 0} (hosting : Hosting H) (outset : Outset H) (old new : World) (statement : Statement) (mishaps : List Mishap) (closes : Bool) (tellings : List Told)
    → Happens hosting outset old (happening statement mishaps closes tellings) new → AreWhole old.connections → AreWhole new.connections
happens_whole hosting outset old new (Opens c) mishaps closes tellings h whole = rw h.connections (added_whole old.connections c whole)
happens_whole hosting outset old new (Brings c moment draws piece) mishaps closes tellings h whole =
    ⊎_elim (λ comes. rw comes.connections (with_whole old.connections c comes.before _ comes.here refl whole)) (λ passes. rw passes.same whole) h.1
happens_whole hosting outset old new (Ends c) mishaps closes tellings h whole = rw h.connections (with_whole old.connections c h.before _ h.here refl whole)

run_whole : {H : Type 0} (hosting : Hosting H) (outset : Outset H) (lines : List (List ℕ)) (schedule : List Happening) (old new : World) → StandFor lines schedule
    → Run hosting outset old schedule new → AreWhole old.connections → AreWhole new.connections
run_whole hosting outset [] [] old new stand run whole = rw run whole
run_whole hosting outset [] (e ∷ schedule) old new stand run whole = absurd stand
run_whole hosting outset (line ∷ lines) [] old new stand run whole = absurd stand
run_whole hosting outset (line ∷ lines) (e ∷ schedule) old new stand run whole =
    let s = stand.0 in
    run_whole hosting outset lines schedule run.0 new stand.1 run.2 (happens_whole hosting outset old run.0 s.statement s.mishaps s.closes s.tellings (rw s.event_is at run.1) whole)

shown_printed : (lanes : List SeenLane) (ks : List Connection) → ShowsConnections lanes ks → AreWhole ks → printed_lanes lanes ≡ flat_map (λ k. printed k.number k.output) ks
shown_printed [] [] shows whole = refl
shown_printed (lane ∷ lanes) (k ∷ ks) shows whole =
    let output : lane.output ≡ k.output = rw whole.0 at shows.0.output in
    rw (output, shows.0.number) (ap (λ (x : List ℕ). printed k.number k.output ++ x) (shown_printed lanes ks shows.1 whole.1))
shown_printed _ _ shows whole = absurd shows

-- lines whose calls were made are answered by what is printed of the edge
pub answered : {H : Type 0} (hosting : Hosting H) (outset : Outset H) (edge : SeenEdge H) (lines : List (List ℕ)) (output : List ℕ)
    → LinesAreMade hosting outset lines edge → output ≡ printed_lanes edge.lanes → IsOutputOfLines hosting outset lines output
answered hosting outset edge lines output all is =
    let world = all.made.journey.world in
    let lead = leads hosting outset lines edge all in
    record {
      edge = edge;
      made = all;
      lead = lead;
      output_is = is ∙ shown_printed edge.lanes world.connections all.made.reached.shows (run_whole hosting outset lines lead.schedule first_world world lead.stand_for lead.run tt);
    }
