-- Calls that were made on a new edge, one more at a time.
use Rattle.std.proofs.Common.{◌≡◌, List, [], ◌∷◌, ◌++◌, length, take, refl, sym, ap, subst, ◌∙◌}
use Rattle.headline.specs.Names.{SeenEdge, Journey, Reached, led_on, new_journey, EdgeCall, Take, Forget, Upshot, Done, Refused}
use Rattle.headline.proofs.Names.{Hosting, Outset, Happening, Opened, Came, HasEnded, Taken, Forgotten, connection_at, piece_of, untaken, IsMade}
use Rattle.http_edge.specs.Reached.{GoesOn}
use Rattle.http_edge.proofs.Showing.{shows_output}
use Rattle.http_edge.specs.declared.event.Event.TheVariants as event
use Rattle.headline.specs.declared.call.EdgeCall.TheVariants.{Event}
use Rattle.headline.specs.Calls.{Lead}
use Rattle.headline.specs.Making.{CallLeads}

module _ {H : Type 0} (hosting : Hosting H) where
  -- the call that follows is joined behind
  lead_more : (old middle new : Journey H) (calls : List EdgeCall) (upshots : List Upshot) (call : EdgeCall) (upshot : Upshot) →
      Lead hosting old calls upshots middle → Lead hosting middle (call ∷ []) (upshot ∷ []) new →
      Lead hosting old (calls ++ call ∷ []) (upshots ++ upshot ∷ []) new
  lead_more old middle new [] [] call upshot l more = subst (λ j. Lead hosting j (call ∷ []) (upshot ∷ []) new) l more
  lead_more old middle new [] (u ∷ upshots) call upshot l more = absurd l
  lead_more old middle new (c ∷ calls) [] call upshot l more = absurd l
  lead_more old middle new (c ∷ calls) (Refused fault ∷ upshots) call upshot l more =
      (l.0, lead_more old middle new calls upshots call upshot l.1 more)
  lead_more old middle new (c ∷ calls) (Done bytes ∷ upshots) call upshot l more =
      (l.0, l.1, l.2, l.3, l.4, lead_more (led_on old (l.1 ∷ []) l.3) middle new calls upshots call upshot l.5 more)

  pub nothing_made : (outset : Outset H) (edge : SeenEdge H) → Reached hosting edge (new_journey outset) → IsMade hosting outset [] [] edge
  nothing_made outset edge reached = record { journey = new_journey outset; lead = refl; reached = reached }

  module _ (outset : Outset H) (calls : List EdgeCall) (upshots : List Upshot) (old new : SeenEdge H) (made : IsMade hosting outset calls upshots old) where
    goes_on : (call : EdgeCall) (upshot : Upshot) (e : Happening) (on : GoesOn hosting new made.journey e) →
        Lead hosting made.journey (call ∷ []) (upshot ∷ []) (led_on made.journey (e ∷ []) on.world) →
        IsMade hosting outset (calls ++ call ∷ []) (upshots ++ upshot ∷ []) new
    goes_on call upshot e on lead =
        let journey = led_on made.journey (e ∷ []) on.world in
        record { journey = journey; lead = lead_more (new_journey outset) made.journey journey calls upshots call upshot made.lead lead; reached = on.reached }

    pub one_more : (call : EdgeCall) (upshot : Upshot) → CallLeads hosting old new call upshot →
        IsMade hosting outset (calls ++ call ∷ []) (upshots ++ upshot ∷ []) new
    one_more call (Refused fault) leads = record {
      journey = made.journey;
      lead = lead_more (new_journey outset) made.journey made.journey calls upshots call (Refused fault) made.lead (leads.1 made.journey made.reached, refl);
      reached = subst (λ edge. Reached hosting edge made.journey) (sym leads.0) made.reached;
    }
    one_more (Event (event.Open c)) (Done bytes) leads =
        let on = leads.1 made.journey made.reached in
        goes_on (Event (event.Open c)) (Done bytes) (Opened c) on (leads.0, Opened c, refl, on.world, on.happens, refl)
    one_more (Event (event.Bytes c piece moment draws)) (Done bytes) leads =
        let came = leads.1 made.journey made.reached in
        let e = Came (record { piece = piece_of c piece.now moment; draws = draws.now; mishaps = came.mishaps; closes = came.closes; tellings = came.tellings }) in
        goes_on (Event (event.Bytes c piece moment draws)) (Done bytes) e came.on
        (leads.0, e, (came.mishaps, came.closes, came.tellings, refl), came.on.world, came.on.happens, refl)
    one_more (Event (event.End c)) (Done bytes) leads =
        let on = leads.1 made.journey made.reached in
        goes_on (Event (event.End c)) (Done bytes) (HasEnded c) on (leads.0, HasEnded c, refl, on.world, on.happens, refl)
    one_more (Take c most) (Done bytes) leads =
        let on = leads.1 made.journey made.reached in
        let is : bytes.items ≡ take most (untaken (connection_at made.journey.world.connections c)) =
        leads.0 ∙ ap (take most) (shows_output old.lanes made.journey.world.connections c made.reached.shows) in
        goes_on (Take c most) (Done bytes) (Taken c (length bytes.items)) on (is, Taken c (length bytes.items), refl, on.world, on.happens, refl)
    one_more (Forget c) (Done bytes) leads =
        let on = leads.1 made.journey made.reached in
        goes_on (Forget c) (Done bytes) (Forgotten c) on (leads.0, Forgotten c, refl, on.world, on.happens, refl)
