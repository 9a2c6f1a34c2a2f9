-- What is done for a connection is a schedule's.
use Rattle.std.proofs.Common.{ℕ, List, [], ◌∷◌, ◌++◌, Option, append_assoc, append-nil}
use Rattle.hook_host.specs.declared.host.HookHost.{Ghosts as Hosting}
use Rattle.http_edge.specs.Schedule.{World, Happening}
use Rattle.http_edge.specs.Edges.{SeenEdge}
use Rattle.http_edge.specs.Reached.{Journey, Reached, GoesOn, HappeningLeads, led_on}
use Rattle.serving.specs.Served.{EdgeStream, ServingScene, ServingStep, StreamService, Runs, WritesFronts, LeadsOn, none, more, begins, goes, opens, hears, ends, writes, fails_to_write, forgets}

module _ {H : Type 0} (hosting : Hosting H) (journey : Journey H) where
  happened : (events : List Happening) (edge : SeenEdge H) (old : World) (x : Happening) → GoesOn hosting edge (led_on journey events old) x → LeadsOn hosting edge journey
  happened events edge old x on = record { events = events ++ x ∷ []; world = on.world; reached = rw append_assoc at on.reached }

  one_more : (e e' : SeenEdge H) (x : Happening) → HappeningLeads hosting e e' x → LeadsOn hosting e journey → LeadsOn hosting e' journey
  one_more e e' x leads l = happened l.events e' l.world x (leads (led_on journey l.events l.world) l.reached)

module _ {H S : Type 0} (t : StreamService H S) (journey : Journey H) where
  writes_lead : (old new : EdgeStream H S) → WritesFronts t old new → LeadsOn t.hosting old.edge journey → LeadsOn t.hosting new.edge journey
  writes_lead old new none l = l
  writes_lead old new (more n before some within sends takes) l = one_more t.hosting journey _ _ _ takes (writes_lead old _ before l)

module _ {H S C : Type 0} (t : StreamService H S) (tells : C → Option ℕ → C → Type 0) (journey : Journey H) where
  step_leads : (old new : ServingScene H S C) → ServingStep t tells old new → LeadsOn t.hosting old.edge journey → LeadsOn t.hosting new.edge journey
  step_leads old new (opens leads) l = one_more t.hosting journey _ _ _ leads l
  step_leads old new (hears n piece moment few attentive some short done told given) l =
      let on = given.leads (led_on journey l.events l.world) l.reached in
      happened t.hosting journey l.events _ l.world _ on.on
  step_leads old new (ends leads) l = one_more t.hosting journey _ _ _ leads l
  step_leads old new (writes stage may w) l = writes_lead t journey _ _ w.writes l
  step_leads old new (fails_to_write stage may w) l = writes_lead t journey _ _ w.writes l
  step_leads old new (forgets fault leads gone) l = one_more t.hosting journey _ _ _ leads l
  step_leads _ _ _ l = l

  runs_lead : (old new : ServingScene H S C) → Runs t tells old new → LeadsOn t.hosting old.edge journey → LeadsOn t.hosting new.edge journey
  runs_lead old new begins l = l
  runs_lead old new (goes run step) l = step_leads _ _ step (runs_lead old _ run l)

-- whatever was done, the edge is one that a longer schedule leads to
pub leads_on : {H S C : Type 0} (t : StreamService H S) (tells : C → Option ℕ → C → Type 0) (old new : ServingScene H S C) →
    Runs t tells old new → (journey : Journey H) → Reached t.hosting old.edge journey → LeadsOn t.hosting new.edge journey
leads_on t tells old new run journey reached =
    runs_lead t tells journey old new run
    (record { events = []; world = journey.world; reached = rw append-nil reached })
