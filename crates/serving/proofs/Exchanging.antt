-- What is written along a service answers what is read along it.
use Rattle.std.proofs.Common.{◌≡◌, ◌<◌, ◌⊎◌, ◌↔◌, inl, inr, ℕ, List, [], ◌∷◌, ◌++◌, Option, Some, None, take, append_assoc, append-nil, refl, sym, ap, subst, ◌∙◌, arith}
use Rattle.messages.specs.declared.request.Draws.{Draws}
use Rattle.http_edge.specs.Schedule.{Happening, Opened, HasEnded, Taken, connection_at, piece_of, untaken}
use Rattle.http_edge.specs.Edges.{SeenEdge, output_of}
use Rattle.http_edge.specs.Reached.{Journey, Reached, GoesOn, HappeningLeads, PieceLeads, led_on}
use Rattle.serving.specs.Streams.{Received, ReadFailed, Sent, Carries, nothing, receives, sends, fails_to_receive, fails_to_send}
use Rattle.serving.specs.Served.{EdgeStream, ServingScene, Stage, StreamService, edge_stream, Coming, Reading, Finished, Ended, Served, Left, MayWriteAt, IsAttentive, WritesFronts, WriteFails, ServingStep, Runs, none, more, begins, goes, opens, denies, hears, refuses, loses_time, breaks, finishes, stops, closes, ends, ends_nothing, is_over, writes, fails_to_write, forgets}
use Rattle.serving.specs.Answered.{StreamExchange, MayLose, IsConnectionServed, IsDenied, ServesConnection}
use Rattle.serving.specs.declared.fault.ServeFault.{ServeFault}
use Rattle.serving.specs.Talks.{Talk}
use Rattle.http_edge.proofs.Connections.{shown}
use Rattle.serving.proofs.Talking.{talk_opened, talk_lost, talk_came, talk_ended, talk_written}

module _ {H S : Type 0} (t : StreamService H S) (journey : Journey H) (s0 : S) where
  -- an exchange at this edge and stream, with nothing lost
  abbrev Now : SeenEdge H → S → Type 0
  Now e s = StreamExchange t journey s0 (edge_stream e s) []

  -- one that is over
  record Over (fault : Option ServeFault) (e : SeenEdge H) (s : S) : Type 0 where
    lost : List ℕ
    may_lose : MayLose fault lost
    exchange : StreamExchange t journey s0 (edge_stream e s) lost
    all : fault ≡ None → untaken (Some exchange.talk.connection) ≡ []

  pub on_opened : (e e' : SeenEdge H) → Reached t.hosting e journey → HappeningLeads t.hosting e e' (Opened t.connection) → Now e' s0
  on_opened e e' reached leads =
      let on = leads journey reached in
      record { heard = []; written = []; carries = nothing; events = Opened t.connection ∷ []; world = on.world; reached = on.reached; talk = talk_opened journey.world on.world t.connection on.happens }

  -- the stream alone is another
  with_stream : (e : SeenEdge H) (s s' : S) (heard written lost : List ℕ) (x : Now e s) → Carries t.does s0 heard written s' → Talk heard written lost (connection_at x.world.connections t.connection) →
      StreamExchange t journey s0 (edge_stream e s') lost
  with_stream e s s' heard written lost x carries talk = record { heard = heard; written = written; carries = carries; events = x.events; world = x.world; reached = x.reached; talk = talk }

  -- the edge did not hear of what was read
  pub on_lost : (e : SeenEdge H) (s s' : S) (piece : List ℕ) → Now e s → t.does s (Received piece) s' → StreamExchange t journey s0 (edge_stream e s') piece
  on_lost e s s' piece x done = with_stream e s s' (x.heard ++ piece) x.written piece x (receives piece x.carries done) (talk_lost x.heard x.written [] piece _ x.talk)

  pub on_failed_read : (e : SeenEdge H) (s s' : S) → Now e s → t.does s ReadFailed s' → Now e s'
  on_failed_read e s s' x done = with_stream e s s' x.heard x.written [] x (fails_to_receive x.carries done) x.talk

  -- one event more, by which the connection is another
  goes_on : (e' : SeenEdge H) (e : SeenEdge H) (s s' : S) (x : Now e s) (event : Happening) (on : GoesOn t.hosting e' (led_on journey x.events x.world) event) (heard written : List ℕ) →
      Carries t.does s0 heard written s' → Talk heard written [] (connection_at on.world.connections t.connection) → Now e' s'
  goes_on e' e s s' x event on heard written carries talk =
      record { heard = heard; written = written; carries = carries; events = x.events ++ event ∷ []; world = on.world; reached = rw append_assoc at on.reached; talk = talk }

  -- the edge heard it
  pub on_heard : (e e' : SeenEdge H) (s s' : S) (piece : List ℕ) (moment : ℕ) (draws : List Draws) → Now e s → IsAttentive t.hosting e t.connection → t.does s (Received piece) s' →
      PieceLeads t.hosting e e' (piece_of t.connection piece moment) draws → Now e' s'
  on_heard e e' s s' piece moment draws x attentive done leads =
      let now = led_on journey x.events x.world in
      let on = leads now x.reached in
      goes_on e' e s s' x _ on.on (x.heard ++ piece) x.written (receives piece x.carries done)
      (talk_came t.hosting e now on.on.world _ x.heard x.written x.reached (sym (attentive.stays now x.reached)) on.on.happens.1 x.talk)

  pub on_ended : (e e' : SeenEdge H) (s : S) → Now e s → HappeningLeads t.hosting e e' (HasEnded t.connection) → Now e' s
  on_ended e e' s x leads =
      let on = leads (led_on journey x.events x.world) x.reached in
      goes_on e' e s s x _ on x.heard x.written x.carries (talk_ended x.world on.world t.connection x.heard x.written [] on.happens x.talk)

  -- a front of the output was written, and taken
  pub on_written : (e e' : SeenEdge H) (s s' : S) (n : ℕ) → Now e s → 0 < n → t.does s (Sent (take n (output_of e t.connection))) s' → HappeningLeads t.hosting e e' (Taken t.connection n) → Now e' s'
  on_written e e' s s' n x some done leads =
      let on = leads (led_on journey x.events x.world) x.reached in
      let front = ap (take n) ((shown e.lanes x.world.connections t.connection x.talk.connection x.reached.shows x.talk.here).1 ∙ ap untaken (sym x.talk.here)) in
      goes_on e' e s s' x _ on x.heard (x.written ++ take n (output_of e t.connection)) (sends _ x.carries done)
      (talk_written x.world on.world t.connection n x.heard x.written [] (take n (output_of e t.connection)) some front on.happens x.talk)

  -- one front after another
  pub on_writes : (old new : EdgeStream H S) → Now old.edge old.stream → WritesFronts t old new → Now new.edge new.stream
  on_writes old new x none = x
  on_writes old new x (more n before some within done leads) = on_written _ _ _ _ n (on_writes old _ x before) some done leads

  -- and then a write failed
  pub on_failed_write : (e e' : SeenEdge H) (s s' : S) → Now e s → WriteFails t (edge_stream e s) (edge_stream e' s') → Now e' s'
  on_failed_write e e' s s' x fails =
      let y = on_writes (edge_stream e s) (edge_stream e' fails.before) x fails.writes in
      elim fails.fails [
        | inl failed ↦ with_stream e' fails.before s' y.heard y.written [] y (fails_to_send y.carries failed) y.talk
        | inr sent ↦ with_stream e' fails.before s' y.heard (y.written ++ []) [] y (sends [] y.carries sent) (subst (λ w. Talk y.heard w [] (connection_at y.world.connections t.connection)) (sym (append-nil y.written)) y.talk)
      ]

  -- where no output is left, none is untaken
  pub all_written : (e : SeenEdge H) (s : S) (x : Now e s) → output_of e t.connection ≡ [] → untaken (Some x.talk.connection) ≡ []
  all_written e s x empty = sym (shown e.lanes x.world.connections t.connection x.talk.connection x.reached.shows x.talk.here).1 ∙ empty

  -- a service that is over, with nothing lost
  ends_whole : (e : SeenEdge H) (s : S) (fault : Option ServeFault) → MayLose fault [] → (x : Now e s) → (fault ≡ None → untaken (Some x.talk.connection) ≡ []) → Over fault e s
  ends_whole e s fault may x all = record { lost = []; may_lose = may; exchange = x; all = all }

-- how a service stands at each stage
module _ {H S C : Type 0} (t : StreamService H S) (tells : C → Option ℕ → C → Type 0) (journey : Journey H) (e0 : SeenEdge H) (s0 : S) (reached : Reached t.hosting e0 journey) where
  abbrev Stands : Stage → ServingScene H S C → Type 0
  Stands Coming x = (x.edge ≡ e0) × (x.stream ≡ s0)
  Stands (Reading n) x = Now t journey s0 x.edge x.stream
  Stands Finished x = Now t journey s0 x.edge x.stream
  Stands Ended x = Now t journey s0 x.edge x.stream
  Stands (Served fault) x = Over t journey s0 fault x.edge x.stream
  Stands (Left fault) x = IsDenied t.connection journey.world.connections (edge_stream e0 s0) fault (edge_stream x.edge x.stream) ⊎ IsConnectionServed t journey s0 fault (edge_stream x.edge x.stream)

  -- where output may be written
  at_writing : (stage : Stage) (x : ServingScene H S C) → MayWriteAt stage → Stands stage x ↔ Now t journey s0 x.edge x.stream
  at_writing (Reading n) x may = (λ h. h, λ h. h)
  at_writing Ended x may = (λ h. h, λ h. h)
  at_writing _ x may = absurd may

  step_stands : (old new : ServingScene H S C) → ServingStep t tells old new → Stands old.stage old → Stands new.stage new
  step_stands old new (opens leads) h = rw h.1 (on_opened t journey s0 _ _ (rw h.0 reached) leads)
  step_stands old new (denies fault refused) h =
      inl (record { cause = fault; is_fault = refl; is_refusal = refused journey (rw h.0 reached); same_edge = h.0; same_stream = h.1 })
  step_stands old new (hears n piece moment few attentive some short done told given) h =
      on_heard t journey s0 _ _ _ _ piece moment _ h attentive done given.leads
  step_stands old new (refuses n piece moment fault few attentive some short done told refused) h =
      record { lost = piece; may_lose = short; exchange = on_lost t journey s0 _ _ _ piece h done; all = λ e. absurd (cc) }
  step_stands old new (loses_time n piece few attentive some short done told) h =
      record { lost = piece; may_lose = short; exchange = on_lost t journey s0 _ _ _ piece h done; all = λ e. absurd (cc) }
  step_stands old new (breaks n few attentive done) h =
      ends_whole t journey s0 _ _ _ refl (on_failed_read t journey s0 _ _ _ h done) (λ e. absurd (cc))
  step_stands old new (finishes n few attentive done) h = on_lost t journey s0 _ _ _ [] h done
  step_stands old new stops h = h
  step_stands old new (closes n written closing) h =
      ends_whole t journey s0 _ _ None refl h (λ e. all_written t journey s0 _ _ h written)
  step_stands old new (ends leads) h = on_ended t journey s0 _ _ _ h leads
  step_stands old new (ends_nothing fault refused) h = ends_whole t journey s0 _ _ _ (omega arith) h (λ e. absurd (cc))
  step_stands old new (is_over written) h =
      ends_whole t journey s0 _ _ None refl h (λ e. all_written t journey s0 _ _ h written)
  step_stands old new (writes stage may w) h =
      (at_writing stage new may).1 (on_writes t journey s0 _ _ ((at_writing stage old may).0 h) w.writes)
  step_stands old new (fails_to_write stage may w) h =
      ends_whole t journey s0 _ _ _ refl (on_failed_write t journey s0 _ _ _ _ ((at_writing stage old may).0 h) w) (λ e. absurd (cc))
  step_stands old new (forgets fault leads gone) h =
      inr (record {
        before = old.edge;
        lost = h.lost;
        may_lose = h.may_lose;
        exchange = h.exchange;
        all = h.all;
        forgotten = leads (led_on journey h.exchange.events h.exchange.world) h.exchange.reached;
      })

  runs_stand : (old : ServingScene H S C) → old.stage ≡ Coming → old.edge ≡ e0 → old.stream ≡ s0 → (new : ServingScene H S C) → Runs t tells old new → Stands new.stage new
  runs_stand old coming same_edge same_stream new begins = rw coming (same_edge, same_stream)
  runs_stand old coming same_edge same_stream new (goes run step) = step_stands _ _ step (runs_stand old coming same_edge same_stream _ run)

-- whatever was done, what was written answers what was read
pub answers : {H S C : Type 0} (t : StreamService H S) (tells : C → Option ℕ → C → Type 0) (old : ServingScene H S C) (fault : Option ServeFault) (new : ServingScene H S C) →
    Runs t tells old new → old.stage ≡ Coming → new.stage ≡ Left fault → ServesConnection t (edge_stream old.edge old.stream) fault (edge_stream new.edge new.stream)
answers t tells old fault new run coming left journey reached =
    rw left at (runs_stand t tells journey old.edge old.stream reached old coming refl refl new run)
