use Rattle.std.proofs.Common.{[], false, None, Some, ap, inl, inr, refl, sym, subst, ◌∙◌, ℕ, ◌≡◌}
use Rattle.event_loop.proofs.Names.{Times, IsOccupied, AreWithin, LoopState, promises, IsFirst, begins, stops, Past, IsReadyToWait, running, state_of, Told, Empty, Barred, Waits, Onward}
use Rattle.event_loop.proofs.Names.{LastTold, keeping}
use Rattle.std.specs.Prelude.{max}
use Rattle.change_codec.specs.Keeping.{horizon_bound}
use Rattle.event_loop.specs.Durable.{latest}
use Rattle.event_loop.specs.Ends.{told_then}
use Rattle.event_loop.proofs.Answering.{served_answered}
use Rattle.event_loop.proofs.Asking.{served_asked}
use Rattle.event_loop.proofs.Resting.{free_rests}
use Rattle.event_loop.proofs.Leading.{rested_settled}
use Rattle.event_loop.proofs.Fronts.{end_did, fails_does, leaves_between, leaves_to_end, onward_carries, step_does}
use Rattle.event_loop.proofs.Moments.{basis_to_end, moment_stays, onward_basis, served_moment}
use Rattle.event_loop.proofs.serve.serve_all.Goals as goal

pub returns-in_default : goal.returns-in_default
returns-in_default g c = λ journey reached. inr (record { is_clock = refl; clocks = c.read.new.self; told_nothing = c.in_default.ensures; same = refl })

pub returns : goal.returns
returns g c = λ journey reached.
    let p = promises g.N.Sockets g.C.Clocks g.J.Journal (keeping g.K.Keeper) g.H.HookHost in
    let past : Past g.row.H.Denot = record { calls = []; journey = journey } in
    let first : LoopState g.row.N.Denot g.row.C.Denot g.row.J.Denot g.row.K.Denot g.row.H.Denot = state_of (running c.new-service.result (record c.args.tools.now { clocks = c.read.new.self })) [] past in
    let held : c.new-service.result.held ≡ journey.world.greatest = c.new-service.ensures.held ∙ c.moment.ensures ∙ (rw c.server.ensures reached.server.greatest_is) in
    let is_first : IsFirst p first =
    record { size = c.new-service.ensures.size; free = c.new-service.ensures.free; found = refl; noted = c.new-service.ensures.noted; held = held; told = c.new-service.ensures.told ∙ sym (ap (λ (t : Times). record { report = t.steady; full = None; room = false }) c.new-service.ensures.times); refused = c.new-service.ensures.refused; reload = c.new-service.ensures.reload; began = c.new-service.ensures.began ∙ sym (ap (λ (t : Times). t.steady) c.new-service.ensures.times); accepted = c.new-service.ensures.accepted; turn = c.new-service.ensures.turn; queue = c.new-service.ensures.queue; calls = refl; reached = reached } in
    let nobody : (limit : ℕ) → AreWithin limit c.new-service.result.times c.new-service.result.places = λ limit k place here taken. absurd (subst IsOccupied (c.new-service.ensures.free k place here) taken) in
    let ready : IsReadyToWait c.new-service.result past = record {
      settled = λ k less. rested_settled k c.new-service.result past (λ none place here. free_rests place _ (c.new-service.ensures.free k place here)) (c.new-service.ensures.due k less);
      queue = inl (λ told. (let not : Empty ≡ Told = sym c.new-service.ensures.queue ∙ told in absurd (cc)));
      calm = record { idle = nobody _; crowded = λ waits. nobody _; tried = λ since barred. (let not : Empty ≡ Barred since = sym c.new-service.ensures.queue ∙ barred in absurd (cc)) };
      room = λ waits. (let not : Empty ≡ Waits = sym c.new-service.ensures.queue ∙ waits in absurd (cc));
      reported = λ every wanted. inl (ap (λ (l : LastTold). l.report) is_first.told);
    } in
    let wrong = c.rounds-fault.ensures first past (begins is_first) ready (λ done. done) in
    let failed = state_of (running c.rounds-fault.new.service c.rounds-fault.new.self) wrong.found wrong.next in
    let last_reached = (served_answered p first wrong.last wrong.served).reached in
    let shut = c.leave_all.ensures.shut failed wrong.found wrong.next stops ((fails_does p wrong.last failed _ wrong.fails).reached last_reached) in
    let told = c.tell_last.ensures wrong.found shut.next in
    let emptied : LoopState g.row.N.Denot g.row.C.Denot g.row.J.Denot g.row.K.Denot g.row.H.Denot = state_of (running c.leave_all.new.service c.leave_all.new.self) wrong.found shut.next in
    let end : LoopState g.row.N.Denot g.row.C.Denot g.row.J.Denot g.row.K.Denot g.row.H.Denot = state_of (running c.leave_all.new.service c.tell_last.new.self) wrong.found shut.next in
    inl (record {
      first = first;
      is_first = is_first;
      limits_are = c.new-service.ensures.limits;
      journey_is = refl;
      told = subst (λ (t : Times). g.C.Clocks.tells c.args.tools.now.clocks (Some t) c.read.new.self) (sym c.new-service.ensures.times) c.in-Some.ensures;
      tools_are = refl;
      last = wrong.last;
      served = wrong.served;
      answered = λ s. served_answered p first s;
      kept = λ s s' served step k room took is. ((step_does p s s' step).written k room took is).kept;
      audited = λ s s' served step k room took is. ((step_does p s s' step).written k room took is).told;
      sole = λ s s' served step k room took is. served_asked p first s served ((step_does p s s' step).written k room took is).confirmed;
      durable = λ held s s' served on before is. leaves_between p g.met.K.Keeper.only_now first held s before served is s' on;
      carries = λ s s'. onward_carries p first s s';
      basis = λ s s' served. onward_basis p s s';
      moment = served_moment p first;
      moment_stays = λ s s' served on. moment_stays p g.met.K.Keeper.only_now first (horizon_bound (latest on)) s s' served (onward_basis p s s' on).meanwhile;
      failed = failed;
      fails = wrong.fails;
      emptied = emptied;
      shuts = shut.shuts;
      end = end;
      tells_last = told;
      done = end_did p first wrong.last failed emptied end c.rounds-fault.result wrong.served wrong.fails shut.shuts told;
      durable_then = λ held s served on before is. leaves_to_end p g.met.K.Keeper.only_now first held s before served is wrong.last failed emptied end c.rounds-fault.result on wrong.fails shut.shuts told;
      basis_then = λ s served on. basis_to_end p s wrong.last failed emptied end c.rounds-fault.result on wrong.fails shut.shuts told;
      moment_stays_then = λ s served on. moment_stays p g.met.K.Keeper.only_now first (horizon_bound (max (latest on) (told_then wrong.fails))) s end served
          (basis_to_end p s wrong.last failed emptied end c.rounds-fault.result on wrong.fails shut.shuts told);
      free = c.leave_all.ensures.free;
      tools_are_then = refl;
    })
