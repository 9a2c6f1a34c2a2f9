use Rattle.std.proofs.Common.{rules, ap, ◌≤◌, ◌-◌, ◌∷◌, take, arith, length, ◌≡◌, subst, refl, sym, ◌∙◌, [], Some, None}
use Rattle.event_loop.proofs.Names.{eqb-true, LoopState, DoneAfter, GoesRound, promises, Service, Accepting, Shortening, IsDone, goes, Past, Reached, running, state_of, no_wait, no_time, no_moment, too_far, keeping}
use Rattle.event_loop.specs.Served.{waits}
use Rattle.outside.specs.Calls as call
use Rattle.event_loop.specs.Moments.{seconds_too_far}
use Rattle.event_loop.proofs.Answering.{served_answered}
use Rattle.event_loop.proofs.Doing.{not_without}
use Rattle.event_loop.proofs.Hearing.{hearing_first}
use Rattle.event_loop.proofs.Leading.{kept_then}
use Rattle.event_loop.proofs.Leaving.{ComesToWait, may_wait, round_done, one_wait, waited_on, calm_told, room_told, told_or_not}
use Rattle.event_loop.proofs.Rooming.{calm_then}
use Rattle.event_loop.proofs.tools.Tools.round.Goals as goal

pub returns-in_default-clause-wrong : goal.returns-in_default-clause-wrong
returns-in_default-clause-wrong g c = λ first past begun was_ready unshortened.
    let size : length c.args.service.now.places ≡ 64 = search rules in
    let room : 65 ≤ length c.wait.new.found = search (rules, arith, c.requires.room) in
    let may = may_wait (promises g.N.Sockets g.C.Clocks g.J.Journal (keeping g.K.Keeper) g.H.HookHost) c.args.service.now c.shorten_some.new.service c.tell_room.new.service c.args.self.now c.tend.new.self c.shorten_some.new.self c.tell_room.new.self c.in-Ok-shorten_some.told c.in-Ok.due c.wait_limit-limit.result (length c.wait.new.found) size c.in-Ok-shorten_some.ensures.same c.tell_room.ensures.rest c.tell_room.ensures.tools c.tell_room.ensures.told c.tell_room.ensures.leads c.wait_limit-limit.ensures room c.in-Ok.ensures.tended c.in-Ok-shorten_some.ensures.shorter first past begun was_ready unshortened (c.requires.serves_on past.journey (served_answered _ first _ begun).reached) in
    record {
      last = state_of (running c.tell_room.new.service c.tell_room.new.self) [] may.next;
      served = may.served;
      found = [];
      next = record may.next { calls = call.WaitFailed c.wait_limit-limit.result (length c.wait.new.found) ∷ may.next.calls };
      fails = no_wait c.wait_limit-limit.result (length c.wait.new.found) c.wait.new.self may.may c.in_default.ensures.done;
    }

pub returns-in_default-read-clause-wrong : goal.returns-in_default-read-clause-wrong
returns-in_default-read-clause-wrong g c = λ first past begun was_ready unshortened.
    let heard = take c.in-Some.count c.wait.new.found in
    let size : length c.args.service.now.places ≡ 64 = search rules in
    let room : 65 ≤ length c.wait.new.found = search (rules, arith, c.requires.room) in
    let may = may_wait (promises g.N.Sockets g.C.Clocks g.J.Journal (keeping g.K.Keeper) g.H.HookHost) c.args.service.now c.shorten_some.new.service c.tell_room.new.service c.args.self.now c.tend.new.self c.shorten_some.new.self c.tell_room.new.self c.in-Ok-shorten_some.told c.in-Ok.due c.wait_limit-limit.result (length c.wait.new.found) size c.in-Ok-shorten_some.ensures.same c.tell_room.ensures.rest c.tell_room.ensures.tools c.tell_room.ensures.told c.tell_room.ensures.leads c.wait_limit-limit.ensures room c.in-Ok.ensures.tended c.in-Ok-shorten_some.ensures.shorter first past begun was_ready unshortened (c.requires.serves_on past.journey (served_answered _ first _ begun).reached) in
    record {
      last = state_of (running c.tell_room.new.service c.tell_room.new.self) [] may.next;
      served = may.served;
      found = heard;
      next = record may.next { calls = call.Waited c.wait_limit-limit.result (length c.wait.new.found) heard ∷ may.next.calls };
      fails = no_time c.wait_limit-limit.result (length c.wait.new.found) heard c.wait.new.self c.read.new.self may.may c.in-Some.ensures.done c.in_default-read.ensures;
    }

pub returns-in-Some-seconds_too_far-clause-wrong : goal.returns-in-Some-seconds_too_far-clause-wrong
returns-in-Some-seconds_too_far-clause-wrong g c = λ first past begun was_ready unshortened.
    let heard = take c.in-Some.count c.wait.new.found in
    let size : length c.args.service.now.places ≡ 64 = search rules in
    let room : 65 ≤ length c.wait.new.found = search (rules, arith, c.requires.room) in
    let may = may_wait (promises g.N.Sockets g.C.Clocks g.J.Journal (keeping g.K.Keeper) g.H.HookHost) c.args.service.now c.shorten_some.new.service c.tell_room.new.service c.args.self.now c.tend.new.self c.shorten_some.new.self c.tell_room.new.self c.in-Ok-shorten_some.told c.in-Ok.due c.wait_limit-limit.result (length c.wait.new.found) size c.in-Ok-shorten_some.ensures.same c.tell_room.ensures.rest c.tell_room.ensures.tools c.tell_room.ensures.told c.tell_room.ensures.leads c.wait_limit-limit.ensures room c.in-Ok.ensures.tended c.in-Ok-shorten_some.ensures.shorter first past begun was_ready unshortened (c.requires.serves_on past.journey (served_answered _ first _ begun).reached) in
    record {
      last = state_of (running c.tell_room.new.service c.tell_room.new.self) [] may.next;
      served = may.served;
      found = heard;
      next = record may.next { calls = call.Waited c.wait_limit-limit.result (length c.wait.new.found) heard ∷ may.next.calls };
      fails = too_far c.wait_limit-limit.result (length c.wait.new.found) heard c.wait.new.self c.in-Some-read.times c.read.new.self c.in-Some-seconds_too_far.seconds may.may c.in-Some.ensures.done c.in-Some-read.ensures (search rules);
    }

pub returns-in_default-keep_moment-clause-wrong : goal.returns-in_default-keep_moment-clause-wrong
returns-in_default-keep_moment-clause-wrong g c = λ first past begun was_ready unshortened.
    let heard = take c.in-Some.count c.wait.new.found in
    let size : length c.args.service.now.places ≡ 64 = search rules in
    let room : 65 ≤ length c.wait.new.found = search (rules, arith, c.requires.room) in
    let may = may_wait (promises g.N.Sockets g.C.Clocks g.J.Journal (keeping g.K.Keeper) g.H.HookHost) c.args.service.now c.shorten_some.new.service c.tell_room.new.service c.args.self.now c.tend.new.self c.shorten_some.new.self c.tell_room.new.self c.in-Ok-shorten_some.told c.in-Ok.due c.wait_limit-limit.result (length c.wait.new.found) size c.in-Ok-shorten_some.ensures.same c.tell_room.ensures.rest c.tell_room.ensures.tools c.tell_room.ensures.told c.tell_room.ensures.leads c.wait_limit-limit.ensures room c.in-Ok.ensures.tended c.in-Ok-shorten_some.ensures.shorter first past begun was_ready unshortened (c.requires.serves_on past.journey (served_answered _ first _ begun).reached) in
    let near : seconds_too_far c.tell_room.new.service.limits.ahead (Some c.in-Some-read.times) c.tell_room.new.service.held ≡ None = search rules in
    record {
      last = state_of (running c.tell_room.new.service c.tell_room.new.self) [] may.next;
      served = may.served;
      found = heard;
      next = record may.next { calls = call.Waited c.wait_limit-limit.result (length c.wait.new.found) heard ∷ may.next.calls };
      fails = no_moment c.wait_limit-limit.result (length c.wait.new.found) heard c.wait.new.self c.in-Some-read.times c.read.new.self c.keep_moment.new.self may.may c.in-Some.ensures.done c.in-Some-read.ensures near c.in_default-keep_moment.ensures.lost c.keep_moment.ensures.meanwhile c.in_default-keep_moment.ensures.fails;
    }

pub returns-in-Err-keep_all-clause-wrong : goal.returns-in-Err-keep_all-clause-wrong
returns-in-Err-keep_all-clause-wrong g c = λ first past begun was_ready unshortened.
    let heard = take c.in-Some.count c.wait.new.found in
    let size : length c.args.service.now.places ≡ 64 = search rules in
    let room : 65 ≤ length c.wait.new.found = search (rules, arith, c.requires.room) in
    let may = may_wait (promises g.N.Sockets g.C.Clocks g.J.Journal (keeping g.K.Keeper) g.H.HookHost) c.args.service.now c.shorten_some.new.service c.tell_room.new.service c.args.self.now c.tend.new.self c.shorten_some.new.self c.tell_room.new.self c.in-Ok-shorten_some.told c.in-Ok.due c.wait_limit-limit.result (length c.wait.new.found) size c.in-Ok-shorten_some.ensures.same c.tell_room.ensures.rest c.tell_room.ensures.tools c.tell_room.ensures.told c.tell_room.ensures.leads c.wait_limit-limit.ensures room c.in-Ok.ensures.tended c.in-Ok-shorten_some.ensures.shorter first past begun was_ready unshortened (c.requires.serves_on past.journey (served_answered _ first _ begun).reached) in
    let near : seconds_too_far c.tell_room.new.service.limits.ahead (Some c.in-Some-read.times) c.tell_room.new.service.held ≡ None = search rules in
    let stepped = goes may.served (waits c.wait_limit-limit.result (length c.wait.new.found) heard c.wait.new.self c.in-Some-read.times c.read.new.self c.keep_moment.new.self may.may c.in-Some.ensures.done c.in-Some-read.ensures near (record { holds = c.in-Ok-keep_moment.ensures.kept; basis = c.in-Ok-keep_moment.ensures.basis; told = c.in-Ok-keep_moment.ensures.told; idle = c.keep_moment.ensures.idle; until = c.in-Ok-keep_moment.ensures.until }) c.in-Ok-keep_moment.ensures.no_further) in
    let since : Past g.row.H.Denot = record may.next { calls = call.Waited c.wait_limit-limit.result (length c.wait.new.found) heard ∷ may.next.calls } in
    let waited = waited_on (promises g.N.Sockets g.C.Clocks g.J.Journal (keeping g.K.Keeper) g.H.HookHost) first c.tell_room.new.service c.in-Some-read.times
    (record c.tell_room.new.self { sockets = c.wait.new.self; clocks = c.read.new.self; keeper = c.keep_moment.new.self }) heard since _ _ _ _ c.later-service.ensures c.saturating_add-service.ensures stepped in
    let told = c.hear_all.ensures.hears first since waited (λ k less. (may.ready.settled k less).rested) in
    let read = c.read_all.ensures first [] since (hearing_first _ since c.hear_all.ensures.heard (λ kind is. is)) told.1 told.0 in
    let more = (c.read_more.ensures first _ since (omega arith) (λ m is. is) read).reading in
    record {
      last = state_of (running c.read_more.new.service c.read_more.new.self) [] more.on.next;
      served = more.on.served;
      found = [];
      next = more.on.next;
      fails = c.in-Err-keep_all.ensures.lost first [] more.on.next more.hearing.not_kept more.on.served (served_answered _ first _ more.on.served).reached;
    }

pub returns-clause-goes : goal.returns-clause-goes
returns-clause-goes g c = λ first past begun was_ready unshortened.
    let size : length c.args.service.now.places ≡ 64 = search rules in
    let room : 65 ≤ length c.wait.new.found = search (rules, arith, c.requires.room) in
    on_from first past (may_wait (promises g.N.Sockets g.C.Clocks g.J.Journal (keeping g.K.Keeper) g.H.HookHost) c.args.service.now c.shorten_some.new.service c.tell_room.new.service c.args.self.now c.tend.new.self c.shorten_some.new.self c.tell_room.new.self c.in-Ok-shorten_some.told c.in-Ok.due c.wait_limit-limit.result (length c.wait.new.found) size c.in-Ok-shorten_some.ensures.same c.tell_room.ensures.rest c.tell_room.ensures.tools c.tell_room.ensures.told c.tell_room.ensures.leads c.wait_limit-limit.ensures room c.in-Ok.ensures.tended c.in-Ok-shorten_some.ensures.shorter first past begun was_ready unshortened (c.requires.serves_on past.journey (served_answered _ first _ begun).reached))
  where
    -- from the wait on
    on_from : (first : LoopState g.row.N.Denot g.row.C.Denot g.row.J.Denot g.row.K.Denot g.row.H.Denot) (past : Past g.row.H.Denot) →
        ComesToWait (promises g.N.Sockets g.C.Clocks g.J.Journal (keeping g.K.Keeper) g.H.HookHost) first past (running c.tell_room.new.service c.tell_room.new.self) c.wait_limit-limit.result (length c.wait.new.found) →
        GoesRound (promises g.N.Sockets g.C.Clocks g.J.Journal (keeping g.K.Keeper) g.H.HookHost) first 1 past (running c.tell.new.service c.tell.new.self)
    on_from first past may =
        let p = promises g.N.Sockets g.C.Clocks g.J.Journal (keeping g.K.Keeper) g.H.HookHost in
        let heard = take c.in-Some.count c.wait.new.found in
        let near : seconds_too_far c.tell_room.new.service.limits.ahead (Some c.in-Some-read.times) c.tell_room.new.service.held ≡ None = search rules in
        let stepped = goes may.served (waits c.wait_limit-limit.result (length c.wait.new.found) heard c.wait.new.self c.in-Some-read.times c.read.new.self c.keep_moment.new.self may.may c.in-Some.ensures.done c.in-Some-read.ensures near (record { holds = c.in-Ok-keep_moment.ensures.kept; basis = c.in-Ok-keep_moment.ensures.basis; told = c.in-Ok-keep_moment.ensures.told; idle = c.keep_moment.ensures.idle; until = c.in-Ok-keep_moment.ensures.until }) c.in-Ok-keep_moment.ensures.no_further) in
        let since : Past g.row.H.Denot = record may.next { calls = call.Waited c.wait_limit-limit.result (length c.wait.new.found) heard ∷ may.next.calls } in
        let waited = waited_on p first c.tell_room.new.service c.in-Some-read.times
        (record c.tell_room.new.self { sockets = c.wait.new.self; clocks = c.read.new.self; keeper = c.keep_moment.new.self }) heard since _ _ _ _ c.later-service.ensures c.saturating_add-service.ensures stepped in
        let told = c.hear_all.ensures.hears first since waited (λ k less. (may.ready.settled k less).rested) in
        let read = c.read_all.ensures first [] since (hearing_first _ since c.hear_all.ensures.heard (λ kind is. is)) told.1 told.0 in
        let more = (c.read_more.ensures first _ since (omega arith) (λ m is. is) read).reading in
        let written = kept_then p first [] since _ c.read_more.new.service c.write_all.new.service _ c.read_more.new.self c.keep_all.new.self c.write_all.new.self more c.in_default-keep_all.ensures.kept c.write_all.ensures in
        let idle = c.tidy.ensures.within (λ same. written.on.within (c.hear_all.ensures.within (λ k place here taken. subst (λ now. now - place.since ≤ c.tell_room.new.service.limits.idle) (sym (eqb-true _ _ same)) (may.ready.calm.idle k place here taken)))) in
        let on = calm_then p _ _ _ _ _ _ _ _ _ _ first written.on.next (c.tidy.ensures.leads []) (c.give_way.ensures.leads []) (c.give_way-2.ensures.leads []) (c.hear_out.ensures.leads [])
        c.give_way-2.ensures.still c.give_way.ensures.brief (c.give_way-2.ensures.idle (c.give_way.ensures.idle idle)) (c.give_way-2.ensures.tried (c.give_way.ensures.tried c.tidy.ensures.tried)) written.on.served written.below in
        let admitted = c.admit_all.ensures.leads [] first on.goes.next on.goes.served on.goes.settled in
        let last = c.tell.ensures.leads [] first admitted.goes.next admitted.goes.served admitted.goes.settled in
        let queue : c.tell.new.service.queue ≡ c.admit_all.new.service.queue = ap (λ (s : Service). s.queue) c.tell.ensures.rest in
        let done : DoneAfter since.calls last.next.calls = round_done since.calls written.on.next.calls on.goes.next.calls admitted.goes.next.calls last.next.calls written.on.done on.goes.done admitted.goes.done last.done in
        record {
          next = last.next;
          served = last.served;
          ready = record {
            settled = last.settled;
            queue = told_or_not {P = IsDone Accepting last.next.calls} c.tell.new.service.queue (λ told. last.done.more.keeps Accepting (admitted.tried (sym queue ∙ told)));
            calm = calm_told c.admit_all.new.service c.tell.new.service c.tell.ensures.rest (c.admit_all.ensures.calm (c.hear_out.ensures.calm on.calm));
            room = room_told c.admit_all.new.service c.tell.new.service last.next.journey.world c.tell.ensures.rest
                (c.admit_all.ensures.room c.hear_out.ensures.room last.next.journey (subst (λ e. Reached g.H.HookHost e last.next.journey) c.tell.ensures.edge (served_answered p first _ last.served).reached));
            reported = c.tell.ensures.reported;
          };
          unshortened = done.alone;
          waits_are = one_wait past.calls may.next.calls since.calls last.next.calls may.waits_are refl done;
        }

pub returns-in-Err-clause-wrong : goal.returns-in-Err-clause-wrong
returns-in-Err-clause-wrong g c = λ first past h ready unshortened.
    record { last = state_of (running c.args.service.now c.args.self.now) [] past; served = h; found = []; next = past; fails = c.in-Err.ensures.lost [] c.args.service.now past }

pub returns-in-Err-shorten_some-clause-wrong : goal.returns-in-Err-shorten_some-clause-wrong
returns-in-Err-shorten_some-clause-wrong g c = λ first past h ready unshortened.
    let since : Past g.row.H.Denot = record past { calls = call.Tended c.in-Ok.due ∷ past.calls } in
    let tended = c.in-Ok.ensures.tended first [] c.args.service.now past refl h in
    record {
      last = state_of (running c.args.service.now c.tend.new.self) [] since;
      served = tended;
      found = [];
      next = since;
      fails = c.in-Err-shorten_some.ensures.failed first [] since (not_without Shortening past.calls unshortened) tended (served_answered _ first _ tended).reached;
    }

pub hear_out-requires : goal.hear_out-requires
hear_out-requires g c = record { behind = c.give_way-2.ensures.brief }

pub read_more-requires : goal.read_more-requires
read_more-requires g c = record { room = search (rules, arith, c.requires.room) }
