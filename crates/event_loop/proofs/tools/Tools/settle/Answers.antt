use Rattle.std.proofs.Common.{subst, ◌≡◌, true, false, length, refl, ap, sym, ◌∙◌, slice_get, slice_set}
use Rattle.event_loop.proofs.Names.{IsOver, connection_at, Free, Service, goes, closes, NobodyIsSilent}
use Rattle.event_loop.specs.Closing as closing
use Rattle.event_loop.proofs.Doing.{closes_done, closes_some, closes_alone}
use Rattle.event_loop.proofs.Leading.{closes_other, closes_kept, closes_told, closes_confirmed}
use Rattle.telling.specs.Audience.{IsAllTold}
use Rattle.event_loop.proofs.Putting.{put_within, set_other}
use Rattle.event_loop.proofs.Resting.{put_others, put_settled, free_rests, stays_tidy, not_due, not_rested, told_as}
use Rattle.event_loop.proofs.tools.Tools.settle.Goals as goal

pub returns-in-Close-clause-tidies : goal.returns-in-Close-clause-tidies
returns-in-Close-clause-tidies g c = λ first found past h reached.
    let k = c.args.k in
    let place = c.place_at-place.result in
    let away = c.leave.ensures.away found past reached in
    let over : IsOver place (connection_at past.journey.world.connections k) = c.in-Close.ensures.due (connection_at past.journey.world.connections k) (told_as c.place_at-place.result.stage (length c.offer-output.result.now) c.closing-closing.result c.output.result.now c.offer-output.result.now (connection_at past.journey.world.connections k) refl c.offer-output.ensures.offer (rw c.new-connection.ensures at (c.output.ensures.output past.journey reached)) (rw c.new-connection.ensures at (c.closing-closing.ensures past.journey reached))) in
    let places : c.leave.new.service.places ≡ slice_set c.args.service.now.places k (record place { stage = Free }) = ap (λ (s : Service). s.places) c.leave.ensures.rest in
    let due : c.leave.new.service.due ≡ slice_set c.args.service.now.due k false = ap (λ (s : Service). s.due) c.leave.ensures.rest ∙ c.remove.ensures in
    let settled = put_settled k c.args.service.now c.leave.new.service (record place { stage = Free }) away.next places (free_rests _ _ refl) (λ e. closes_some _ k place _ _ away.closes) in
    record {
      goes = record {
        on = record {
          next = away.next;
          served = goes h (closes k place _ c.place_at-place.ensures (c.due.ensures.taken c.in-Close.is) (closing.is_over over) away.closes);
          done = closes_done _ k place _ _ away.closes;
          within = λ all. subst NobodyIsSilent (sym c.leave.ensures.rest) (put_within c.args.service.now.limits.idle c.args.service.now.times c.args.service.now.places k (record place { stage = Free }) (λ taken. absurd taken) all);
        };
        others =
            put_others k c.args.service.now c.leave.new.service (record place { stage = Free }) past.journey.world away.next.journey.world places
            (λ j other. ap (λ l. slice_get l j) due ∙ set_other c.args.service.now.due k j false other) (closes_other _ k place _ _ away.closes);
        alone = λ other differs not. closes_alone _ k place _ _ away.closes other not;
        ready = λ was. record {
          kept = closes_kept _ k place _ _ away.closes was.kept;
          told = subst IsAllTold (sym (closes_told _ k place _ _ away.closes)) was.told;
          confirmed = closes_confirmed _ k place _ _ away.closes was.confirmed;
        };
      };
      rested = settled.rested;
      turned = λ unread unwritten. settled.turned;
      left = λ e. absurd (not_due c.args.service.now.due k (ap (λ l. slice_get l k) (sym due) ∙ e));
    }

pub returns-in-Work-clause-tidies : goal.returns-in-Work-clause-tidies
returns-in-Work-clause-tidies g c = λ first found past h reached.
    let due = c.args.service.now.due in
    let k = c.args.k in
    let work = c.in-Work.ensures.due (connection_at past.journey.world.connections k) (told_as c.place_at-place.result.stage (length c.offer-output.result.now) c.closing-closing.result c.output.result.now c.offer-output.result.now (connection_at past.journey.world.connections k) refl c.offer-output.ensures.offer (rw c.new-connection.ensures at (c.output.ensures.output past.journey reached)) (rw c.new-connection.ensures at (c.closing-closing.ensures past.journey reached))) in
    rw c.add.ensures (stays_tidy _ first found k c.args.service.now c.args.self.now past c.place_at-place.result (slice_set due k true) c.place_at-place.ensures
    work.1 (λ j other. set_other due k j true other) (λ none. absurd (not_rested due k none)) (λ e. work.0) h)

pub returns-in-Rest-clause-tidies : goal.returns-in-Rest-clause-tidies
returns-in-Rest-clause-tidies g c = λ first found past h reached.
    let due = c.args.service.now.due in
    let k = c.args.k in
    let rests = c.in-Rest.ensures.due (connection_at past.journey.world.connections k) (told_as c.place_at-place.result.stage (length c.offer-output.result.now) c.closing-closing.result c.output.result.now c.offer-output.result.now (connection_at past.journey.world.connections k) refl c.offer-output.ensures.offer (rw c.new-connection.ensures at (c.output.ensures.output past.journey reached)) (rw c.new-connection.ensures at (c.closing-closing.ensures past.journey reached))) in
    rw c.remove-in-Rest.ensures (stays_tidy _ first found k c.args.service.now c.args.self.now past c.place_at-place.result (slice_set due k false) c.place_at-place.ensures
    rests.goes_on (λ j other. set_other due k j false other) (λ none. rests) (λ e. absurd (not_due due k e)) h)
