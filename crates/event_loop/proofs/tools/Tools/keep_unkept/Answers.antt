use Rattle.std.proofs.Common.{arith, inl, inr, ◌∷◌, [], refl}
use Rattle.event_loop.proofs.Names.{Kept, led_on, goes, keeps, confirms, not_confirmed, not_kept}
use Rattle.outside.specs.Calls as call
use Rattle.event_loop.proofs.Doing.{asks_more, none_more, not_another, not_of_kind, not_without}
use Rattle.event_loop.proofs.Kept.{kept_connections, all_kept_now}
use Rattle.event_loop.proofs.tools.Tools.keep_unkept.Goals as goal

pub returns-then-end-eq0-clause-kept : goal.returns-then-end-eq0-clause-kept
returns-then-end-eq0-clause-kept g c = λ first found past undone h reached.
    record {
      next = past;
      served = h;
      kept = c.in_default.ensures.none past.journey reached;
      confirmed = inl (λ k less. c.end.ensures.none k (omega (arith, c.if-end-eq0.true)) less);
      connections = refl;
      done = none_more past.calls;
      alone = λ other differs not. not;
    }

pub returns-in-Ok-clause-kept : goal.returns-in-Ok-clause-kept
returns-in-Ok-clause-kept g c = λ first found past undone h reached.
    let all = c.in_default.ensures.none past.journey reached in
    record {
      next = record past { calls = call.Confirmed ∷ past.calls };
      served = goes h (confirms c.confirm.new.self all (record { still = c.in-Ok.ensures.kept; basis = c.in-Ok.ensures.basis; no_further = c.in-Ok.ensures.no_further; size = c.in-Ok.ensures.size; until = c.confirm.ensures.until }) c.in-Ok.ensures.sole);
      kept = all;
      confirmed = inr tt;
      connections = refl;
      done = asks_more past.calls;
      alone = λ other differs not. not_without other past.calls not;
    }

pub returns-in-Err-clause-lost : goal.returns-in-Err-clause-lost
returns-in-Err-clause-lost g c = λ first found past undone h reached.
    not_confirmed c.confirm.new.self (c.in_default.ensures.none past.journey reached) c.in-Err.ensures.lost c.confirm.ensures.meanwhile c.in-Err.ensures.fails

pub returns-in_default-keep-clause-lost : goal.returns-in_default-keep-clause-lost
returns-in_default-keep-clause-lost g c = λ first found past undone h reached.
    let unkept = c.in-Some.ensures.some past.journey reached in
    not_kept c.keep.new.self unkept.0 undone (c.in_default-keep.ensures.lost unkept.0.kept past.journey.world.history unkept.1) c.keep.ensures.meanwhile c.in_default-keep.ensures.fails

pub returns-clause-kept : goal.returns-clause-kept
returns-clause-kept g c = λ first found past undone h reached.
    let unkept = c.in-Some.ensures.some past.journey reached in
    let on = c.forget_unkept.ensures.kept past.journey reached in
    record {
      next = record { calls = call.Kept ∷ past.calls; journey = led_on past.journey (Kept ∷ []) on.world };
      served = goes h (keeps c.keep.new.self c.forget_unkept.new.self unkept.0 on undone (c.in-Ok-keep.ensures.kept unkept.0.kept past.journey.world.history unkept.1) (record { basis = c.in-Ok-keep.ensures.basis; ahead = c.in-Ok-keep.ensures.ahead; until = c.in-Ok-keep.ensures.until }) c.in-Ok-keep.ensures.no_further c.in-Ok-keep.ensures.sole);
      kept = all_kept_now past.journey.world on.world on.happens;
      confirmed = inr tt;
      connections = kept_connections past.journey.world on.world on.happens;
      done = record { more = record { waits = refl; grows = omega arith; keeps = λ kind t. inr t }; alone = not_of_kind _ _ (λ is. absurd (cc)) };
      alone = λ other differs not. not_another call.Keeping other past.calls differs not;
    }
