use Rattle.std.proofs.Common.{◌∷◌, inl, inr, refl, arith}
use Rattle.event_loop.proofs.Names.{promises, asks, goes, comes, keeping}
use Rattle.outside.specs.Calls as call
use Rattle.event_loop.proofs.Doing.{done_then, one_more, not_of_kind}
use Rattle.event_loop.proofs.Leading.{nowhere, accepts_then}
use Rattle.event_loop.proofs.Resting.{settled_then}
use Rattle.event_loop.proofs.tools.Tools.admit_all.Goals as goal

pub loop-nth-init : goal.loop-nth-init
loop-nth-init g c = record {
  leads = λ found first past h settled. record {
    goes = nowhere (promises g.N.Sockets g.C.Clocks g.J.Journal (keeping g.K.Keeper) g.H.HookHost) found _ _ first past h settled;
    tried = λ less. absurd (omega (arith, less));
  };
  calm = λ calm. calm;
  room = λ was. was;
}

pub loop-nth-preserved : goal.loop-nth-preserved
loop-nth-preserved g c = record {
  leads = λ found first past h settled.
      accepts_then (promises g.N.Sockets g.C.Clocks g.J.Journal (keeping g.K.Keeper) g.H.HookHost) _ _ _ _ _ _ c.loop-nth.invariant.leads c.admit.ensures.leads found first past h settled;
  calm = λ calm. c.admit.ensures.calm (c.loop-nth.invariant.calm calm);
  room = λ was journey reached waits. absurd (c.admit.ensures.taken waits);
}

pub returns-clause-leads : goal.returns-clause-leads
returns-clause-leads g c = λ found first past h settled.
    let all = c.loop-nth.invariant.leads found first past h settled in
    record { goes = all.goes; tried = λ told. all.tried (omega (arith, c.loop-nth-test.false)) }

-- where nobody is known to wait, nothing is left to be tried
pub returns-in_default-clause-leads : goal.returns-in_default-clause-leads
returns-in_default-clause-leads g c = λ found first past h settled.
    let all = c.loop-nth.invariant.leads found first past h settled in
    record { goes = all.goes; tried = λ told. elim (c.in_default.not-Told told) [ ] }

pub returns-in_default-free_place-clause-leads : goal.returns-in_default-free_place-clause-leads
returns-in_default-free_place-clause-leads g c = λ found first past h settled.
    let all = c.loop-nth.invariant.leads found first past h settled in
    record {
      goes = record {
        next = record all.goes.next { calls = call.Asked ∷ all.goes.next.calls };
        served = goes all.goes.served (comes _ c.in-Told.is (asks c.ask.new.self c.in_default-free_place.ensures.none c.ask.ensures));
        settled = settled_then c.loop-nth.service all.goes.next _ _ refl refl refl (one_more _ _ refl refl (λ kind t. inr t) (not_of_kind _ _ (λ is. absurd (cc)))) all.goes.settled;
        done = done_then _ _ _ all.goes.done (one_more _ _ refl refl (λ kind t. inr t) (not_of_kind _ _ (λ is. absurd (cc))));
      };
      tried = λ told. inl refl;
    }

pub returns-in_default-free_place-clause-room : goal.returns-in_default-free_place-clause-room
returns-in_default-free_place-clause-room g c = λ was journey reached waits. absurd (cc)
