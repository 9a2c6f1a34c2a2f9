use Rattle.std.proofs.Common.{◌≡◌, ap, sym, subst, ◌∙◌}
use Rattle.event_loop.proofs.Names.{IsTried, NobodyIsSilent, freed_queue, promises, Free, Service, Told, keeping}
use Rattle.event_loop.proofs.Leaving.{leaves_to}
use Rattle.event_loop.proofs.Putting.{put_within}
use Rattle.event_loop.proofs.Rooming.{guest_leaves}
use Rattle.event_loop.proofs.tools.Tools.give_way.Goals as goal

pub returns-clause-leads : goal.returns-clause-leads
returns-clause-leads g c = λ found first past served settled.
    let p = promises g.N.Sockets g.C.Clocks g.J.Journal (keeping g.K.Keeper) g.H.HookHost in
    let eldest = c.in-Some.ensures.eldest in
    leaves_to p c.in-Some.k c.in-Some.place c.args.service.now c.args.self.now c.leave.new.service c.leave.new.self eldest.here
    eldest.taken
    (λ now later reached. guest_leaves p c.args.guest c.args.service.now c.args.self.now c.in-Some.k c.in-Some.place now later c.requires.others c.in-Waits.is eldest reached)
    c.leave.ensures.away (ap (λ (s : Service). s.places) c.leave.ensures.rest) (ap (λ (s : Service). s.due) c.leave.ensures.rest) found first past served settled

pub returns-clause-idle : goal.returns-clause-idle
returns-clause-idle g c = λ idle.
    subst NobodyIsSilent (sym c.leave.ensures.rest)
    (put_within _ c.args.service.now.times c.args.service.now.places c.in-Some.k (record c.in-Some.place { stage = Free }) (λ taken. absurd taken) idle)

pub returns-clause-tried : goal.returns-clause-tried
returns-clause-tried g c = λ tried.
    let freed : freed_queue c.args.service.now.queue ≡ Told = ap freed_queue c.in-Waits.is in
    subst IsTried (sym c.leave.ensures.rest) (λ since barred. (let not = sym freed ∙ barred in absurd (cc)))

pub returns-in_default-clause-brief : goal.returns-in_default-clause-brief
returns-in_default-clause-brief g c = λ waits. elim (c.in_default.not-Waits waits) [ ]

pub returns-in_default-eldest-clause-brief : goal.returns-in_default-eldest-clause-brief
returns-in_default-eldest-clause-brief g c = λ waits. c.in_default-eldest.ensures.none

pub returns-clause-brief : goal.returns-clause-brief
returns-clause-brief g c = λ waits.
    let freed : freed_queue c.args.service.now.queue ≡ Told = ap freed_queue c.in-Waits.is in
    let queue = ap (λ (s : Service). s.queue) c.leave.ensures.rest in
    let not = sym freed ∙ (sym queue ∙ waits) in
    absurd (cc)

pub returns-clause-still : goal.returns-clause-still
returns-clause-still g c = λ waits.
    let freed : freed_queue c.args.service.now.queue ≡ Told = ap freed_queue c.in-Waits.is in
    let queue = ap (λ (s : Service). s.queue) c.leave.ensures.rest in
    let not = sym freed ∙ (sym queue ∙ waits) in
    absurd (cc)
