use Rattle.std.proofs.Common.{◌∷◌, []}
use Rattle.event_loop.proofs.Names.{leaves, Forgotten, led_on, noted_in}
use Rattle.outside.specs.Calls as call
use Rattle.event_loop.proofs.tools.Tools.leave.Goals as goal

pub returns-clause-away : goal.returns-clause-away
returns-clause-away g c = λ found past reached.
    let on = rw c.new.ensures at (c.forget.ensures.forgotten past.journey reached) in
    rw c.freed-service.ensures
    (record {
      next = record { calls = call.Closed c.args.k ∷ past.calls; journey = led_on past.journey (Forgotten c.args.k ∷ []) on.world };
      closes = leaves c.close.new.self c.forget.new.self on (noted_in c.note_end.new.journal c.note_end.new.noted) c.close.ensures c.note_end.ensures;
    })
