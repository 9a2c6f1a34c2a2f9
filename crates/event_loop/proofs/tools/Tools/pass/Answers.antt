use Rattle.std.proofs.Common.{◌∷◌, []}
use Rattle.event_loop.proofs.Names.{hands_on, Forgotten, led_on}
use Rattle.outside.specs.Calls as call
use Rattle.event_loop.proofs.tools.Tools.pass.Goals as goal

pub returns-clause-away : goal.returns-clause-away
returns-clause-away g c = λ found past reached.
    let on = rw c.new.ensures at (c.forget.ensures.forgotten past.journey reached) in
    rw c.freed-service.ensures
    (record {
      next = record { calls = call.Passed c.args.k ∷ past.calls; journey = led_on past.journey (Forgotten c.args.k ∷ []) on.world };
      passes = hands_on c.pass.new.self c.forget.new.self on c.pass.ensures;
    })
