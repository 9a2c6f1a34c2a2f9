use Rattle.state_keeper.proofs.Sliced.{waits_not}
use Rattle.state_keeper.proofs.renewing.wait.Goals as goal

pub returns-in-Ok : goal.returns-in-Ok
returns-in-Ok g c = (c.put_down.ensures.file, c.in-Ok.ensures.next, c.in-Ok.ensures.down)

pub returns-in-Err : goal.returns-in-Err
returns-in-Err g c =
    waits_not g.D.Device c.args.file.now c.put_down.new.file c.give_up.new.file c.in-Err.fault c.give_up.result c.in-Err.ensures.refused c.give_up.ensures.is c.put_down.ensures.file
    c.give_up.ensures.gives_up c.args.stage.now
