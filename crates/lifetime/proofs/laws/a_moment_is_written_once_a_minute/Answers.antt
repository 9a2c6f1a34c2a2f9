use Rattle.event_loop.specs.MinutesLaws.{once_a_minute}
use Rattle.lifetime.specs.Given.{in_loop, life_promises}
use Rattle.lifetime.proofs.laws.a_moment_is_written_once_a_minute.Goals as goal

pub returns : goal.returns
returns g c = once_a_minute (in_loop (life_promises g.D.Device g.N.Sockets g.C.Clocks g.J.Journal))
