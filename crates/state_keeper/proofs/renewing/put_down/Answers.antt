use Rattle.std.proofs.Common.{refl}
use Rattle.state_keeper.proofs.Way.{keeps_beside}
use Rattle.state_keeper.proofs.renewing.put_down.Goals as goal
