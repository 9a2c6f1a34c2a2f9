use Rattle.event_loop.proofs.Names.{promises, keeping}
use Rattle.event_loop.proofs.HeardOut.{served_whole}
use Rattle.event_loop.proofs.laws.no_reply_is_cut_to_make_room.Goals as goal

pub returns : goal.returns
returns g c = λ first s served k place here has.
    served_whole (promises g.N.Sockets g.C.Clocks g.J.Journal (keeping g.K.Keeper) g.H.HookHost) first s served k place here has
