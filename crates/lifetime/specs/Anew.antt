-- A server that is started without a file of its state, and keeps nothing.
use Rattle.std.specs.Prelude.{List}
use Rattle.lifetime.specs.Names.{Keeping, keeping, Outset, Promises, Named, new_journey}
use Rattle.change_codec.specs.contracts.keeper.NoKeeperKeeper.TheImpl as no_keeper
use Rattle.change_codec.specs.declared.keeper.NoKeeper.{NoKeeper}
use Rattle.lifetime.specs.Serving.{Serves}
use Rattle.lifetime.specs.declared.means.Means.{Means}
use Rattle.lifetime.specs.declared.going_on.AnewEnd.{AnewEnd}
use Rattle.lifetime.specs.declared.going_on.Ending.{Ending}

-- nothing is kept
abbrev pub keeping_nothing : Keeping NoKeeper
keeping_nothing = keeping no_keeper.ghosts

-- It begins with these rules and this host, and gives back what it was handed, as that is left.
pub data IsLifeAnew {N C J : Type 0} (p : Promises N C J NoKeeper (List Named)) (outset : Outset (List Named)) (means : Means N C J) :
    AnewEnd N C J → Type 0 where
  -- the server served until it could not go on
  has_stopped : (keeper : NoKeeper) (ending : Ending N C J NoKeeper) → Serves p (new_journey outset) means keeper ending →
      IsLifeAnew p outset means
      (record { fault = ending.fault; sockets = ending.tools.sockets; clocks = ending.tools.clocks; journal = ending.tools.journal })
