-- The histories that the bytes of a state file stand for, and that a server with a chain of hooks came through.
use Rattle.std.specs.Prelude.{◌⊎◌, ℕ, List, []}
use Rattle.state_file.specs.Names.{recovered, Event, HostRun, Named}
use Rattle.hook_chain.specs.contracts.chain.ChainHookHost.TheImpl as chain
use Rattle.state_file.specs.Resuming.{WasRight}
use Rattle.state_file.specs.Standing.{AreTold, StandsFor}

-- The bytes stand for the history, which was right. Where it is not the list itself that they tell, that a chain of hooks came
-- through it is asked for too: a server's did.
pub record WasLived (left : List ℕ) (history : List Event) : Type 0 where
  pub stands : StandsFor left history
  pub right : WasRight left history
  pub ran : AreTold (recovered left) history ⊎ ((host : List Named) × HostRun chain.ghosts [] history host)

-- so it is of each of them
abbrev pub OfEachRun : List ℕ → (List Event → Type 0) → Type 0
OfEachRun left claim = (history : List Event) → WasLived left history → claim history
