-- A chain of hooks that came through a history was run.
use Rattle.std.proofs.Common.{◌⊎◌, inl, inr, ℕ, List, []}
use Rattle.state_file.specs.Names.{recovered, Event, HostRun, Named}
use Rattle.hook_chain.specs.contracts.chain.ChainHookHost.TheImpl as chain
use Rattle.state_file.specs.ReplayingLaws.{replays}
use Rattle.state_file.specs.Resuming.{WasRun}
use Rattle.state_file.specs.Runs.{WasLived}
use Rattle.state_file.specs.Standing.{AreTold, StandsFor}

was_run_by : (left : List ℕ) (history : List Event) → StandsFor left history → AreTold (recovered left) history ⊎ ((host : List Named) × HostRun chain.ghosts [] history host) →
    WasRun chain.ghosts [] left history
was_run_by left history stands (inl told) = inl told
was_run_by left history stands (inr ran) = inr (replays left history stands ran.0 ran.1)

pub was_run : (left : List ℕ) (history : List Event) → WasLived left history → WasRun chain.ghosts [] left history
was_run left history lived = was_run_by left history lived.stands lived.ran
