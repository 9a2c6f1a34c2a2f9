-- What the hooks of a server's own chain do.
use Rattle.std.specs.Prelude.{◌≡◌, ◌↔◌, ℕ, List, [], All, Some, length}
use Rattle.headline.specs.Names.{Hosting, Ask, Checked, Exit, IsRunTo, exit_within, narrowed_by}
use Rattle.insn.specs.Step.{Safe}
use Rattle.insn.specs.Values.{IsRecord, start}
use Rattle.hook_chain.specs.Chains.{Named, hooks_of}
use Rattle.consent.specs.History.{Event}
use Rattle.endpoints.specs.Hosts.{HostRun}

-- On each record of its version the hook's program exits after at most as many steps as it has instructions, and the exit
-- by which it answers is the one of its run.
pub record IsSafeHook (hook : Checked) : Type 0 where
  pub safe : Safe hook.layout hook.program
  pub exit : (bytes : List ℕ) (exit : Exit) → IsRecord hook.layout bytes →
      exit_within hook.layout hook.program (length hook.program) (start bytes) ≡ Some exit
      ↔ IsRunTo hook.layout hook.program bytes exit

-- every hook of the chain is safe, and the chain answers by the exits of its hooks' runs
pub record IsSafeChain (hosting : Hosting (List Named)) (chain : List Named) : Type 0 where
  pub hooks : All (λ named. IsSafeHook named.hook) chain
  pub answers : (ask : Ask) → hosting.answer chain ask ≡ narrowed_by (hooks_of chain) ask

-- so is each chain to which any history leads from one without hooks
abbrev pub AreSafeChains : Hosting (List Named) → Type 0
AreSafeChains hosting = (history : List Event) (chain : List Named) → HostRun hosting [] history chain → IsSafeChain hosting chain
