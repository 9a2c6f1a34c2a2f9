-- Before a reply is written the keeper was asked whether nobody else had begun.
use Rattle.std.specs.Prelude.{◌≡◌, ℕ, ◌∷◌}
use Rattle.outside.specs.Calls.{Transfer, Wrote, reads, waits}
use Rattle.event_loop.specs.Asking.{IsSoleUpTo}
use Rattle.event_loop.specs.Durable.{Onward}
use Rattle.event_loop.specs.LoopStates.{Promises, LoopState}
use Rattle.event_loop.specs.Served.{LoopStep, Served}

-- At a state since the last wait, behind all that was read so far, the keeper was asked, and told that up to then nobody else had begun.
pub record WasAsked {N C J K H : Type 0} (p : Promises N C J K H) (first s : LoopState N C J K H) : Type 0 where
  pub before : LoopState N C J K H
  pub behind : LoopState N C J K H
  pub served : Served p first before
  pub asked : LoopStep p before behind
  pub sole : IsSoleUpTo p.keeping before.keeper behind.keeper
  pub until : Onward p behind s
  pub waits_are : waits before.calls ≡ waits s.calls
  pub reads_are : reads before.calls ≡ reads s.calls

-- so it is where the step from the one state to the other is a write
abbrev pub IsWriteSole : {N C J K H : Type 0} → Promises N C J K H → LoopState N C J K H → LoopState N C J K H → LoopState N C J K H → Type 0
IsWriteSole p first s s' = (k room : ℕ) (took : Transfer) → s'.calls ≡ Wrote k room took ∷ s.calls → WasAsked p first s
