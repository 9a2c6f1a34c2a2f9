-- How many slices a shortening takes.
use Rattle.std.specs.Prelude.{◌≡◌, ◌⊎◌, ◌≤◌, ◌+◌, ◌*◌, ℕ, suc, List, [], ◌∷◌, None, unwrap_or}
use Rattle.outside.specs.Calls.{Call, Shortened}
use Rattle.event_loop.specs.LoopStates.{Promises, LoopState}
use Rattle.event_loop.specs.Served.{LoopStep}

-- so many slices were gone over
abbrev pub slices_done : List Call → ℕ
slices_done [] = 0
slices_done (Shortened ∷ earlier) = suc (slices_done earlier)
slices_done (call ∷ earlier) = slices_done earlier

-- no slice that was gone over at the step ended a shortening, and none was refused
pub record IsUnended {N C J K H : Type 0} (p : Promises N C J K H) (s s' : LoopState N C J K H) : Type 0 where
  pub unshortened : s'.calls ≡ Shortened ∷ s.calls → ¬ (p.keeping.shortens s.keeper s'.keeper)
  pub unrefused : (s'.refused ≡ s.refused) ⊎ (s'.refused ≡ None)

-- Such steps lead on from a state.
pub data LongOnward {N C J K H : Type 0} (p : Promises N C J K H) (s : LoopState N C J K H) : LoopState N C J K H → Type 0 where
  is_there : LongOnward p s s
  long_onward : {s' s'' : LoopState N C J K H} → LongOnward p s s' → LoopStep p s' s'' → IsUnended p s' s'' → LongOnward p s s''

-- From the one state to the other no more slices were gone over than were to be gone over at the one, and eight times as many as
-- bytes came to what is kept.
abbrev pub IsNoLonger : {N C J K H : Type 0} → Promises N C J K H → LoopState N C J K H → LoopState N C J K H → Type 0
IsNoLonger p s s' =
    slices_done s'.calls + p.keeping.to_go s'.keeper + 8 * unwrap_or (p.keeping.size s.keeper) 0
    ≤ slices_done s.calls + p.keeping.to_go s.keeper + 8 * unwrap_or (p.keeping.size s'.keeper) 0
