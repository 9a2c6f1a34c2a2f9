-- What one instruction does to the registers, the stack and the record.
use Rattle.std.specs.Prelude.{◌≡◌, ℕ, List, Option, Some, None, Bool, true, false}
use Rattle.insn.specs.Values.{State}
use Rattle.insn.specs.Effects.{Effect, Falls, Jumps, Exits}
use Rattle.machine.specs.declared.frame.Frame.{Frame}
use Rattle.machine.specs.declared.frame.Flow.{Flow}
use Rattle.machine.specs.declared.frame.Flow.TheVariants.{Next, Jump, Exit, Stuck}

-- the registers and the stack beside a record
abbrev pub state_of : Frame → List ℕ → State
state_of frame bytes = record { registers = frame.registers; bytes = bytes; stack = frame.stack }

-- an instruction's effect is this flow, from one state to another; one that jumps, exits or is stuck changes nothing
abbrev pub IsFlowOf : Option Effect → Flow → State → State → Type 0
IsFlowOf effect Next old new = effect ≡ Some (Falls new)
IsFlowOf effect (Jump distance) old new = (effect ≡ Some (Jumps distance new)) × (new ≡ old)
IsFlowOf effect (Exit r0) old new = (effect ≡ Some (Exits r0)) × (new ≡ old)
IsFlowOf effect Stuck old new = (effect ≡ None) × (new ≡ old)

-- this flow, and what became of a state, are what was to be done
abbrev pub Does : (State → Option Effect) → Flow → State → State → Type 0
Does what flow old new = IsFlowOf (what old) flow old new

-- the same, whatever the record is, which stays
abbrev pub DoesInFrame : (State → Option Effect) → Flow → Frame → Frame → Type 0
DoesInFrame what flow old new = (bytes : List ℕ) → Does what flow (state_of old bytes) (state_of new bytes)

-- what was to be written stands there; or it may not stand there, and nothing changed
abbrev pub WritesState : (State → Option State) → Bool → State → State → Type 0
WritesState what true old new = what old ≡ Some new
WritesState what false old new = (what old ≡ None) × (new ≡ old)
