-- What is told of a run, step by step.
use Rattle.std.specs.Prelude.{◌≡◌, ℕ, ◌<◌, List, length, Option, Some, None, slice_get}
use Rattle.insn.specs.declared.instruction.Insn.{Insn}
use Rattle.insn.specs.declared.layout.Layout.{Layout}
use Rattle.insn.specs.declared.state.Value.{Value}
use Rattle.insn.specs.FirstLook.{written_by}
use Rattle.insn.specs.Program.{begins_at}
use Rattle.insn.specs.Effects.{Effect, Falls, Jumps, Exits}
use Rattle.insn.specs.Outcomes.{effect}
use Rattle.insn.specs.Step.{Reaches, steps}
use Rattle.insn.specs.Values.{◌>>=◌, Config, start, value_of}
use Rattle.machine.specs.declared.run.Outcome.{Outcome}
use Rattle.machine.specs.declared.run.Outcome.TheVariants.{Exit, Stuck}
use Rattle.machine.specs.declared.trace.Trace.{Trace}
use Rattle.machine.specs.declared.trace.Traced.{Traced}
use Rattle.machine.specs.Outcome.{IsOutcome}

-- what the register holds that an instruction writes
abbrev pub written_value : Insn → List (Option Value) → Option Value
written_value i registers = written_by i >>= value_of registers

-- what an instruction's effect writes into the register that it names
abbrev pub effect_value : Insn → Effect → Option Value
effect_value i (Falls s) = written_value i s.registers
effect_value i (Jumps distance s) = None
effect_value i (Exits r0) = None

-- what is told of a step from here: its slot, its instruction, and what that writes
abbrev pub traced_at : Layout → List Insn → Config → Option Traced
traced_at layout program c = do
  i ← begins_at program c.slot
  e ← effect layout i c.state
  Some (record { slot = c.slot; insn = i; written = effect_value i e })

-- so many steps are all up to the end of a run
abbrev pub ComeToEnd : Layout → List Insn → List ℕ → Outcome → ℕ → Type 0
ComeToEnd layout program bytes (Exit r0 count) told = told ≡ count
ComeToEnd layout program bytes (Stuck slot) told = (c : Config) × Reaches layout program bytes told c × (c.slot ≡ slot)

-- each of these is what is told of the run's step at its place
abbrev pub AreSteps : Layout → List Insn → List ℕ → List Traced → Type 0
AreSteps layout program bytes told =
    (k : ℕ) → k < length told → slice_get told k ≡ (steps layout program k (start bytes) >>= traced_at layout program)

-- a run of a program on a record ends so, leaves the record so, and these are all its steps
pub record IsTrace (layout : Layout) (program : List Insn) (bytes : List ℕ) (trace : Trace) (after : List ℕ) : Type 0 where
  pub ends : IsOutcome layout program bytes trace.outcome after
  pub steps_told : AreSteps layout program bytes trace.steps.items
  pub to_end : ComeToEnd layout program bytes trace.outcome (length trace.steps.items)
