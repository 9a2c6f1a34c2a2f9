-- How a run ends.
use Rattle.std.specs.Prelude.{ℕ, List}
use Rattle.insn.specs.declared.instruction.Insn.{Insn}
use Rattle.insn.specs.declared.layout.Layout.{Layout}
use Rattle.insn.specs.Step.{IsExit, IsStuck}
use Rattle.machine.specs.declared.run.Outcome.{Outcome}
use Rattle.machine.specs.declared.run.Outcome.TheVariants.{Exit, Stuck}

-- the run of a program on a record ends so, and leaves the record so
abbrev pub IsOutcome : Layout → List Insn → List ℕ → Outcome → List ℕ → Type 0
IsOutcome layout program bytes (Exit r0 steps) after = IsExit layout program bytes r0 steps after
IsOutcome layout program bytes (Stuck slot) after = IsStuck layout program bytes slot after
