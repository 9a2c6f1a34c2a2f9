-- What instructions and programs do by insn is what the page says.
use Rattle.std.specs.Prelude.{◌≡◌, ℕ, List, Option, Some, None}
use Rattle.std.specs.List.{flat_map, AllByRecursion}
use Rattle.insn.specs.declared.instruction.Insn.{Insn}
use Rattle.insn.specs.declared.layout.Layout.{Layout}
use Rattle.insn.specs.Instruction.{Fits}
use Rattle.insn.specs.Step as code
use Rattle.insn.specs.Values.{Config, State}
use Rattle.encoding.specs.Spelling.{slots, Spells}
use Rattle.hook_page.specs.Hooks as page
use Rattle.hook_page.specs.Hooks.{Next, Goes, Exits}

-- a step of the page, beside the code's step and exit: it goes on where the code does, exits where it does and with the same
-- number, and is stuck where it is
abbrev pub AreAlike : Option Next → Option Config → Option ℕ → Type 0
AreAlike None step exit = (step ≡ None) × (exit ≡ None)
AreAlike (Some (Goes later)) step exit = (step ≡ Some later) × (exit ≡ None)
AreAlike (Some (Exits r0)) step exit = (step ≡ None) × (exit ≡ Some r0)

abbrev pub StepsAreAlike : Type 0
StepsAreAlike =
    (layout : Layout) (program : List Insn) (c : Config) → AllByRecursion Fits program →
    AreAlike (page.step layout (flat_map slots program) c) (code.step layout program c) (code.exit_at layout program c)

-- the bytes of what is safe by the code are safe by the page
abbrev pub SafeIsSafe : Type 0
SafeIsSafe = (layout : Layout) (program : List Insn) (bytes : List ℕ) → Spells bytes program → code.Safe layout program → page.Safe layout bytes

-- a run exits by the page as by the code: after as many steps, with the same number, and the record is left the same
abbrev pub ExitsAreAlike : Type 0
ExitsAreAlike =
    (layout : Layout) (program : List Insn) (code_bytes bytes after : List ℕ) (r0 count : ℕ) → Spells code_bytes program → code.IsExit layout program bytes r0 count after →
    (s : State) × (page.exit_within layout (page.slots_in code_bytes) count (page.start bytes) ≡ Some (r0, s)) × (s.bytes ≡ after)
