-- Shapes: what is left of a state without its amounts, and programs whose paths agree on them.
use Rattle.std.specs.Prelude.{◌≡◌, ℕ, zero, suc, ◌+◌, ℤ, List, [], ◌∷◌, map, replicate, Contains, Option, Some, None}
use Rattle.verifier.specs.Names.{option_map, filter_map, RegNo, Add, Sub, W64, Reg, Insn, Layout, Pointer, Value, Number, Address, Cell, Unset, Byte, Part, slots_of, begins_at, State, Config}
use Rattle.verifier.specs.Names.{value_of, record_size, start, Effect, Falls, Jumps, Action, Operate, action_of, effect, Reaches, lead, exit_at}
use Rattle.insn.specs.declared.action.Action.TheVariants.{Branch}

-- A shape is a state in which each number and each byte is 0: it has lost its amount.
abbrev pub blank_value : Value → Value
blank_value (Number n) = Number 0
blank_value (Address p) = Address p

abbrev pub blank_cell : Cell → Cell
blank_cell Unset = Unset
blank_cell (Byte b) = Byte 0
blank_cell (Part p k) = Part p k

abbrev pub shape_of : State → State
shape_of s = record { registers = map (option_map blank_value) s.registers; bytes = map (λ _. 0) s.bytes; stack = map blank_cell s.stack }

abbrev pub shape_config : Config → Config
shape_config c = record { slot = c.slot; state = shape_of c.state }

-- how far a jump leads that may be taken or not
abbrev pub branch_in : Action → Option ℤ
branch_in (Branch w cond dst operand offset) = Some offset
branch_in action = None

abbrev pub branch_of : Insn → Option ℤ
branch_of i = branch_in (action_of i)

-- both ways of a conditional jump that is not stuck, and else the one effect
abbrev pub both_ways : Option ℤ → State → Option Effect → List Effect
both_ways branch s None = []
both_ways None s (Some e) = e ∷ []
both_ways (Some d) s (Some e) = Falls s ∷ Jumps d s ∷ []

-- the effects of an instruction on a shape
abbrev pub effects : Layout → Insn → State → List Effect
effects layout i s = both_ways (branch_of i) s (effect layout i s)

-- where the ways from a shape lead
abbrev pub ways_from : Layout → List Insn → Config → Option Insn → List Config
ways_from layout program c None = []
ways_from layout program c (Some i) = map shape_config (filter_map (lead program (c.slot + slots_of i)) (effects layout i c.state))

abbrev pub ways : Layout → List Insn → Config → List Config
ways layout program c = ways_from layout program c (begins_at program c.slot)

-- n ways lead from the entry to here
abbrev pub OnWay : Layout → List Insn → ℕ → Config → Type 0
OnWay layout program zero c = c ≡ shape_config (start (replicate (record_size layout) 0))
OnWay layout program (suc n) c = (from : Config) × OnWay layout program n from × Contains (ways layout program from) c

abbrev pub IsPointer : State → RegNo → Type 0
IsPointer s r = (p : Pointer) × (value_of s.registers r ≡ Some (Address p))

-- what is to be done neither adds a register to a pointer nor takes one from it
abbrev pub MovesNone : Action → State → Type 0
MovesNone (Operate W64 Add dst (Reg src)) s = ¬ IsPointer s dst × ¬ IsPointer s src
MovesNone (Operate W64 Sub dst (Reg src)) s = ¬ IsPointer s dst × ¬ IsPointer s src
MovesNone action s = Unit {0}

abbrev pub NoMovedPointer : Insn → State → Type 0
NoMovedPointer i s = MovesNone (action_of i) s

-- on no way a register is added to a pointer, or taken from one
abbrev pub MovesNoPointer : Layout → List Insn → Type 0
MovesNoPointer layout program = (n : ℕ) (c : Config) (i : Insn) → OnWay layout program n c → begins_at program c.slot ≡ Some i → NoMovedPointer i c.state

-- no jump is conditional
abbrev pub HasNoBranch : List Insn → Type 0
HasNoBranch program = (slot : ℕ) (i : Insn) → begins_at program slot ≡ Some i → branch_of i ≡ None

-- n steps lead from the entry to where this is the shape
pub record IsRunShape (layout : Layout) (program : List Insn) (bytes : List ℕ) (n : ℕ) (shape : Config) : Type 0 where
  pub at : Config
  pub reached : Reaches layout program bytes n at
  pub same : shape ≡ shape_config at

-- all ways to a slot bring one shape, and none moves a pointer by a register
pub record Uniform (layout : Layout) (program : List Insn) : Type 0 where
  pub one_shape : (n m : ℕ) (c d : Config) → OnWay layout program n c → OnWay layout program m d → c.slot ≡ d.slot → c ≡ d
  pub no_moves : MovesNoPointer layout program

-- a shape from which no way leads on, and that is no exit
pub record IsStuckShape (layout : Layout) (program : List Insn) (c : Config) : Type 0 where
  pub no_way : ways layout program c ≡ []
  pub no_exit : exit_at layout program c ≡ None
