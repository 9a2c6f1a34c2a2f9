-- Why a text says no program: its first fault. Lines count from 1.
use Rattle.std.specs.Prelude.{◌≡◌, ⊤, ℕ, ◌+◌, ◌<◌, ◌≤◌, ◌||◌, true, ℤ, List, [], ◌∷◌, ◌++◌, length}
use Rattle.std.specs.Str.{bytes_eq}
use Rattle.std.specs.List.{list_any}
use Rattle.insn.specs.declared.register.RegNo.{RegNo}
use Rattle.insn.specs.declared.instruction.Insn.{Insn}
use Rattle.insn.specs.Instruction.{slots_of, Fits}
use Rattle.insn.specs.Program.{slot_count, SLOT_LIMIT}
use Rattle.assembly.specs.Text.{Word, is_number_word, is_distance, is_name, name_of, Operand, Register, Number, Target, operands_of, register_word, Line, Blank, Label, Statement, lines_in, SaysInsn, names_in, AllDiffer}
use Rattle.assembler.specs.declared.fault.AsmFault.{AsmFault}
use Rattle.assembler.specs.declared.fault.AsmFault.TheVariants.{UnknownWord, BadOperand, OutOfRange, UnknownLabel, DoubleLabel, TooLong, Memory, NoInstruction}

-- ---- the form of a line

-- a word has the form of an operand, whatever its value
abbrev pub HasForm : Operand → Word → Type 0
HasForm (Register r) word = (other : RegNo) × (word ≡ register_word other)
HasForm (Number n) word = is_number_word word ≡ true
HasForm (Target d) word = (is_distance word || is_name word) ≡ true

abbrev pub HaveForms : List Operand → List Word → Type 0
HaveForms [] [] = ⊤
HaveForms (operand ∷ operands) (word ∷ words) = HasForm operand word × HaveForms operands words
HaveForms operands words = ⊥

-- the first word is an instruction's name
abbrev pub HasName : Insn → List Word → Type 0
HasName i [] = ⊥
HasName i (word ∷ words) = word ≡ name_of i

-- and the others have the form of its operands
abbrev pub HasFormOf : Insn → List Word → Type 0
HasFormOf i [] = ⊥
HasFormOf i (word ∷ words) = (word ≡ name_of i) × HaveForms (operands_of i) words

-- ---- instructions but for where labels lie

-- a name may stand for any distance
abbrev pub Anywhere : Word → ℤ → Type 0
Anywhere name distance = ⊤

-- a name may stand for any distance, where it is one of these
abbrev pub OneOf : List Word → Word → ℤ → Type 0
OneOf names name distance = list_any (bytes_eq name) names ≡ true

-- words say an instruction that fits its fields
abbrev pub SaysFitting : (Word → ℤ → Type 0) → Insn → List Word → Type 0
SaysFitting Leads i words = SaysInsn Leads i words × Fits i

-- lines say such instructions
abbrev pub Drafts : (Word → ℤ → Type 0) → List Line → List Insn → Type 0
Drafts Leads [] [] = ⊤
Drafts Leads (Blank ∷ lines) program = Drafts Leads lines program
Drafts Leads (Label name ∷ lines) program = Drafts Leads lines program
Drafts Leads (Statement words ∷ lines) (i ∷ program) = SaysFitting Leads i words × Drafts Leads lines program
Drafts Leads lines program = ⊥

-- lines of which each is right: they say instructions of at most 4,096 slots, wherever labels lie, and no label stands twice
pub record AreRight (lines : List Line) (program : List Insn) : Type 0 where
  pub drafted : Drafts Anywhere lines program
  pub short : slot_count program ≤ SLOT_LIMIT
  pub differ : AllDiffer (names_in lines)

-- ---- what is wrong with a line, behind others that say some instructions

-- the words of an instruction's line are such
abbrev pub HasWords : (List Word → Type 0) → Line → Type 0
HasWords AreSuch (Statement words) = AreSuch words
HasWords AreSuch line = ⊥

abbrev pub HasUnknownWord : List Line → List Insn → Line → Type 0
HasUnknownWord before program here = HasWords (λ words. (i : Insn) → HasName i words → ⊥) here

abbrev pub HasBadOperand : List Line → List Insn → Line → Type 0
HasBadOperand before program here = HasWords (λ words. ((i : Insn) × HasName i words) × ((i : Insn) → HasFormOf i words → ⊥)) here

-- the form of the line is right, and no instruction that it says fits
abbrev pub IsOutOfRange : List Line → List Insn → Line → Type 0
IsOutOfRange before program here = HasWords (λ words. ((i : Insn) × HasFormOf i words) × ((i : Insn) → SaysFitting Anywhere i words → ⊥)) here

abbrev pub IsDoubleLabel : List Line → List Insn → Line → Type 0
IsDoubleLabel before program (Label name) = list_any (bytes_eq name) (names_in before) ≡ true
IsDoubleLabel before program here = ⊥

-- its instruction passes the last slot
abbrev pub IsTooLong : List Line → List Insn → Line → Type 0
IsTooLong before program here = HasWords (λ words. (i : Insn) × SaysFitting Anywhere i words × (SLOT_LIMIT < slot_count program + slots_of i)) here

-- it says no instruction with these labels alone
abbrev pub LacksLabel : List Word → Line → Type 0
LacksLabel names here = HasWords (λ words. (i : Insn) → SaysFitting (OneOf names) i words → ⊥) here

-- ---- the first fault

-- a line is wrong, and those before it are right
pub record FirstWrong (IsWrong : List Line → List Insn → Line → Type 0) (lines : List Line) (number : ℕ) : Type 0 where
  pub before : List Line
  pub here : Line
  pub after : List Line
  pub program : List Insn
  pub parts : lines ≡ before ++ here ∷ after
  pub counted : number ≡ length before + 1
  pub right : AreRight before program
  pub wrong : IsWrong before program here

-- all lines are right but for a label that stands nowhere, and those before it name labels that stand somewhere
pub record FirstLost (lines : List Line) (number : ℕ) : Type 0 where
  pub before : List Line
  pub here : Line
  pub after : List Line
  pub program : List Insn
  pub known : List Insn
  pub parts : lines ≡ before ++ here ∷ after
  pub counted : number ≡ length before + 1
  pub right : AreRight lines program
  pub found : Drafts (OneOf (names_in lines)) before known
  pub lost : LacksLabel (names_in lines) here

-- the first fault of lines: that of the first wrong line, then the first label that stands nowhere, then that there is
-- no instruction. Nothing is said of refused memory. No label is too far: 4,096 slots are within each jump's reach.
abbrev pub FaultIn : List Line → AsmFault → Type 0
FaultIn lines (UnknownWord number) = FirstWrong HasUnknownWord lines number
FaultIn lines (BadOperand number) = FirstWrong HasBadOperand lines number
FaultIn lines (OutOfRange number) = FirstWrong IsOutOfRange lines number
FaultIn lines (UnknownLabel number) = FirstLost lines number
FaultIn lines (DoubleLabel number) = FirstWrong IsDoubleLabel lines number
FaultIn lines (TooLong number) = FirstWrong IsTooLong lines number
FaultIn lines Memory = ⊤
FaultIn lines NoInstruction = AreRight lines []

abbrev pub FirstTextFault : List ℕ → AsmFault → Type 0
FirstTextFault text fault = FaultIn (lines_in text) fault
