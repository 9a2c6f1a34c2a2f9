-- The assembly language: which texts say a program. A text is its bytes in UTF-8.
use Rattle.std.specs.Prelude.{◌≡◌, ◌⊎◌, ⊤, ℕ, ◌+◌, ◌==◌, ◌&&◌, ◌||◌, not, nat_le, Bool, true, false, if◌then◌else◌, ℤ, pos, negsuc, ◌+ℤ◌, List, [], ◌∷◌, ◌++◌, map, length, codes, Option, Some, None}
use Rattle.std.specs.Str.{bytes_eq}
use Rattle.std.specs.Fmt.{decimal, signed_decimal}
use Rattle.std.specs.Option.{option_map}
use Rattle.std.specs.List.{slice_split, list_all, list_any, flat_map, filter, AllByRecursion}
use Rattle.insn.specs.declared.register.RegNo.{RegNo}
use Rattle.insn.specs.declared.operation.Width.{Width}
use Rattle.insn.specs.declared.operation.Width.TheVariants.{W32, W64}
use Rattle.insn.specs.declared.operation.BinOp.{BinOp}
use Rattle.insn.specs.declared.operation.BinOp.TheVariants.{Add, Sub, Mul, Div, Sdiv, Or, And, Lsh, Rsh, Mod, Smod, Xor, Mov, Arsh}
use Rattle.insn.specs.declared.operation.Cond.{Cond}
use Rattle.insn.specs.declared.operation.Cond.TheVariants.{Eq, Gt, Ge, Set, Ne, Sgt, Sge, Lt, Le, Slt, Sle}
use Rattle.insn.specs.declared.operation.Extension.{Extension}
use Rattle.insn.specs.declared.operation.Extension.TheVariants.{From8To64, From16To64, From32To64, From8To32, From16To32}
use Rattle.insn.specs.declared.operation.SwapKind.{SwapKind}
use Rattle.insn.specs.declared.operation.SwapKind.TheVariants.{ToLittle, ToBig, Swap}
use Rattle.insn.specs.declared.operation.SwapBits.{SwapBits}
use Rattle.insn.specs.declared.operation.SwapBits.TheVariants.{B16, B32, B64}
use Rattle.insn.specs.declared.operation.Size.{Size}
use Rattle.insn.specs.declared.operation.Size.TheVariants.{One, Two, Four, Eight}
use Rattle.assembly.specs.declared.mnemonic.Mnemonic.{Mnemonic}
use Rattle.assembly.specs.declared.mnemonic.Mnemonic.TheVariants as mnemonic
use Rattle.insn.specs.declared.instruction.Operand.{Operand as Source}
use Rattle.insn.specs.declared.instruction.Operand.TheVariants.{Reg, Imm}
use Rattle.insn.specs.declared.instruction.Insn.{Insn}
use Rattle.insn.specs.declared.instruction.Insn.TheVariants.{Alu64Imm, Alu64Reg, Alu32Imm, Alu32Reg, Divide, Remainder, Negate, MoveSigned, SwapBytes, LoadWide, Load, LoadSigned, StoreReg, StoreImm, Jump, JumpLong, Jump64IfImm, Jump64IfReg, Jump32IfImm, Jump32IfReg, Exit}
use Rattle.insn.specs.Instruction.{reg_number, operation_of, division_of, remainder_of, read_size, slots_of, Fits}
use Rattle.insn.specs.Program.{IsProgram}

-- ---- words

abbrev pub Word : Type 0
Word = List ℕ

abbrev pub is_digit : ℕ → Bool
is_digit c = nat_le 48 c && nat_le c 57

-- digits, of which the first is not 0
abbrev pub is_positive : Word → Bool
is_positive [] = false
is_positive (c ∷ more) = nat_le 49 c && list_all is_digit (c ∷ more)

-- digits without a leading 0, and 0 itself
abbrev pub is_natural : Word → Bool
is_natural word = is_positive word || bytes_eq word (codes "0")

-- a natural number, or a minus and a positive one
abbrev pub is_number_word : Word → Bool
is_number_word [] = false
is_number_word (c ∷ word) = if c == 45 then is_positive word else is_natural (c ∷ word)

-- a plus and a natural number, or a minus and a positive one
abbrev pub is_distance : Word → Bool
is_distance [] = false
is_distance (c ∷ word) = if c == 43 then is_natural word else c == 45 && is_positive word

-- a small letter, a digit or an underscore
abbrev pub is_name_byte : ℕ → Bool
is_name_byte c = (nat_le 97 c && nat_le c 122) || is_digit c || c == 95

-- the most bytes of a name
abbrev pub NAME_LIMIT : ℕ
NAME_LIMIT = 32

-- letters, digits and underscores, of which the first is no digit
abbrev pub is_name : Word → Bool
is_name [] = false
is_name (c ∷ more) = not (is_digit c) && list_all is_name_byte (c ∷ more) && nat_le (length (c ∷ more)) NAME_LIMIT

-- ---- the words of an instruction

abbrev pub width_name : Width → Word
width_name W32 = codes "32"
width_name W64 = codes "64"

abbrev pub operation_name : BinOp → Word
operation_name Add = codes "add"
operation_name Sub = codes "sub"
operation_name Mul = codes "mul"
operation_name Div = codes "div"
operation_name Sdiv = codes "sdiv"
operation_name Or = codes "or"
operation_name And = codes "and"
operation_name Lsh = codes "lsh"
operation_name Rsh = codes "rsh"
operation_name Mod = codes "mod"
operation_name Smod = codes "smod"
operation_name Xor = codes "xor"
operation_name Mov = codes "mov"
operation_name Arsh = codes "arsh"

abbrev pub condition_name : Cond → Word
condition_name Eq = codes "jeq"
condition_name Gt = codes "jgt"
condition_name Ge = codes "jge"
condition_name Set = codes "jset"
condition_name Ne = codes "jne"
condition_name Sgt = codes "jsgt"
condition_name Sge = codes "jsge"
condition_name Lt = codes "jlt"
condition_name Le = codes "jle"
condition_name Slt = codes "jslt"
condition_name Sle = codes "jsle"

abbrev pub extension_name : Extension → Word
extension_name From8To64 = codes "sx8_64"
extension_name From16To64 = codes "sx16_64"
extension_name From32To64 = codes "sx32_64"
extension_name From8To32 = codes "sx8_32"
extension_name From16To32 = codes "sx16_32"

abbrev pub swap_name : SwapKind → Word
swap_name ToLittle = codes "le"
swap_name ToBig = codes "be"
swap_name Swap = codes "swap"

abbrev pub bits_name : SwapBits → Word
bits_name B16 = codes "16"
bits_name B32 = codes "32"
bits_name B64 = codes "64"

-- the letters of a byte, a half word, a word and a double word
abbrev pub size_name : Size → Word
size_name One = codes "b"
size_name Two = codes "h"
size_name Four = codes "w"
size_name Eight = codes "dw"

abbrev pub mnemonic_name : Mnemonic → Word
mnemonic_name (mnemonic.Alu width op) = operation_name (operation_of op) ++ width_name width
mnemonic_name (mnemonic.Divide width signedness) = operation_name (division_of signedness) ++ width_name width
mnemonic_name (mnemonic.Remainder width signedness) = operation_name (remainder_of signedness) ++ width_name width
mnemonic_name (mnemonic.Negate width) = codes "neg" ++ width_name width
mnemonic_name (mnemonic.MoveSigned extension) = extension_name extension
mnemonic_name (mnemonic.SwapBytes kind bits) = swap_name kind ++ bits_name bits
mnemonic_name mnemonic.LoadWide = codes "lddw"
mnemonic_name (mnemonic.Load size) = codes "ldx" ++ size_name size
mnemonic_name (mnemonic.LoadSigned size) = codes "lds" ++ size_name (read_size size)
mnemonic_name (mnemonic.StoreReg size) = codes "stx" ++ size_name size
mnemonic_name (mnemonic.StoreImm size) = codes "st" ++ size_name size
mnemonic_name mnemonic.Jump = codes "ja"
mnemonic_name mnemonic.JumpLong = codes "jal"
mnemonic_name (mnemonic.JumpIf width cond) = condition_name cond ++ width_name width
mnemonic_name mnemonic.Exit = codes "exit"

-- what stands behind the first word: registers, numbers, and how far a jump leads
pub data Operand : Type 0 where
  Register : RegNo → Operand
  Number : ℤ → Operand
  Target : ℤ → Operand

abbrev pub source_operand : Source → Operand
source_operand (Reg src) = Register src
source_operand (Imm imm) = Number imm

-- what an instruction's line says: what its first word says of it, and its operands
abbrev pub words_of : Insn → Mnemonic × List Operand
words_of (Alu64Imm op dst imm) = (mnemonic.Alu W64 op, Register dst ∷ Number imm ∷ [])
words_of (Alu64Reg op dst src) = (mnemonic.Alu W64 op, Register dst ∷ Register src ∷ [])
words_of (Alu32Imm op dst imm) = (mnemonic.Alu W32 op, Register dst ∷ Number imm ∷ [])
words_of (Alu32Reg op dst src) = (mnemonic.Alu W32 op, Register dst ∷ Register src ∷ [])
words_of (Divide width signedness dst operand) = (mnemonic.Divide width signedness, Register dst ∷ source_operand operand ∷ [])
words_of (Remainder width signedness dst operand) = (mnemonic.Remainder width signedness, Register dst ∷ source_operand operand ∷ [])
words_of (Negate width dst) = (mnemonic.Negate width, Register dst ∷ [])
words_of (MoveSigned extension dst src) = (mnemonic.MoveSigned extension, Register dst ∷ Register src ∷ [])
words_of (SwapBytes kind bits dst) = (mnemonic.SwapBytes kind bits, Register dst ∷ [])
words_of (LoadWide dst value) = (mnemonic.LoadWide, Register dst ∷ Number (pos value) ∷ [])
words_of (Load size dst src offset) = (mnemonic.Load size, Register dst ∷ Register src ∷ Number offset ∷ [])
words_of (LoadSigned size dst src offset) = (mnemonic.LoadSigned size, Register dst ∷ Register src ∷ Number offset ∷ [])
words_of (StoreReg size dst src offset) = (mnemonic.StoreReg size, Register dst ∷ Number offset ∷ Register src ∷ [])
words_of (StoreImm size dst offset imm) = (mnemonic.StoreImm size, Register dst ∷ Number offset ∷ Number imm ∷ [])
words_of (Jump offset) = (mnemonic.Jump, Target offset ∷ [])
words_of (JumpLong offset) = (mnemonic.JumpLong, Target offset ∷ [])
words_of (Jump64IfImm cond dst offset imm) = (mnemonic.JumpIf W64 cond, Register dst ∷ Number imm ∷ Target offset ∷ [])
words_of (Jump64IfReg cond dst src offset) = (mnemonic.JumpIf W64 cond, Register dst ∷ Register src ∷ Target offset ∷ [])
words_of (Jump32IfImm cond dst offset imm) = (mnemonic.JumpIf W32 cond, Register dst ∷ Number imm ∷ Target offset ∷ [])
words_of (Jump32IfReg cond dst src offset) = (mnemonic.JumpIf W32 cond, Register dst ∷ Register src ∷ Target offset ∷ [])
words_of Exit = (mnemonic.Exit, [])

abbrev pub mnemonic_of : Insn → Mnemonic
mnemonic_of i = (words_of i).0

abbrev pub operands_of : Insn → List Operand
operands_of i = (words_of i).1

-- the first word of an instruction's line
abbrev pub name_of : Insn → Word
name_of i = mnemonic_name (mnemonic_of i)

abbrev pub register_word : RegNo → Word
register_word r = codes "r" ++ decimal (reg_number r)

-- a distance, with its sign
abbrev pub distance_word : ℤ → Word
distance_word (pos n) = codes "+" ++ decimal n
distance_word (negsuc n) = signed_decimal (negsuc n)

-- ---- lines

-- what stands on a line: nothing, a label, or the words of an instruction
pub data Line : Type 0 where
  Blank : Line
  Label : Word → Line
  Statement : List Word → Line

abbrev pub is_empty : {A : Type 0} → List A → Bool
is_empty [] = true
is_empty (x ∷ xs) = false

-- the text before a comment
abbrev pub before_comment : List ℕ → List ℕ
before_comment [] = []
before_comment (c ∷ text) = if c == 59 then [] else c ∷ before_comment text

-- words are parted by spaces and tabs
abbrev pub words_in : List ℕ → List Word
words_in line = filter (λ word. not (is_empty word)) (slice_split (λ c. c == 32 || c == 9) (before_comment line))

-- the name before a word's last byte, where that is a colon
abbrev pub labelled : Word → Option Word
labelled [] = None
labelled (c ∷ []) = if c == 58 then Some [] else None
labelled (c ∷ more) = option_map (λ name. c ∷ name) (labelled more)

-- a label's line is one word: a name and a colon
abbrev pub one_word_line : Word → Option Word → Line
one_word_line word None = Statement (word ∷ [])
one_word_line word (Some name) = if is_name name then Label name else Statement (word ∷ [])

abbrev pub line_of : List Word → Line
line_of [] = Blank
line_of (word ∷ []) = one_word_line word (labelled word)
line_of words = Statement words

-- the lines of a text, each up to a line feed
abbrev pub lines_in : List ℕ → List Line
lines_in text = map (λ line. line_of (words_in line)) (slice_split (λ c. c == 10) text)

-- ---- what lines say

-- a word says an operand; what a name says of a distance is given
abbrev pub SaysOperand : (Word → ℤ → Type 0) → Operand → Word → Type 0
SaysOperand Leads (Register r) word = word ≡ register_word r
SaysOperand Leads (Number n) word = word ≡ signed_decimal n
SaysOperand Leads (Target d) word = (word ≡ distance_word d) ⊎ ((is_name word ≡ true) × Leads word d)

abbrev pub SaysOperands : (Word → ℤ → Type 0) → List Operand → List Word → Type 0
SaysOperands Leads [] [] = ⊤
SaysOperands Leads (operand ∷ operands) (word ∷ words) = SaysOperand Leads operand word × SaysOperands Leads operands words
SaysOperands Leads operands words = ⊥

-- words say an instruction: its name, then its operands
abbrev pub SaysInsn : (Word → ℤ → Type 0) → Insn → List Word → Type 0
SaysInsn Leads i [] = ⊥
SaysInsn Leads i (word ∷ words) = (word ≡ name_of i) × SaysOperands Leads (operands_of i) words

-- the slot of each label, in order of the lines: that of the instruction behind it
abbrev pub labels_in : ℕ → List Line → List Insn → List (Word × ℕ)
labels_in slot (Blank ∷ lines) program = labels_in slot lines program
labels_in slot (Label name ∷ lines) program = (name, slot) ∷ labels_in slot lines program
labels_in slot (Statement words ∷ lines) (i ∷ program) = labels_in (slot + slots_of i) lines program
labels_in slot lines program = []

-- the slot of a name
abbrev pub slot_of : List (Word × ℕ) → Word → Option ℕ
slot_of [] name = None
slot_of (label ∷ labels) name = if bytes_eq label.0 name then Some label.1 else slot_of labels name

-- a label leads so far from the slot behind an instruction
abbrev pub LeadsTo : List (Word × ℕ) → ℕ → Word → ℤ → Type 0
LeadsTo labels behind name distance = (to : ℕ) × (slot_of labels name ≡ Some to) × (pos to ≡ pos behind +ℤ distance)

-- lines say a program from a slot on, where labels stand at these slots
abbrev pub Says : List (Word × ℕ) → ℕ → List Line → List Insn → Type 0
Says labels slot [] [] = ⊤
Says labels slot (Blank ∷ lines) program = Says labels slot lines program
Says labels slot (Label name ∷ lines) program = Says labels slot lines program
Says labels slot (Statement words ∷ lines) (i ∷ program) =
    SaysInsn (LeadsTo labels (slot + slots_of i)) i words × Says labels (slot + slots_of i) lines program
Says labels slot lines program = ⊥

-- the names that label lines give
abbrev pub names_in : List Line → List Word
names_in [] = []
names_in (Label name ∷ lines) = name ∷ names_in lines
names_in (line ∷ lines) = names_in lines

-- no word stands twice
abbrev pub AllDiffer : List Word → Type 0
AllDiffer [] = ⊤
AllDiffer (word ∷ words) = (list_any (bytes_eq word) words ≡ false) × AllDiffer words

-- a text says a program: its lines do, and no label stands twice
pub record Text (text : List ℕ) (program : List Insn) : Type 0 where
  pub in_bounds : IsProgram program
  pub fit : AllByRecursion Fits program
  pub differ : AllDiffer (names_in (lines_in text))
  pub said : Says (labels_in 0 (lines_in text) program) 0 (lines_in text) program

-- ---- the canonical text

abbrev pub written_operand : Operand → Word
written_operand (Register r) = register_word r
written_operand (Number n) = signed_decimal n
written_operand (Target d) = distance_word d

-- an instruction's line: its words with one space between two, and a line feed
abbrev pub canonical_line : Insn → List ℕ
canonical_line i = name_of i ++ flat_map (λ operand. codes " " ++ written_operand operand) (operands_of i) ++ codes "\n"

-- a program's one canonical text: a line for each instruction, and targets as distances
abbrev pub canonical_text : List Insn → List ℕ
canonical_text program = flat_map canonical_line program
