-- Which kinds of operands stand behind a mnemonic, and which words have the form of each.
use Rattle.std.specs.Prelude.{◌≡◌, ◌⊎◌, ⊤, true, ◌||◌, List, [], ◌∷◌}
use Rattle.insn.specs.declared.register.RegNo.{RegNo}
use Rattle.assembly.specs.declared.mnemonic.Mnemonic.{Mnemonic}
use Rattle.assembly.specs.declared.mnemonic.Mnemonic.TheVariants.{Alu, Divide, Remainder, Negate, MoveSigned, SwapBytes, LoadWide, Load, LoadSigned, StoreReg, StoreImm, Jump, JumpLong, JumpIf, Exit}
use Rattle.assembly.specs.Text.{register_word, is_number_word, is_distance, is_name, Word}
use Rattle.assembler.specs.declared.form.OperandKind.{OperandKind}
use Rattle.assembler.specs.declared.form.OperandKind.TheVariants.{Register, Source, Number, Target}

-- the kinds of the operands behind a mnemonic
abbrev pub kinds_of : Mnemonic → List OperandKind
kinds_of (Alu width op) = Register ∷ Source ∷ []
kinds_of (Divide width signedness) = Register ∷ Source ∷ []
kinds_of (Remainder width signedness) = Register ∷ Source ∷ []
kinds_of (Negate width) = Register ∷ []
kinds_of (MoveSigned extension) = Register ∷ Register ∷ []
kinds_of (SwapBytes kind bits) = Register ∷ []
kinds_of LoadWide = Register ∷ Number ∷ []
kinds_of (Load size) = Register ∷ Register ∷ Number ∷ []
kinds_of (LoadSigned size) = Register ∷ Register ∷ Number ∷ []
kinds_of (StoreReg size) = Register ∷ Number ∷ Register ∷ []
kinds_of (StoreImm size) = Register ∷ Number ∷ Number ∷ []
kinds_of Jump = Target ∷ []
kinds_of JumpLong = Target ∷ []
kinds_of (JumpIf width cond) = Register ∷ Source ∷ Target ∷ []
kinds_of Exit = []

-- a word has the form of such an operand
abbrev pub IsOfKind : OperandKind → Word → Type 0
IsOfKind Register word = (r : RegNo) × (word ≡ register_word r)
IsOfKind Source word = ((r : RegNo) × (word ≡ register_word r)) ⊎ (is_number_word word ≡ true)
IsOfKind Number word = is_number_word word ≡ true
IsOfKind Target word = (is_distance word || is_name word) ≡ true

abbrev pub HaveKinds : List OperandKind → List Word → Type 0
HaveKinds [] [] = ⊤
HaveKinds (kind ∷ kinds) (word ∷ words) = IsOfKind kind word × HaveKinds kinds words
HaveKinds kinds words = ⊥
