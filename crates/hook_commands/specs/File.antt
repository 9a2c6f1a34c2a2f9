-- What the commands answer to a file. A file is its bytes, and nothing where it cannot be read.
use Rattle.std.specs.Prelude.{◌≡◌, ◌⊎◌, ⊤, ℕ, List, length, Option, Some, None, IsSomeAnd, IsUtf8, Result, Ok, Err, Bool, false, ◌&&◌, ◌==◌, ◌∷◌, IsTrue}
use Rattle.hook_commands.specs.Names.{string_bytes, Layout, InsnFault, VerifyFault, FirstInsnFault, Spells, HookAnswer, HookCommandFault, encode_lower}
use Rattle.insn.specs.declared.instruction.Insn.{Insn}
use Rattle.assembly.specs.Text.{canonical_text, Text}
use Rattle.hook_commands.specs.declared.answer.HookAnswer.TheVariants as answers
use Rattle.hook_commands.specs.declared.commands.file.FileCode.{FileCode}
use Rattle.hook_commands.specs.declared.commands.file.FileCode.TheVariants as file_codes
use Rattle.hook_commands.specs.declared.fault.HookCommandFault.TheVariants as faults
use Rattle.hook_commands.specs.HexText.{IsHexOf, IsNoHex}
use Rattle.hook_commands.specs.Judge.{IsTakenProgram, IsTurnedAway}
use Rattle.assembler.specs.declared.fault.AsmFault.{AsmFault}
use Rattle.assembler.specs.Faults.{FirstTextFault}
use Rattle.hook_commands.specs.Explanations.{IsExplanation}
use Rattle.lister.specs.Slots.{slot_lines}

abbrev pub File : Type 0
File = Option (List ℕ)

-- ---- texts

-- a file is a text
abbrev pub HoldsText : File → List ℕ → Type 0
HoldsText file text = (file ≡ Some text) × IsUtf8 text

-- a file is no text: it cannot be read, or it is not UTF-8, which counts for the same
abbrev pub IsNoText : File → Type 0
IsNoText file = (file ≡ None) ⊎ IsSomeAnd file (λ bytes. IsUtf8 bytes → ⊥)

-- why the file of a path is no text
abbrev pub HoldsNoText : List ℕ → File → HookCommandFault → Type 0
HoldsNoText path file (faults.CannotRead named) = IsNoText file × (named.now ≡ path)
HoldsNoText path file fault = ⊥

-- ---- programs

-- the code in a file of these bytes: those that its text is hex of, or the file itself, where it is no hex
abbrev pub IsCodeIn : List ℕ → FileCode → Type 0
IsCodeIn bytes (file_codes.OfHex code) = IsHexOf bytes code.items
IsCodeIn bytes (file_codes.Plain code) = IsNoHex bytes × (code.items ≡ bytes)

abbrev pub HoldsCode : File → List ℕ → Type 0
HoldsCode file code = IsSomeAnd file (λ bytes. IsHexOf bytes code ⊎ (IsNoHex bytes × (code ≡ bytes)))

-- the code in a file spells a program
pub record HoldsProgram (file : File) (program : List Insn) : Type 0 where
  pub code : List ℕ
  pub held : HoldsCode file code
  pub spelled : Spells code program

-- a file is hex of bytes that are no program: this is their first fault
pub record HoldsFault (file : File) (fault : InsnFault) : Type 0 where
  pub code : List ℕ
  pub hex : IsSomeAnd file (λ text. IsHexOf text code)
  pub first : FirstInsnFault code fault

-- bytes begin as an ELF file does
abbrev pub is_elf : List ℕ → Bool
is_elf (a ∷ b ∷ c ∷ d ∷ rest) = (a == 127) && (b == 69) && (c == 76) && (d == 70)
is_elf bytes = false

-- bytes are no hex, and spell no program
abbrev pub HoldNoCode : List ℕ → Type 0
HoldNoCode bytes = IsNoHex bytes × ((program : List Insn) → Spells bytes program → ⊥)

-- why the file of a path holds no program: it cannot be read; it is neither hex nor a program, and is told with its path, an ELF file
-- as one; or the bytes that it is hex of are no program
abbrev pub HoldsNoProgram : List ℕ → File → HookCommandFault → Type 0
HoldsNoProgram path file (faults.CannotRead named) = (file ≡ None) × (named.now ≡ path)
HoldsNoProgram path file (faults.IsElf named) = (named.now ≡ path) × IsSomeAnd file (λ bytes. IsTrue (is_elf bytes) × HoldNoCode bytes)
HoldsNoProgram path file (faults.IsNotHex named) = (named.now ≡ path) × IsSomeAnd file (λ bytes. (is_elf bytes ≡ false) × HoldNoCode bytes)
HoldsNoProgram path file (faults.Insn fault) = HoldsFault file fault
HoldsNoProgram path file faults.OutOfMemory = ⊤
HoldsNoProgram path file fault = ⊥

-- ---- `list`

-- the text is the canonical one of the file's program
pub record IsListing (file : File) (text : List ℕ) : Type 0 where
  pub program : List Insn
  pub held : HoldsProgram file program
  pub listed : text ≡ canonical_text program

-- what `list` answers to the file of a path
abbrev pub IsListedAs : List ℕ → File → Result HookAnswer HookCommandFault → Type 0
IsListedAs path file (Ok (answers.Listing text)) = IsListing file (string_bytes text)
IsListedAs path file (Ok answer) = ⊥
IsListedAs path file (Err fault) = HoldsNoProgram path file fault

-- ---- `check` and `check2`

-- the file's program has this many instructions, and is accepted for records of a version
pub record IsAcceptedOn (layout : Layout) (file : File) (count : ℕ) : Type 0 where
  pub program : List Insn
  pub held : HoldsProgram file program
  pub taken : IsTakenProgram layout program
  pub counted : count ≡ length program

-- the file's program is not accepted for records of a version: this is its fault
pub record IsRefusedOn (layout : Layout) (file : File) (fault : VerifyFault) : Type 0 where
  pub program : List Insn
  pub held : HoldsProgram file program
  pub refused : IsTurnedAway layout program fault

-- why the program of a file is not accepted, where it holds one
abbrev pub IsFileNotAccepted : Layout → File → HookCommandFault → Type 0
IsFileNotAccepted layout file (faults.Verify fault) = IsRefusedOn layout file fault
IsFileNotAccepted layout file faults.OutOfMemory = ⊤
IsFileNotAccepted layout file fault = ⊥

-- what `check` answers to the file of a path, for records of a version
abbrev pub IsCheckedOn : Layout → List ℕ → File → Result HookAnswer HookCommandFault → Type 0
IsCheckedOn layout path file (Ok (answers.Accepted count)) = IsAcceptedOn layout file count
IsCheckedOn layout path file (Ok answer) = ⊥
IsCheckedOn layout path file (Err fault) = HoldsNoProgram path file fault ⊎ IsFileNotAccepted layout file fault

-- ---- `asm`

-- a file's text says a program, and the hex is that of the program's bytes, in small letters
pub record IsAssembled (file : File) (hex : List ℕ) : Type 0 where
  pub text : List ℕ
  pub program : List Insn
  pub code : List ℕ
  pub held : HoldsText file text
  pub said : Text text program
  pub spelled : Spells code program
  pub digits : hex ≡ encode_lower code

-- a file's text says no program: this is its first fault
pub record HasTextFault (file : File) (fault : AsmFault) : Type 0 where
  pub text : List ℕ
  pub held : HoldsText file text
  pub first : FirstTextFault text fault

-- why the text of a file says no program, where it is one
abbrev pub SaysNoProgram : File → HookCommandFault → Type 0
SaysNoProgram file (faults.Text fault word) = HasTextFault file fault
SaysNoProgram file faults.OutOfMemory = ⊤
SaysNoProgram file fault = ⊥

-- what `asm` answers to the file of a path
abbrev pub IsAssembledAs : List ℕ → File → Result HookAnswer HookCommandFault → Type 0
IsAssembledAs path file (Ok (answers.Code hex)) = IsAssembled file (string_bytes hex)
IsAssembledAs path file (Ok answer) = ⊥
IsAssembledAs path file (Err fault) = HoldsNoText path file fault ⊎ SaysNoProgram file fault

-- ---- `list --slots`

-- the file's program is listed with its slots
abbrev pub IsListedWithSlotsAs : List ℕ → File → Result HookAnswer HookCommandFault → Type 0
IsListedWithSlotsAs path file (Ok (answers.Slots lines)) =
    (program : List Insn) × HoldsProgram file program × (lines.items ≡ slot_lines program)
IsListedWithSlotsAs path file (Ok answer) = ⊥
IsListedWithSlotsAs path file (Err fault) = HoldsNoProgram path file fault

-- ---- `check --why` and `check2 --why`

-- the answer tells what is found of the file's program
abbrev pub IsExplainedOn : Layout → List ℕ → File → Result HookAnswer HookCommandFault → Type 0
IsExplainedOn layout path file (Ok answer) = (program : List Insn) × HoldsProgram file program × IsExplanation layout program answer
IsExplainedOn layout path file (Err fault) = HoldsNoProgram path file fault
