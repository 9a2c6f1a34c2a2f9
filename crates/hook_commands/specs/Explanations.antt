-- What is told of a program that is looked at.
use Rattle.std.specs.Prelude.{◌≡◌, ℕ, List, [], ◌∷◌, codes, length, map, Option, Some, None, option_and_then}
use Rattle.hook_commands.specs.Names.{option_map, option_or, Layout, RegNo, VerifyFault, JumpOut, JumpBack, JumpIntoWide, WritesR10, FallsOff, UnsetRegister, UnsetByte, OutOfRegion, ReadOnlyField}
use Rattle.hook_commands.specs.Names.{PointerMisuse, ExitsWithPointer, PointerRange, Memory, Known, reg_of, HookAnswer}
use Rattle.std.specs.Box.{box_value}
use Rattle.insn.specs.Meaning.{action_of}
use Rattle.insn.specs.declared.instruction.Insn.{Insn}
use Rattle.insn.specs.declared.register.RegNo.TheVariants.{R1, R10}
use Rattle.manual.specs.Topics.{IsSaid}
use Rattle.reg_kind.specs.declared.reg.Reg.{Reg}
use Rattle.reg_kind.specs.declared.reg.Reg.TheVariants.{Unset}
use Rattle.verifier.specs.declared.explain.Refusal.{Refusal}
use Rattle.verifier.specs.declared.explain.Finding.TheVariants as finding
use Rattle.verifier.specs.Findings.{IsFinding}
use Rattle.hook_commands.specs.declared.answer.HookAnswer.TheVariants as answers
use Rattle.hook_commands.specs.declared.why.ReadRegister.{ReadRegister}
use Rattle.hook_commands.specs.declared.why.ReadTold.{ReadTold}
use Rattle.hook_commands.specs.declared.why.RefusalTold.{RefusalTold}
use Rattle.hook_commands.specs.Back.{IsJumpTold}
use Rattle.hook_commands.specs.BytesTold.{TellsBytes}
use Rattle.hook_commands.specs.Reading.{left_read, right_read}
use Rattle.hook_commands.specs.Ways.{roads_of, IsToldWay}

-- ---- what the manual says of a fault

abbrev pub fault_name : VerifyFault → List ℕ
fault_name (JumpOut slot) = codes "JumpOut"
fault_name (JumpBack slot) = codes "JumpBack"
fault_name (JumpIntoWide slot) = codes "JumpIntoWide"
fault_name (WritesR10 slot) = codes "WritesR10"
fault_name (FallsOff slot) = codes "FallsOff"
fault_name (UnsetRegister slot) = codes "UnsetRegister"
fault_name (UnsetByte slot) = codes "UnsetByte"
fault_name (OutOfRegion slot) = codes "OutOfRegion"
fault_name (ReadOnlyField slot) = codes "ReadOnlyField"
fault_name (PointerMisuse slot) = codes "PointerMisuse"
fault_name (ExitsWithPointer slot) = codes "ExitsWithPointer"
fault_name (PointerRange slot) = codes "PointerRange"
fault_name Memory = codes "Memory"

abbrev pub text_or_none : Option (List ℕ) → List ℕ
text_or_none None = []
text_or_none (Some text) = text

-- the text that the manual has of a fault
abbrev pub IsHelp : VerifyFault → List ℕ → Type 0
IsHelp fault help = (said : Option (List ℕ)) × IsSaid (fault_name fault) said × (help ≡ text_or_none said)

-- ---- what is known of the registers that are read

-- what is known of a register that is read, if one is
abbrev pub read_of : Known → Option RegNo → Option ReadRegister
read_of known register = option_map (λ r. record { register = r; known = reg_of known r }) register

-- the register, if it is unset, as it was at the start, where r1 and r10 alone are set
abbrev pub where_unset : RegNo → Reg → Option RegNo
where_unset R1 known = None
where_unset R10 known = None
where_unset r Unset = Some r
where_unset r known = None

-- the register that is read, if it is unset, as it was at the start
abbrev pub unset_among : Option ReadRegister → Option RegNo
unset_among read = option_and_then (λ r. where_unset r.register r.known) read

-- ---- what is told of a program

-- what is known in a case of the registers and the bytes that an instruction reads is told
pub record IsReadTold (layout : Layout) (i : Insn) (known : Known) (told : ReadTold) : Type 0 where
  pub left : told.left ≡ read_of known (left_read (action_of i))
  pub right : told.right ≡ read_of known (right_read (action_of i))
  pub reads : TellsBytes layout known (action_of i) told.bytes.items

-- it is told in each of some cases, in order
abbrev pub AreCasesTold : Layout → Insn → List Known → List ReadTold → Type 0
AreCasesTold layout i [] told = told ≡ []
AreCasesTold layout i (known ∷ cases) told =
    (one : ReadTold) × (others : List ReadTold) × (told ≡ one ∷ others) × IsReadTold layout i known one × AreCasesTold layout i cases others

-- a refusal by the walk is told: what is known of what its instruction reads, in the case that is refused and in each other
-- one that waits there, a way that leads there, on which the first register stays unwritten that it finds unset, as it was at
-- the start, and what the manual says of the fault
pub record IsRefusalTold (layout : Layout) (program : List Insn) (r : Refusal) (told : RefusalTold) : Type 0 where
  pub fault : told.fault ≡ r.fault
  pub slot : told.slot ≡ r.slot
  pub insn : told.insn ≡ r.insn
  pub refused : IsReadTold layout r.insn r.known.value told.read
  pub others : AreCasesTold layout r.insn (map box_value r.others.items) told.others.items
  pub leads : IsToldWay (roads_of program r.onward.items (option_or (unset_among told.read.left) (unset_among told.read.right))) r.slot told.way
  pub mends : IsHelp r.fault told.help.now

-- an answer tells what is found of a program
abbrev pub IsExplanation : Layout → List Insn → HookAnswer → Type 0
IsExplanation layout program (answers.Reached count unreached) = (count ≡ length program) × IsFinding layout program (finding.Accepted unreached)
IsExplanation layout program (answers.Looked fault jump help) = IsJumpTold program fault jump × IsHelp fault help.now × IsFinding layout program (finding.Looked fault)
IsExplanation layout program (answers.Refused told) =
    (refusal : Refusal) × IsFinding layout program (finding.Refused refusal) × IsRefusalTold layout program refusal told
IsExplanation layout program answer = ⊥
