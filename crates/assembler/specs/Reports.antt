-- How a fault is told.
use Rattle.std.specs.Prelude.{ℕ, List, [], ◌++◌, codes, Option, Some, None}
use Rattle.std.specs.Fmt.{decimal}
use Rattle.std.specs.Option.{option_map_or}
use Rattle.assembler.specs.declared.fault.AsmFault.{AsmFault}
use Rattle.assembler.specs.declared.fault.AsmFault.TheVariants.{UnknownWord, BadOperand, OutOfRange, UnknownLabel, DoubleLabel, TooLong, Memory, NoInstruction}

-- the line of a fault, where it has one
abbrev pub line_of_fault : AsmFault → Option ℕ
line_of_fault (UnknownWord line) = Some line
line_of_fault (BadOperand line) = Some line
line_of_fault (OutOfRange line) = Some line
line_of_fault (UnknownLabel line) = Some line
line_of_fault (DoubleLabel line) = Some line
line_of_fault (TooLong line) = Some line
line_of_fault Memory = None
line_of_fault NoInstruction = None

abbrev pub name_of_fault : AsmFault → List ℕ
name_of_fault (UnknownWord line) = codes "UnknownWord"
name_of_fault (BadOperand line) = codes "BadOperand"
name_of_fault (OutOfRange line) = codes "OutOfRange"
name_of_fault (UnknownLabel line) = codes "UnknownLabel"
name_of_fault (DoubleLabel line) = codes "DoubleLabel"
name_of_fault (TooLong line) = codes "TooLong"
name_of_fault Memory = codes "Memory"
name_of_fault NoInstruction = codes "NoInstruction"

-- a fault's name, and its line in parentheses where it has one
abbrev pub asm_fault_text : AsmFault → List ℕ
asm_fault_text fault = name_of_fault fault ++ option_map_or (λ line. codes "(" ++ decimal line ++ codes ")") (line_of_fault fault) []
