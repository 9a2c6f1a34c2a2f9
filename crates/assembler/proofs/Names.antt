-- The names of other crates that more than one file of these proofs uses.
pub use Rattle.assembler.specs.Drafts.{At, Nowhere, jump_over, draft_slots, IsDraft, SaysDraft, StatementDraft}
pub use Rattle.assembler.specs.DraftsParts.{HasTarget, IsSource, DraftOf}
pub use Rattle.assembler.specs.Faults.{Anywhere, OneOf, SaysFitting, Drafts, FirstWrong, FirstLost, FirstTextFault, HasName, HasFormOf, HaveForms, HasForm, HasUnknownWord, HasBadOperand}
pub use Rattle.assembler.specs.Faults.{IsOutOfRange, IsDoubleLabel, IsTooLong, HasWords, AreRight, FaultIn}
pub use Rattle.assembler.specs.Forms.{kinds_of, HaveKinds}
pub use Rattle.assembler.specs.Operands.{IsSmall, number_from, decimal_value}
pub use Rattle.assembler.specs.Sheets.{AreFrom, with_zero, zeroed, IsSheet, lines_of, AreRead, find_in}
pub use Rattle.assembler.specs.SheetsParts.{resolution, resolution_of, FirstLostPlace, Unresolved, fault_on_line}
pub use Rattle.assembler.specs.declared.draft.Draft.{Draft}
pub use Rattle.assembler.specs.declared.draft.Draft.TheVariants.{Whole, ToLabel}
pub use Rattle.assembler.specs.declared.draft.Jump.TheVariants.{If}
pub use Rattle.assembler.specs.declared.fault.AsmFault.{AsmFault}
pub use Rattle.assembler.specs.declared.fault.AsmFault.TheVariants.{UnknownLabel, DoubleLabel, TooLong, Memory, NoInstruction}
pub use Rattle.assembler.specs.declared.sheet.Place.{Place}
pub use Rattle.assembler.specs.declared.slot_number.SlotNumber.{SlotNumber}
pub use Rattle.assembly.specs.Text.{Word, Target, register_word, distance_word, is_name, mnemonic_of, operands_of, SaysOperand, SaysOperands, before_comment, labelled, is_empty, is_digit}
pub use Rattle.assembly.specs.Text.{is_positive, is_natural, is_number_word, is_distance, Operand, Register, Number, Line, Blank, Label, Statement, lines_in, SaysInsn, labels_in, names_in, AllDiffer}
pub use Rattle.assembly.specs.Text.{Text, mnemonic_name, slot_of, LeadsTo, Says, line_of, words_in, name_of}
pub use Rattle.assembly.specs.TextNameLaws.{same_slots, short_operands, insn_of, mnemonic_name-injective}
pub use Rattle.assembly.specs.TextWordLaws.{distance_is_no_name, distance_word-injective, IsShortNumber, decimal-ne, other_first, reg_number_small, signed_decimal-injective, IsShortOperand}
pub use Rattle.assembly.specs.declared.mnemonic.Mnemonic.{Mnemonic}
pub use Rattle.assembly.specs.declared.mnemonic.Mnemonic.TheVariants.{JumpIf, Alu, Divide, Remainder}
pub use Rattle.insn.specs.Instruction.{Fits, reg_number, slots_of}
pub use Rattle.insn.specs.Program.{slot_count, SLOT_LIMIT, IsProgram}
pub use Rattle.insn.specs.declared.instruction.Insn.{Insn}
pub use Rattle.insn.specs.declared.instruction.Operand.TheVariants.{Reg, Imm}
pub use Rattle.insn.specs.declared.operation.Width.TheVariants.{W32, W64}
pub use Rattle.insn.specs.declared.register.RegNo.{RegNo}
pub use Rattle.std.proofs.Math.Seq.{drop-cons}
pub use Rattle.std.proofs.lemmas.Bool.{both_ways, ne_eqb, or_cases, and_parts, leb-true, cases_lt, false≢true, or_left, or_right, MatchBool-at_true, MatchBool-at_false}
pub use Rattle.std.proofs.lemmas.Bool.Decides.{nat_tests}
pub use Rattle.std.proofs.lemmas.Int.{ints, to_z-of_z}
pub use Rattle.std.proofs.lemmas.Iterator.Consumers.{map_from_collect, YieldsList-from_filter}
pub use Rattle.std.proofs.lemmas.Iterator.Splits.{YieldsList-from_slice_split}
pub use Rattle.std.proofs.lemmas.List.Folds.{list_any-append}
pub use Rattle.std.proofs.lemmas.List.Sums.{sum_by-append, sum_by-cons}
pub use Rattle.std.proofs.lemmas.Slice.Eq.{bytes_eq-Decides}
pub use Rattle.std.specs.BTreeMap.{BTreeMap, get_by}
pub use Rattle.std.specs.Cmp.Lexicographic.{slice_cmp}
pub use Rattle.std.specs.Fmt.{decimal, signed_decimal}
pub use Rattle.std.specs.List.{list_any, list_all, AllByRecursion, slice_split}
pub use Rattle.std.specs.Option.{option_map, option_copied}
pub use Rattle.std.specs.Ordering.{nat_cmp}
pub use Rattle.std.specs.Result.{OkIff, result_ok}
pub use Rattle.std.specs.Str.{bytes_eq}
