-- What an operation on two registers gives, and why it is refused.
use Rattle.std.specs.Prelude.{◌≡◌, Option, Some, None, Result, Ok, Err}
use Rattle.insn.specs.declared.operation.Width.{Width}
use Rattle.insn.specs.declared.operation.Width.TheVariants.{W32, W64}
use Rattle.insn.specs.declared.operation.BinOp.{BinOp}
use Rattle.insn.specs.declared.operation.BinOp.TheVariants.{Add, Sub, Mov}
use Rattle.insn.specs.declared.operation.UnOp.{UnOp}
use Rattle.insn.specs.declared.layout.Layout.{Layout}
use Rattle.insn.specs.declared.state.Region.{Region}
use Rattle.insn.specs.declared.state.Region.TheVariants.{Record as InRecord, Stack as InStack}
use Rattle.insn.specs.declared.state.Value.{Value}
use Rattle.insn.specs.declared.state.Value.TheVariants.{Number as IsNumber}
use Rattle.insn.specs.declared.verify_fault.WalkFault.{WalkFault}
use Rattle.insn.specs.declared.verify_fault.WalkFault.TheVariants.{UnsetRegister, PointerMisuse, PointerRange}
use Rattle.insn.specs.Values.{region_size}
use Rattle.range.specs.Domain.{IsSoundResult, IsSoundImage, IsSingleResult, IsSingleImage}
use Rattle.scalar.specs.declared.scalar.Scalar.{Scalar}
use Rattle.scalar.specs.Members.{InScalar, ShowsOne}
use Rattle.reg_kind.specs.declared.span.Direction.{Direction}
use Rattle.reg_kind.specs.declared.span.Direction.TheVariants.{Up, Down}
use Rattle.reg_kind.specs.declared.span.Span.{Span}
use Rattle.reg_kind.specs.declared.reg.Reg.{Reg}
use Rattle.reg_kind.specs.declared.reg.Reg.TheVariants.{Unset, Number, Record, Stack}
use Rattle.reg_kind.specs.Spans.{IsShifted, move_of, span_shifted}
use Rattle.reg_kind.specs.Fits.{pointer_to}

-- a number that is known alone
abbrev pub IsKnownNumber : Reg → Option Value → Type 0
IsKnownNumber (Number a) (Some (IsNumber n)) = ShowsOne a n
IsKnownNumber r o = ⊥

-- a pointer moved to a span, or refused where there is none
abbrev pub in_region : Region → Option Span → Result Reg WalkFault
in_region region None = Err PointerRange
in_region region (Some span) = Ok (pointer_to region span)

-- a pointer moved up or down by a number: to a span that has all offsets that it may then have, or refused where there is none
pub record IsMove (direction : Direction) (layout : Layout) (region : Region) (span : Span) (by : Scalar) (r : Result Reg WalkFault) : Type 0 where
  pub result : r ≡ in_region region (span_shifted direction (region_size layout region) span by)
  pub right : IsShifted (move_of direction) (region_size layout region) span by (span_shifted direction (region_size layout region) span by)

-- a copy of what a register holds
abbrev pub copy_of : Reg → Result Reg WalkFault
copy_of Unset = Err UnsetRegister
copy_of (Number a) = Ok (Number a)
copy_of (Record a) = Ok (Record a)
copy_of (Stack a) = Ok (Stack a)

-- numbers' result is sound, and shows one number where they do
abbrev pub IsNumberResult : Width → BinOp → Scalar → Scalar → Result Reg WalkFault → Type 0
IsNumberResult w op a b r = (c : Scalar) × (r ≡ Ok (Number c)) × IsSoundResult InScalar op w a b c × IsSingleResult ShowsOne op w a b c

-- what an operation that is defined on numbers alone gives
abbrev pub IsComputed : Width → BinOp → Reg → Reg → Result Reg WalkFault → Type 0
IsComputed w op Unset b r = r ≡ Err UnsetRegister
IsComputed w op a Unset r = r ≡ Err UnsetRegister
IsComputed w op (Number a) (Number b) r = IsNumberResult w op a b r
IsComputed w op a b r = r ≡ Err PointerMisuse

-- what a sum gives, and what a difference
abbrev pub IsRegMove : Direction → Layout → Reg → Reg → Result Reg WalkFault → Type 0
IsRegMove direction layout Unset b r = r ≡ Err UnsetRegister
IsRegMove direction layout a Unset r = r ≡ Err UnsetRegister
IsRegMove direction layout (Number a) (Number b) r = IsNumberResult W64 (move_of direction) a b r
IsRegMove direction layout (Record span) (Number by) r = IsMove direction layout InRecord span by r
IsRegMove direction layout (Stack span) (Number by) r = IsMove direction layout InStack span by r
IsRegMove Up layout (Number by) (Record span) r = IsMove Up layout InRecord span by r
IsRegMove Up layout (Number by) (Stack span) r = IsMove Up layout InStack span by r
IsRegMove direction layout a b r = r ≡ Err PointerMisuse

-- what an operation gives; a move has 0 for its left operand
abbrev pub IsKindResult : Layout → Width → BinOp → Reg → Reg → Result Reg WalkFault → Type 0
IsKindResult layout W64 Mov a b r = r ≡ copy_of b
IsKindResult layout W32 Mov a b r = (zero : Scalar) × ShowsOne zero 0 × IsComputed W32 Mov (Number zero) b r
IsKindResult layout W64 Add a b r = IsRegMove Up layout a b r
IsKindResult layout W64 Sub a b r = IsRegMove Down layout a b r
IsKindResult layout w op a b r = IsComputed w op a b r

-- ---- one operand

-- the numbers in a register, or why there are none
abbrev pub number_in_reg : Reg → WalkFault → Result Scalar WalkFault
number_in_reg Unset otherwise = Err UnsetRegister
number_in_reg (Number a) otherwise = Ok a
number_in_reg (Record span) otherwise = Err otherwise
number_in_reg (Stack span) otherwise = Err otherwise

-- what an operation on one number gives by the kind of its operand
abbrev pub IsKindImage : UnOp → Width → Reg → Result Reg WalkFault → Type 0
IsKindImage op w Unset r = r ≡ Err UnsetRegister
IsKindImage op w (Number a) r = (c : Scalar) × (r ≡ Ok (Number c)) × IsSoundImage InScalar op w a c × IsSingleImage ShowsOne op w a c
IsKindImage op w (Record span) r = r ≡ Err PointerMisuse
IsKindImage op w (Stack span) r = r ≡ Err PointerMisuse
