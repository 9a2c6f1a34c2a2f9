-- Spans of offsets: moved by a number, and accessed.
use Rattle.std.specs.Prelude.{ℕ, ◌<◌, ◌≤◌, nat_le, ◌&&◌, ℤ, pos, negsuc, ◌+ℤ◌, ◌-ℤ◌, Bool, true, false, Option, Some, None}
use Rattle.insn.specs.declared.operation.Width.TheVariants.{W64}
use Rattle.insn.specs.declared.operation.BinOp.{BinOp}
use Rattle.insn.specs.declared.operation.BinOp.TheVariants.{Add, Sub}
use Rattle.insn.specs.Word.{word_result}
use Rattle.insn.specs.Values.{only_if}
use Rattle.scalar.specs.declared.scalar.Scalar.{Scalar}
use Rattle.scalar.specs.Members.{InScalar, ShowsOne}
use Rattle.scalar.specs.Bounds.{least_word, greatest_word, least_number, greatest_number}
use Rattle.reg_kind.specs.declared.span.Direction.{Direction}
use Rattle.reg_kind.specs.declared.span.Direction.TheVariants.{Up, Down}
use Rattle.reg_kind.specs.declared.span.Span.{Span}
use Rattle.reg_kind.specs.Fits.{SpanFits}

-- a number by which a pointer is moved; that of a shape is known alone
abbrev pub AmountFits : Bool → Scalar → ℕ → Type 0
AmountFits true a n = ShowsOne a n
AmountFits false a n = InScalar a n

abbrev pub span_from : ℕ → ℕ → Span
span_from least greatest = record { least = least; greatest = greatest }

-- the span from one number to another, where both lie in a region of a size or one past its end
abbrev pub span_between : ℕ → ℤ → ℤ → Option Span
span_between size (pos least) (pos greatest) = only_if (nat_le least size && nat_le greatest size) (Some (span_from least greatest))
span_between size (pos least) (negsuc _) = None
span_between size (negsuc _) greatest = None

-- where a number leads from an offset, when it is added to it, and when it is taken from it
abbrev pub moved_by : Direction → ℤ → ℤ → ℤ
moved_by Up o z = o +ℤ z
moved_by Down o z = o -ℤ z

abbrev pub move_of : Direction → BinOp
move_of Up = Add
move_of Down = Sub

-- of two numbers, the least and the greatest, the one that leads lowest, and the one that leads highest
abbrev pub lowest : Direction → ℤ → ℤ → ℤ
lowest Up least greatest = least
lowest Down least greatest = greatest

abbrev pub highest : Direction → ℤ → ℤ → ℤ
highest Up least greatest = greatest
highest Down least greatest = least

-- where numbers between two lead from the offsets of a span
abbrev pub span_moved : Direction → ℕ → Span → ℤ → ℤ → Option Span
span_moved direction size span least greatest =
    span_between size (moved_by direction (pos span.least) (lowest direction least greatest)) (moved_by direction (pos span.greatest) (highest direction least greatest))

abbrev pub span_raised : ℕ → Span → ℤ → ℤ → Option Span
span_raised size span least greatest = span_moved Up size span least greatest

-- the first of two spans, where there is one, and else the second
abbrev pub first_span : Option Span → Option Span → Option Span
first_span None other = other
first_span (Some span) other = Some span

-- a span moved up or down by the numbers of a scalar: by what it lies between as a word, or else as a signed number
abbrev pub span_shifted : Direction → ℕ → Span → Scalar → Option Span
span_shifted direction size span by =
    first_span (span_moved direction size span (pos (least_word by)) (pos (greatest_word by))) (span_moved direction size span (least_number by) (greatest_number by))

-- each offset of a span, moved by each of some numbers, lies in the region and in another span; none: the only ones don't
abbrev pub IsShifted : BinOp → ℕ → Span → Scalar → Option Span → Type 0
IsShifted op size span by None = (o n : ℕ) → SpanFits true span o → AmountFits true by n → size < word_result W64 op o n
IsShifted op size span by (Some t) =
    (exact : Bool) (o n : ℕ) → SpanFits exact span o → AmountFits exact by n → (word_result W64 op o n ≤ size) × SpanFits exact t (word_result W64 op o n)
