-- What is known of a register, and what it holds.
-- Read with `exact`, it is said of shapes: the register holds the one thing that is described, but for the amounts of numbers.
use Rattle.std.specs.Prelude.{◌≡◌, ◌≢◌, ℕ, ◌≤◌, ◌&&◌, nat_le, Bool, true, false, Option, Some, None, Result, Ok, Err, min, max}
use Rattle.insn.specs.declared.state.Region.{Region}
use Rattle.insn.specs.declared.state.Region.TheVariants.{Record as InRecord, Stack as InStack}
use Rattle.insn.specs.declared.state.Value.{Value}
use Rattle.insn.specs.declared.state.Value.TheVariants.{Number as IsNumber, Address}
use Rattle.insn.specs.declared.verify_fault.WalkFault.{WalkFault}
use Rattle.insn.specs.declared.verify_fault.WalkFault.TheVariants.{FallsOff}
use Rattle.insn.specs.Outcomes.{Tested, Passes, failed}
use Rattle.scalar.specs.declared.scalar.Scalar.{Scalar}
use Rattle.scalar.specs.Members.{InScalar, LiesInEachJoin}
use Rattle.scalar.specs.Narrowed.{Answer, AreNarrowed, HaveAnswer}
use Rattle.reg_kind.specs.declared.span.Span.{Span}
use Rattle.reg_kind.specs.declared.reg.Reg.{Reg}
use Rattle.reg_kind.specs.declared.reg.Reg.TheVariants.{Unset, Number, Record, Stack}

-- a number is among those that are known; of a shape's numbers nothing is said
abbrev pub NumberFits : Bool → Scalar → ℕ → Type 0
NumberFits true a n = Unit {0}
NumberFits false a n = InScalar a n

-- an offset lies in a span; that of a shape is the only one
abbrev pub SpanFits : Bool → Span → ℕ → Type 0
SpanFits true span offset = (span.least ≡ offset) × (span.greatest ≡ offset)
SpanFits false span offset = (span.least ≤ offset) × (offset ≤ span.greatest)

-- a value is what is known
abbrev pub ValueFits : Bool → Reg → Value → Type 0
ValueFits exact (Number a) (IsNumber n) = NumberFits exact a n
ValueFits exact (Record span) (Address p) = (p.region ≡ InRecord) × SpanFits exact span p.offset
ValueFits exact (Stack span) (Address p) = (p.region ≡ InStack) × SpanFits exact span p.offset
ValueFits exact r v = ⊥

-- where nothing is known, a register may hold anything; a shape's then holds nothing
abbrev pub UnsetFits : Bool → Option Value → Type 0
UnsetFits true o = o ≡ None
UnsetFits false o = Unit {0}

-- what a register holds is what is known
abbrev pub RegFits : Bool → Reg → Option Value → Type 0
RegFits exact Unset o = UnsetFits exact o
RegFits exact (Number a) None = ⊥
RegFits exact (Record a) None = ⊥
RegFits exact (Stack a) None = ⊥
RegFits exact (Number a) (Some v) = ValueFits exact (Number a) v
RegFits exact (Record a) (Some v) = ValueFits exact (Record a) v
RegFits exact (Stack a) (Some v) = ValueFits exact (Stack a) v

-- What is said is right of what comes of a part of an instruction: it passes with what fits. Where a shape is refused, it fails
-- with the fault that is said.
abbrev pub IsRight : {A B : Type 0} → (A → B → Type 0) → Bool → Result A WalkFault → Tested B → Type 0
IsRight Fit exact (Ok a) (Passes b) = Fit a b
IsRight Fit exact (Ok a) t = ⊥
IsRight Fit true (Err fault) t = failed t ≡ Some fault
IsRight Fit false (Err fault) t = Unit {0}

-- a part of an instruction does not go on past a program's last slot
abbrev pub StaysIn : {A : Type 0} → Result A WalkFault → Type 0
StaysIn (Ok a) = Unit {0}
StaysIn (Err fault) = fault ≢ FallsOff

-- a pointer into a region
abbrev pub pointer_to : Region → Span → Reg
pointer_to InRecord span = Record span
pointer_to InStack span = Stack span

-- ---- two ways that meet

-- what fits either fits the third; a shape that fits both fits the third
pub record IsRegJoin (a b c : Reg) : Type 0 where
  pub left : (o : Option Value) → RegFits false a o → RegFits false c o
  pub right : (o : Option Value) → RegFits false b o → RegFits false c o
  pub same : (o : Option Value) → RegFits true a o → RegFits true b o → RegFits true c o

-- the least span that has the offsets of both
pub record IsHull (a b c : Span) : Type 0 where
  pub least : c.least ≡ min a.least b.least
  pub greatest : c.greatest ≡ max a.greatest b.greatest

-- registers of one kind and region keep it, with no more than is in each join of both; two of different ones have nothing in common
abbrev pub IsKindJoin : Reg → Reg → Reg → Type 0
IsKindJoin (Number a) (Number b) c = (n : Scalar) × (c ≡ Number n) × LiesInEachJoin a b n
IsKindJoin (Record a) (Record b) c = (s : Span) × (c ≡ Record s) × IsHull a b s
IsKindJoin (Stack a) (Stack b) c = (s : Span) × (c ≡ Stack s) × IsHull a b s
IsKindJoin a b c = c ≡ Unset

-- whether a span begins no later than another, and ends no earlier
abbrev pub has_span : Span → Span → Bool
has_span a b = nat_le a.least b.least && nat_le b.greatest a.greatest

-- whether a register covers another, by their kinds; of numbers it is said at least where they are the same
abbrev pub IsKindCover : Reg → Reg → Bool → Type 0
IsKindCover Unset b answer = answer ≡ true
IsKindCover (Number a) (Number b) answer = b ≡ a → answer ≡ true
IsKindCover (Record a) (Record b) answer = answer ≡ has_span a b
IsKindCover (Stack a) (Stack b) answer = answer ≡ has_span a b
IsKindCover a b answer = answer ≡ false

-- ---- comparisons

-- registers hold two numbers that have an answer
pub record IsAnswered (t : Answer) (a b : Reg) (x y : ℕ) : Type 0 where
  pub left : RegFits false a (Some (IsNumber x))
  pub right : RegFits false b (Some (IsNumber y))
  pub answer : HaveAnswer t x y

-- a comparison keeps all numbers that have its answer, and every shape; none where there are no such numbers
abbrev pub IsRegRefined : Answer → Reg → Reg → Option (Reg × Reg) → Type 0
IsRegRefined t a b None = (x y : ℕ) → IsAnswered t a b x y → ⊥
IsRegRefined t a b (Some r) =
    ((x y : ℕ) → IsAnswered t a b x y → RegFits false r.0 (Some (IsNumber x)) × RegFits false r.1 (Some (IsNumber y)))
    × ((o : Option Value) → RegFits true a o → RegFits true r.0 o) × ((o : Option Value) → RegFits true b o → RegFits true r.1 o)

-- of two numbers it leaves what the answer leaves of their values, if anything; other registers stay as they are
abbrev pub IsKindRefined : Answer → Reg → Reg → Option (Reg × Reg) → Type 0
IsKindRefined t (Number a) (Number b) None = Unit {0}
IsKindRefined t (Number a) (Number b) (Some r) = (c : Scalar) × (d : Scalar) × (r ≡ (Number c, Number d)) × AreNarrowed t a b (c, d)
IsKindRefined t a b r = r ≡ Some (a, b)
