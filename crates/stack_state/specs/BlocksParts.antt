-- Beside Blocks: only the contracts of this crate's own parts and their proofs cite this, no public clause.
use Rattle.std.specs.Prelude.{◌≡◌, ◌⊎◌, ℕ, ◌-◌, ◌*◌, ◌/◌, ◌^◌, ◌<◌, ◌≤◌, Bool, List, slice_index_or}
use Rattle.reg_kind.specs.declared.span.Span.{Span}
use Rattle.scalar.specs.declared.scalar.Scalar.{Scalar}
use Rattle.scalar.specs.Members.{InScalar, ShowsOne}
use Rattle.reg_kind.specs.Spans.{AmountFits}
use Rattle.stack_state.specs.declared.mark.Mark.{Mark}
use Rattle.stack_state.specs.declared.mark.Mark.TheVariants.{Unset as NoMark}
use Rattle.stack_state.specs.declared.block.Block.{Block}
use Rattle.stack_state.specs.Words.{byte_of, word_with}
use Rattle.stack_state.specs.Fits.{HasWord, MaySpell, WordIn, block_mark}
use Rattle.stack_state.specs.Blocks.{IsTorn}
use Rattle.stack_state.specs.Accesses.{touched}

-- a byte lies outside of those from one to before another
abbrev pub IsBeside : ℕ → ℕ → ℕ → Type 0
IsBeside from to j = (j < from) ⊎ (to ≤ j)

-- of eight bytes some have the marks that a store at a span leaves, and the others are known as they were
pub record AreTouched (from to : ℕ) (span : Span) (old new : List Mark) : Type 0 where
  pub there : (j : ℕ) → from ≤ j → j < to → slice_index_or new j NoMark ≡ touched span (slice_index_or old j NoMark)
  pub others : (j : ℕ) → j < 8 → IsBeside from to j → slice_index_or new j NoMark ≡ slice_index_or old j NoMark

-- a store of numbers at some of eight bytes, or perhaps at them
pub record BlockPut : Type 0 where
  pub from : ℕ
  pub to : ℕ
  pub span : Span
  pub value : Scalar

-- some bytes of a word are the low bytes of another, and the others stay
pub record IsWordPut (put : BlockPut) (x old new : ℕ) : Type 0 where
  pub there : (j : ℕ) → put.from ≤ j → j < put.to → byte_of new j ≡ byte_of x (j - put.from)
  pub others : (j : ℕ) → j < 8 → IsBeside put.from put.to j → byte_of new j ≡ byte_of old j

-- the numbers that a store puts so many bytes behind its first: at a certain place what is left there of a value, and else any
pub record IsValueAt (span : Span) (value : Scalar) (behind : ℕ) (v : Scalar) : Type 0 where
  pub certain : span.least ≡ span.greatest → behind < 8 → (exact : Bool) (x : ℕ) → AmountFits exact value x → AmountFits exact v (x / 2 ^ (8 * behind))
  pub uncertain : ¬ (span.least ≡ span.greatest) → (x : ℕ) → x < 2 ^ 64 → InScalar v x

-- those bytes are known as a store leaves them, and for each word and each number stored the word is known that it leaves; of
-- one word and one number, at a certain place, it alone
pub record IsPut (put : BlockPut) (old new : Block) : Type 0 where
  pub there : (j : ℕ) → put.from ≤ j → j < put.to → block_mark new j ≡ touched put.span (block_mark old j)
  pub others : (j : ℕ) → j < 8 → IsBeside put.from put.to j → block_mark new j ≡ block_mark old j
  pub torn : IsTorn new
  pub words : (w x z : ℕ) → HasWord old w → InScalar put.value x → IsWordPut put x w z → MaySpell new z
  pub one : put.span.least ≡ put.span.greatest → (w x : ℕ) → WordIn ShowsOne old w → ShowsOne put.value x → WordIn ShowsOne new (word_with put.from (put.to - put.from) w x)
