-- Results that leave no bit unknown without need.
use Rattle.std.specs.Prelude.{◌≡◌, ℕ, ◌+◌, ◌/◌, ◌%◌, ◌^◌, ◌==◌, Bool, true, false, IsTrue}
use Rattle.std.specs.Int.{bit_at}
use Rattle.insn.specs.declared.operation.Width.{Width}
use Rattle.insn.specs.declared.operation.BinOp.{BinOp}
use Rattle.insn.specs.declared.operation.BinOp.TheVariants.{Mul, Div, Sdiv, Lsh, Rsh, Mod, Smod, Arsh}
use Rattle.insn.specs.declared.operation.UnOp.{UnOp}
use Rattle.insn.specs.Word.{unary_result, word_result}
use Rattle.known_bits.specs.declared.bits.KnownBits.{KnownBits}
use Rattle.known_bits.specs.Members.{HasBits}

-- operations that leave no bit unknown without need: shifts do where the amount is known
abbrev pub is_exact : BinOp → KnownBits → Bool
is_exact Mul b = false
is_exact Div b = false
is_exact Sdiv b = false
is_exact Mod b = false
is_exact Smod b = false
is_exact Lsh b = b.mask == 0
is_exact Rsh b = b.mask == 0
is_exact Arsh b = b.mask == 0
is_exact op b = true

-- a bit comes out so for some members of the operands
pub record Gives (op : BinOp) (w : Width) (a b : KnownBits) (k bit : ℕ) : Type 0 where
  pub x : ℕ
  pub y : ℕ
  pub left : HasBits a x
  pub right : HasBits b y
  pub is : bit_at (word_result w op x y) k ≡ bit

-- each bit that a result leaves unknown comes out as 0 and as 1
abbrev pub IsExact : BinOp → Width → KnownBits → KnownBits → KnownBits → Type 0
IsExact op w a b c = (k : ℕ) → bit_at c.mask k ≡ 1 → Gives op w a b k 0 × Gives op w a b k 1

-- so do the results of these operations
abbrev pub HasExactBits : BinOp → Width → KnownBits → KnownBits → KnownBits → Type 0
HasExactBits op w a b c = IsTrue (is_exact op b) → IsExact op w a b c

-- a bit of an image comes out so for a member of the operand
pub record GivesImage (op : UnOp) (w : Width) (a : KnownBits) (k bit : ℕ) : Type 0 where
  pub x : ℕ
  pub member : HasBits a x
  pub is : bit_at (unary_result op w x) k ≡ bit

-- each bit that an operation on one word leaves unknown comes out as 0 and as 1
abbrev pub IsExactImage : UnOp → Width → KnownBits → KnownBits → Type 0
IsExactImage op w a c = (k : ℕ) → bit_at c.mask k ≡ 1 → GivesImage op w a k 0 × GivesImage op w a k 1

-- the carry into a bit of a sum
abbrev pub carry : ℕ → ℕ → ℕ → ℕ
carry k x y = (x % 2 ^ k + y % 2 ^ k) / 2 ^ k
