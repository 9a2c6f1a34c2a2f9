-- What a test leaves of two values.
use Rattle.std.specs.Prelude.{◌≡◌, ℕ, ◌+◌, ◌<◌, ◌^◌, Bool, IsTrue}
use Rattle.insn.specs.declared.operation.BinOp.{BinOp}
use Rattle.insn.specs.declared.operation.BinOp.TheVariants.{Add}
use Rattle.insn.specs.declared.operation.Cond.{Cond}
use Rattle.insn.specs.declared.operation.Width.{Width}
use Rattle.insn.specs.declared.operation.Width.TheVariants.{W32, W64}
use Rattle.range.specs.Conditions.{HasAnswer, Said, says}
use Rattle.range.specs.Sets.{IsLeft, IsRight, IsWithin}
use Rattle.range.specs.Unsigned.{InRange, IsWordSum}
use Rattle.range.specs.Signed.{InSignedRange}
use Rattle.range.specs.Half.{InHalfRange}
use Rattle.known_bits.specs.Refined.{HasPartner}
use Rattle.scalar.specs.declared.scalar.Scalar.{Scalar}
use Rattle.scalar.specs.Bounds.{greatest_word}
use Rattle.scalar.specs.Members.{InScalar, ShowsOne}

-- a condition of two words in a width, and the answer that it has
pub record Answer : Type 0 where
  pub cond : Cond
  pub width : Width
  pub taken : Bool

-- two words have it
abbrev pub HaveAnswer : Answer → ℕ → ℕ → Type 0
HaveAnswer t x y = HasAnswer t.width t.cond t.taken x y

-- what it says of them
abbrev pub said : Answer → Said
said t = says t.cond t.taken

-- a width sees each word of two values whole
abbrev pub SeesAll : Width → Scalar → Scalar → Type 0
SeesAll W32 a b = (greatest_word a < 2 ^ 32) × (greatest_word b < 2 ^ 32)
SeesAll W64 a b = Unit {0}

-- each word of a value lies in every set that has all words of a kind
abbrev pub LiesIn : {A : Type 0} → (A → ℕ → Type 0) → (ℕ → Type 0) → Scalar → Type 0
LiesIn {A = A} Has Kind c = (s : A) → ((x : ℕ) → Kind x → Has s x) → (x : ℕ) → InScalar c x → Has s x

-- where no sum of their words passes 2^64, a result of two values lies in the least range that has these
abbrev pub LiesInLeastSum : BinOp → Width → Scalar → Scalar → Scalar → Type 0
LiesInLeastSum op w a b c = op ≡ Add → w ≡ W64 → greatest_word a + greatest_word b < 2 ^ 64 → LiesIn InRange (IsWordSum a.unsigned b.unsigned) c

-- two values have no words but those of the least sets that keep all pairs of related words, of which there is one
pub record LieInLeast {A : Type 0} (Has : A → ℕ → Type 0) (Related : ℕ → ℕ → Type 0) (a b : A) (r : Scalar × Scalar) : Type 0 where
  pub left : LiesIn Has (IsLeft Has Related a b) r.0
  pub right : LiesIn Has (IsRight Has Related a b) r.1
  pub some : (x : ℕ) × IsLeft Has Related a b x

-- each word of two values has one of the other's known bits that a width sees alike
abbrev pub HavePartners : Width → Scalar → Scalar → Scalar × Scalar → Type 0
HavePartners w a b r = ((x : ℕ) → InScalar r.0 x → HasPartner w b.bits x) × ((y : ℕ) → InScalar r.1 y → HasPartner w a.bits y)

-- What an answer leaves of two values was there. One that orders words, or signed readings, leaves what is in the least
-- ranges that keep the pairs which have it, and there is such a pair; one that says that words are equal leaves of each
-- what is in both. Two words that are each known alone have the answer.
pub record AreNarrowed (t : Answer) (a b : Scalar) (r : Scalar × Scalar) : Type 0 where
  pub within : IsWithin InScalar r.0 a × IsWithin InScalar r.1 b
  pub words : SeesAll t.width a b → IsTrue (said t).words → LieInLeast InRange (HasAnswer W64 t.cond t.taken) a.unsigned b.unsigned r
  pub numbers : t.width ≡ W64 → IsTrue (said t).numbers → LieInLeast InSignedRange (HasAnswer W64 t.cond t.taken) a.signed b.signed r
  pub halves : t.width ≡ W32 → IsTrue (said t).numbers → LieInLeast InHalfRange (HasAnswer W32 t.cond t.taken) a.half b.half r
  pub equal : SeesAll t.width a b → IsTrue (said t).equal → IsWithin InScalar r.0 b × IsWithin InScalar r.1 a
  pub bits : IsTrue (said t).equal → HavePartners t.width a b r
  pub single : (x y : ℕ) → ShowsOne a x → ShowsOne b y → HaveAnswer t x y
