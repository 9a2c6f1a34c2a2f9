-- What a test teaches: of the two numbers that it compares, and of those that are linked to them.
use Rattle.std.specs.Prelude.{◌≡◌, ◌≢◌, ◌⊎◌, ◌<◌, ℕ, ◌+◌, Bool, true, false, List, slice_set, Option, Some, None}
use Rattle.verifier.specs.Names.{Operand, Reg, Imm, Layout, reg_number, block_at, State, Scalar, Kind, IsKindRefined}
use Rattle.scalar.specs.Narrowed.{Answer}
use Rattle.links.specs.Narrowed.{AreSameNarrowed, IsLinkNarrowed}
use Rattle.reg_kind.specs.declared.reg.Reg.TheVariants as kind
use Rattle.verifier.specs.declared.known.Known.{Known}
use Rattle.verifier.specs.declared.known.Test.{Test}
use Rattle.links.specs.declared.link.Link.{Link}
use Rattle.verifier.specs.Fits.{InStates, Reading, StateFits, is_exact}
use Rattle.verifier.specs.Follows.{IsOperand, reg_of, register_at, test_answer}
use Rattle.stack_state.specs.declared.block.Block.{Block}
use Rattle.stack_state.specs.declared.block.Block.TheVariants as block
use Rattle.links.specs.Links.{with_turn, home_at, link_at, IsFirstLink}
use Rattle.links.specs.declared.link.Turn.{Turn}
use Rattle.links.specs.declared.link.Turn.TheVariants.{Left, Right, Others}

-- what is known is narrowed: it is known of the same states, and shown of the same shapes
pub record IsNarrowed (known new : Known) : Type 0 where
  pub states : (layout : Layout) (s : State) → StateFits InStates layout known s → StateFits InStates layout new s
  pub shapes : (how : Reading) → is_exact how ≡ true → (layout : Layout) (s : State) → StateFits how layout known s → StateFits how layout new s

-- ---- the two numbers that are compared

-- registers of which an operand is set
abbrev pub operand_set : List Kind → Operand → Kind → List Kind
operand_set registers (Reg r) value = slice_set registers (reg_number r) value
operand_set registers (Imm imm) value = registers

-- what a test asks, and its answer
abbrev pub answer_of : Test → Bool → Answer
answer_of test answer = record { cond = test.cond; width = test.width; taken = answer }

-- of the two numbers the answer leaves what it leaves of their values, and all else stays
pub record IsCompared (test : Test) (answer : Bool) (old new : Known) : Type 0 where
  pub right : Kind
  pub operand : IsOperand old test.right right
  pub both : Kind × Kind
  pub refined : IsKindRefined (answer_of test answer) (reg_of old test.left) right (Some both)
  pub registers : new.registers ≡ slice_set (operand_set old.registers test.right both.1) (reg_number test.left) both.0
  pub stack : new.stack ≡ old.stack
  pub links : new.links ≡ old.links

-- ---- numbers that are linked

-- what is known of two registers has spread by the link of register k: it leaves of the two what it leaves, and all else stays
pub record IsSpread (link : Link) (k : ℕ) (old new : Known) : Type 0 where
  pub both : Kind × Kind
  pub narrowed : IsLinkNarrowed link (reg_of old link.of) (register_at old k) both
  pub registers : new.registers ≡ slice_set (slice_set old.registers (reg_number link.of) both.0) k both.1
  pub stack : new.stack ≡ old.stack
  pub links : new.links ≡ old.links

-- it has spread by the first of some links, or nothing is changed, where it is known of no state, or there is no link
pub data IsSpreadByFirst (links : ℕ → Option Link) (old : Known) : Known → Type 0 where
  ByFirst : {k : ℕ} {link : Link} {new : Known} → IsFirstLink links k link → IsSpread link k old new → IsSpreadByFirst links old new
  ByNone : ((k : ℕ) → k < 11 → links k ≡ None) ⊎ ((layout : Layout) (s : State) → StateFits InStates layout old s → ⊥) → IsSpreadByFirst links old old

-- it is known of both, and all else stays
pub record IsHomeNarrowed (b k : ℕ) (numbers : Scalar × Scalar) (old new : Known) : Type 0 where
  pub both : Scalar × Scalar
  pub narrowed : AreSameNarrowed numbers.0 numbers.1 both
  pub registers : new.registers ≡ slice_set old.registers k (kind.Number both.1)
  pub there : block_at new.stack b ≡ block.Whole (kind.Number both.0)
  pub others : (j : ℕ) → j ≢ b → block_at new.stack j ≡ block_at old.stack j
  pub links : new.links ≡ old.links

-- what is known of register k and of its home has spread: where one of them is no number, nothing is changed
abbrev pub IsHomeSpread : Block → Kind → ℕ × ℕ → Known → Known → Type 0
IsHomeSpread (block.Whole (kind.Number a)) (kind.Number c) at old new = IsHomeNarrowed at.0 at.1 (a, c) old new
IsHomeSpread stored held at old new = new ≡ old

-- it has spread by a home, if there is one
abbrev pub MaySpreadHome : Option ℕ → ℕ → Known → Known → Type 0
MaySpreadHome None k old new = new ≡ old
MaySpreadHome (Some b) k old new = IsHomeSpread (block_at old.stack b) (register_at old k) (b, k) old new

-- it has spread by a link, if there is one
abbrev pub MaySpread : Option Link → ℕ → Known → Known → Type 0
MaySpread None k old new = new ≡ old
MaySpread (Some link) k old new = IsSpread link k old new

-- it has spread by the link of register k, if that has its turn in a test, and then by its home
pub record IsSpreadAt (test : Test) (turn : Turn) (k : ℕ) (old new : Known) : Type 0 where
  pub between : Known
  pub link : MaySpread (with_turn turn test.left test.right k (link_at old.links k)) k old between
  pub home : MaySpreadHome (home_at between.links k) k between new

-- it has spread so by each register's, in their order, up to register k
pub data IsSpreadBelow (test : Test) (turn : Turn) (old : Known) : ℕ → Known → Type 0 where
  Unspread : IsSpreadBelow test turn old 0 old
  SpreadOne : {k : ℕ} {between new : Known} → IsSpreadBelow test turn old k between → IsSpreadAt test turn k between new → IsSpreadBelow test turn old (k + 1) new

abbrev pub IsSpreadInTurn : Test → Turn → Known → Known → Type 0
IsSpreadInTurn test turn old new = IsSpreadBelow test turn old 11 new

-- ---- the whole

-- it has spread by the links that join the left number, then by those that join the right one, and then by all others, each time
-- by all homes, too
pub record IsSpreadToAll (test : Test) (old new : Known) : Type 0 where
  pub first : Known
  pub second : Known
  pub left : IsSpreadInTurn test Left old first
  pub right : IsSpreadInTurn test Right first second
  pub others : IsSpreadInTurn test Others second new

-- a test teaches of its two numbers, and then of those that are linked to them
pub record Teaches (test : Test) (answer : Bool) (old new : Known) : Type 0 where
  pub between : Known
  pub two : IsCompared test answer old between
  pub linked : IsSpreadToAll test between new

-- all states that are known and of which the test has the answer are known, and every shape
pub record KeepsAnswered (test : Test) (answer : Bool) (old new : Known) : Type 0 where
  pub states : (layout : Layout) (s : State) → StateFits InStates layout old s → test_answer test s ≡ Some answer → StateFits InStates layout new s
  pub shapes : (how : Reading) → is_exact how ≡ true → (layout : Layout) (s : State) → StateFits how layout old s → StateFits how layout new s

-- what is known where a test has an answer; None where it never has it
abbrev pub IsLearnt : Test → Bool → Known → Option Known → Type 0
IsLearnt test answer known None = (layout : Layout) (s : State) → StateFits InStates layout known s → test_answer test s ≢ Some answer
IsLearnt test answer known (Some new) = KeepsAnswered test answer known new × Teaches test answer known new

-- what a look at a test leaves, and whether it may have the answer
abbrev pub IsTested : Test → Bool → Known → Known → Bool → Type 0
IsTested test answer known new true = IsLearnt test answer known (Some new)
IsTested test answer known new false = IsLearnt test answer known None
