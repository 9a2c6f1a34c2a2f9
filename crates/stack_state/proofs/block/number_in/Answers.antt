use Rattle.std.proofs.Common.{◌≡◌, ℕ, arith}
use Rattle.stack_state.proofs.Names.{AmountFits, Scalar, Reg, Whole, WordIn}
use Rattle.reg_kind.specs.declared.reg.Reg.TheVariants.{Number}
use Rattle.stack_state.proofs.ByteParts.{known}
use Rattle.stack_state.proofs.block.number_in.Goals as goal

-- a value that is no number has no word but 0
no_word : (Has : Scalar → ℕ → Type 0) (value : Reg) (w : ℕ) → ((a : Scalar) → value ≡ Number a → ⊥) → WordIn Has (Whole value) w → w ≡ 0
no_word Has value w none h = grind (arith, none)

pub returns : goal.returns
returns c exact w h = rw (no_word (AmountFits exact) c.args.value w c.in_default.not-Number h) (known exact c.exact.result 0 c.exact.ensures.alone c.exact.ensures.single)
