use Rattle.std.proofs.Common.{◌≡◌, false, ◌∙◌, ℕ, ◌<◌, get_or, ap, sym, refl, subst}
use Rattle.stack_state.proofs.Names.{InScalar, Block, HasWord, block_mark, IsBlockJoin, common_mark}
use Rattle.stack_state.specs.declared.bytes.Bytes.{Bytes}
use Rattle.stack_state.specs.declared.block.Block.TheVariants as block
use Rattle.stack_state.specs.declared.mark.Mark.TheVariants.{Unset}
use Rattle.stack_state.proofs.block.Block.covers.Goals as goal

-- what is known of cells is known of a block
pub covered : (a b : Block) (bytes : Bytes) → a ≡ block.Cells bytes → ((j : ℕ) → j < 8 → block_mark (block.Cells bytes) j ≡ common_mark (block_mark (block.Cells bytes) j) (block_mark b j)) → ((w : ℕ) → HasWord b w → InScalar bytes.number w) → IsBlockJoin a b a
covered a b bytes e marks words = subst (λ (x : Block). IsBlockJoin x b x) (sym e) (record {
  apart = tt;
  marks = marks;
  left = λ w h. record { word = w; has = h; same = λ j lt is. refl };
  right = λ w h. record { word = w; has = words w h; same = λ j lt is. refl };
})

pub returns-then-covers_marks-clause-common : goal.returns-then-covers_marks-clause-common
returns-then-covers_marks-clause-common c = λ yes.
    covered c.args.self.now c.args.other.now c.in-Cells-default.bytes c.in-Cells-default.is-0
    (λ j lt. c.covers_marks.ensures.common c.if-covers_marks.true j lt ∙ ap (common_mark (get_or c.in-Cells-default.bytes.marks j Unset)) (c.marks.ensures j lt))
    (λ w h. c.covers-then-covers_marks.ensures.members yes w (c.number.ensures.words false w h))

pub returns-then-covers_marks-clause-itself : goal.returns-then-covers_marks-clause-itself
returns-then-covers_marks-clause-itself c = λ same set. c.covers-then-covers_marks.ensures.itself (c.number.ensures.cells c.in-Cells-default.bytes (same ∙ c.in-Cells-default.is-0))
