use Rattle.std.proofs.Common.{true, false, ◌∙◌, ◌-◌, ap, sym, arith}
use Rattle.stack_state.proofs.Names.{touched, BlockPut, word_with}
use Rattle.stack_state.proofs.Stores.{no_part, word_put}
use Rattle.stack_state.proofs.block.Block.put.Goals as goal

pub returns : goal.returns
returns c =
    let some = c.requires.some in
    let put : BlockPut = record { from = c.args.from; to = c.args.to; span = c.args.span; value = c.args.value } in
    record {
      there = λ j ge lt. c.touched_marks.ensures.there j ge lt ∙ ap (touched c.args.span) (c.marks.ensures j (omega arith));
      others = λ j lt out. c.touched_marks.ensures.others j lt out ∙ c.marks.ensures j lt;
      torn = (c.args.from, omega arith, λ e. no_part c.args.span _ (sym (c.touched_marks.ensures.there c.args.from (omega arith) some) ∙ e));
      words = λ w x z hw hx h. record {
        word = word_with c.args.from (c.args.to - c.args.from) w x;
        has = c.with_part.ensures false w x (c.number.ensures.words false w hw) hx;
        same = λ j lt e. word_put put x w z some h j lt;
      };
      one = λ certain w x hw hx. c.with_part.ensures true w x (c.number.ensures.words true w hw) hx;
    }
