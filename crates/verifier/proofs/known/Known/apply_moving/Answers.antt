use Rattle.verifier.proofs.Still.{moved_are_set, moving_next}
use Rattle.verifier.proofs.known.Known.apply_moving.Goals as goal

pub spread_behind-requires : goal.spread_behind-requires
spread_behind-requires c =
    moved_are_set c.args.layout c.args.insn c.args.self.now c.apply_still.new.self c.moved-moved.result c.set_any.new.self (rw c.action-action.ensures at c.moved-moved.ensures) c.set_any.ensures

pub returns : goal.returns
returns c =
    moving_next c.args.layout c.args.insn c.args.self.now c.apply_still.new.self c.moved-moved.result c.set_any.new.self (rw c.action-action.ensures at c.moved-moved.ensures) c.set_any.ensures c.spread_behind.new.self
    c.in_ok-apply_still.field-0 c.requires.sum c.spread_behind.ensures.narrowed c.spread_behind.ensures.spread c.in_ok-apply_still.ensures.kinds
