use Rattle.std.proofs.Common.{List, ℕ, length, ◌∙◌, sym, ap, subst}
use Rattle.batch_file.specs.Frames.{recovered, IsRightFront}
use Rattle.batch_file.specs.FramesLaws.{one_front, front_of_file}
use Rattle.batch_file.proofs.Walking.{front_is_right, front_whole}
use Rattle.batch_file.proofs.framing.right_front.Goals as goal

pub of-requires : goal.of-requires
of-requires c = (front_whole _ _ _ c.args.bytes.now c.in_ok-whole.whole.items c.in_ok-front.ensures.front.0 c.in_ok-whole.ensures).0

pub returns-clause-front : goal.returns-clause-front
returns-clause-front c =
    let bytes = c.args.bytes.now in
    let same = c.of.ensures ∙ (front_whole _ _ _ bytes c.in_ok-whole.whole.items c.in_ok-front.ensures.front.0 c.in_ok-whole.ensures).1 in
    subst (λ (batches : List (List ℕ)). IsRightFront batches bytes) (sym same) (front_is_right _ _ _ bytes c.in_ok-front.ensures.front)

pub returns-clause-damaged : goal.returns-clause-damaged
returns-clause-damaged c = λ number d. ap length (one_front c.of.result d.batches c.args.bytes.now (returns-clause-front c) d.front).0 ∙ d.count

pub returns-clause-readable : goal.returns-clause-readable
returns-clause-readable c = λ readable.
    let bytes = c.args.bytes.now in
    (one_front c.of.result (recovered bytes) bytes (returns-clause-front c) (front_of_file (recovered bytes) bytes readable)).0
