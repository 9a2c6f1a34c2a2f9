use Rattle.std.proofs.Common.{◌≡◌, List, ℕ, length, ◌-◌, set, ap, subst, sym, ◌∙◌, ◌++◌, ◌∷◌, [], rules}
use Rattle.batch_file.specs.Frames.{IsWhole}
use Rattle.batch_file.proofs.Wholes.{added}
use Rattle.batch_file.proofs.frames.Frames.add.Goals as goal

pub invariant_of-self-2 : goal.invariant_of-self-2
invariant_of-self-2 c =
    let at : c.len-end.result - 1 ≡ length c.self.inside.bytes.items - 1 = search rules in
    let both = added (c.len-end.result - 1) c.self.inside.last c.self.inside.bytes.items c.args.batch.now c.head_of-head.result.bytes c.write_behind.new.bytes.items c.self.invariant c.if-batch-ge-MAX_BATCH.false c.head_of-head.ensures.bytes c.in_ok-write_behind.ensures.ok at in
    subst (λ (l : List ℕ). IsWhole l (set c.write_behind.new.bytes.items (c.len-end.result - 1) 255)) (sym c.head_of-head.ensures.digest) both.0

pub returns-clause-added : goal.returns-clause-added
returns-clause-added c =
    let at : c.len-end.result - 1 ≡ length c.self.inside.bytes.items - 1 = search rules in
    let both = added (c.len-end.result - 1) c.self.inside.last c.self.inside.bytes.items c.args.batch.now c.head_of-head.result.bytes c.write_behind.new.bytes.items c.self.invariant c.if-batch-ge-MAX_BATCH.false c.head_of-head.ensures.bytes c.in_ok-write_behind.ensures.ok at in
    both.1 ∙ ap (λ (l : List (List ℕ)). l ++ c.args.batch.now ∷ []) c.self.view_is
