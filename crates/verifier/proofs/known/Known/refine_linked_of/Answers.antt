use Rattle.verifier.proofs.Names.{IsNarrowedOrNone}
use Rattle.verifier.proofs.States.{narrowed_then, not_narrowed, unspread}
use Rattle.verifier.proofs.known.Known.refine_linked_of.Goals.{else-refine_linked, then-refine_linked}
use Rattle.verifier.proofs.known.Known.refine_linked_of.Goals as goal

pub returns-then-not-any-clause-narrowed : goal.returns-then-not-any-clause-narrowed
returns-then-not-any-clause-narrowed c = not_narrowed c.args.self.now

pub returns-then-not-any-clause-spread : goal.returns-then-not-any-clause-spread
returns-then-not-any-clause-spread c e = unspread c.args.test c.args.self.now (rw c.any.ensures at c.if-not-any.true)

pub returns-else-refine_linked-2-clause-narrowed : goal.returns-else-refine_linked-2-clause-narrowed
returns-else-refine_linked-2-clause-narrowed c =
    elim c.if-refine_linked.branch [
      | then-refine_linked w ↦
          rw (w.self-is, w.value-is) (
          narrowed_then c.args.self.now c.refine_linked.new.self w.refine_linked-then-refine_linked.new.self w.refine_linked-then-refine_linked.result (rw w.if-refine_linked.true at c.refine_linked.ensures.narrowed) w.refine_linked-then-refine_linked.ensures.narrowed
          )
      | else-refine_linked w ↦ rw (w.self-is, w.value-is) c.refine_linked.ensures.narrowed
    ]

pub returns-then-refine_linked-2-clause-narrowed : goal.returns-then-refine_linked-2-clause-narrowed
returns-then-refine_linked-2-clause-narrowed c =
    let two : IsNarrowedOrNone c.args.self.now c.if-refine_linked.self c.if-refine_linked.value = elim c.if-refine_linked.branch [
      | then-refine_linked w ↦
          rw (w.self-is, w.value-is) (
          narrowed_then c.args.self.now c.refine_linked.new.self w.refine_linked-then-refine_linked.new.self w.refine_linked-then-refine_linked.result (rw w.if-refine_linked.true at c.refine_linked.ensures.narrowed) w.refine_linked-then-refine_linked.ensures.narrowed
          )
      | else-refine_linked w ↦ rw (w.self-is, w.value-is) c.refine_linked.ensures.narrowed
    ] in
    narrowed_then c.args.self.now c.if-refine_linked.self c.refine_linked-then-refine_linked-2.new.self c.refine_linked-then-refine_linked-2.result (rw c.if-refine_linked-2.true at two) c.refine_linked-then-refine_linked-2.ensures.narrowed
