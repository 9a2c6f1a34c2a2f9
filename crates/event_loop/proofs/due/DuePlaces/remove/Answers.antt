use Rattle.std.proofs.Common.{◌≡◌, ◌<◌, ◌-◌, arith, false, inl, inr, length, refl, rules, subst, sym, Some, ap, ◌∙◌, slice_get}
use Rattle.event_loop.proofs.Names.{slice_get-get_or, eqb_tells}
use Rattle.event_loop.proofs.Putting.{put_more}
use Rattle.event_loop.proofs.due.DuePlaces.remove.Goals as goal

pub loop-self-init : goal.loop-self-init
loop-self-init c = (refl, c.self.invariant.0, λ k from less. put_more c.self.inside.flags c.args.k k false (c.self.invariant.1 k from less))

pub loop-self-preserved : goal.loop-self-preserved
loop-self-preserved c =
    let last = c.loop-self.self-inside.end - 1 in
    let size : last < length c.loop-self.self-inside.flags = search (rules, arith) in (
      c.loop-self.invariant.0,
      omega (arith, c.loop-self.invariant.1),
      λ k from less.
          elim (eqb_tells k last) [
            | inl same ↦ subst (λ i. slice_get c.loop-self.self-inside.flags i ≡ Some false) (sym same.1)
                (slice_get-get_or c.loop-self.self-inside.flags last false size ∙ ap Some c.if-not-self.true)
            | inr other ↦ c.loop-self.invariant.2 k (omega (arith, from, other.1, c.loop-self-test.true)) less
          ],
    )
