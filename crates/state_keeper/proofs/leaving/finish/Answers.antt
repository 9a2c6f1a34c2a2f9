use Rattle.std.proofs.Common.{◌∷◌, [], List, subst}
use Rattle.state_keeper.proofs.Names.{Event, dated_fact}
use Rattle.state_keeper.proofs.Stayed.{finished, stays_then}
use Rattle.state_keeper.specs.PassingParts.{StaysLeft}
use Rattle.state_keeper.proofs.leaving.finish.Goals as goal

pub returns-clause-finished : goal.returns-clause-finished
returns-clause-finished g c = λ written was.
    let one = c.in_ok-put_out.ensures.put written was in
    let two = c.in_ok-gather_some.ensures.gathered one.0 one.1 in
    let three = c.in_ok-put_out-2.ensures.put two.0 two.1 in
    let four = c.in_ok-put_horizon.ensures.put three.0 three.1 in
    let number : Event = dated_fact c.numbered-number.result in
    let out : StaysLeft [] (number ∷ []) [] one.0 three.0 =
    subst (λ (es : List Event). StaysLeft es (number ∷ []) [] one.0 three.0) c.in_ok-put_out.ensures.none
    (stays_then c.put_out.new.batch.facts (number ∷ []) c.gather_some.new.batch.facts [] [] one.0 two.0 three.0 two.2 three.2) in (
      four.0,
      four.1,
      finished c.args.course.now c.args.batch.facts number written one.0 three.0 four.0 c.numbered-number.ensures one.2 out four.2,
    )
