use Rattle.std.proofs.Common.{rules, ◌<◌, ◌^◌, length, map, subst, arith}
use Rattle.std.specs.Prelude.{IsTrue}
use Rattle.std.proofs.lemmas.List.{length-map}
use Rattle.std.proofs.lemmas.List.Elements.{All-more}
use Rattle.rules_codec.proofs.Loops.{facts_after, each_of}
use Rattle.rules_codec.proofs.counting.list_counts.Goals as goal

pub returns-then-not-counts : goal.returns-then-not-counts
returns-then-not-counts g c = (
  λ f. absurd cc,
  λ all.
      let v = g.T.Counted.fact in
      let here : g.T.Counted.spelled.Counts (v c.item-item.result) = rw c.item-item.is (each_of v g.T.Counted.spelled.Counts c.args.items.now all.1 c.loop-item.item-index c.item-item.result c.loop-item-test.true) in
      let yes : IsTrue c.counts.result = c.counts.ensures.1 here in
      search rules,
)

pub loop-item-preserved : goal.loop-item-preserved
loop-item-preserved g c =
    All-more (λ x. g.T.Counted.spelled.Counts (g.T.Counted.fact x)) c.args.items.now c.loop-item.item-index c.item-item.result c.loop-item-test.true c.loop-item.invariant
    (subst (λ x. g.T.Counted.spelled.Counts (g.T.Counted.fact x)) c.item-item.is (c.counts.ensures.0 c.if-not-counts.false))

pub returns : goal.returns
returns g c =
    let v = g.T.Counted.fact in
    let few : length (map v c.args.items.now) < 2 ^ 32 = rw length-map (omega arith) in
    (λ t. (few, facts_after v g.T.Counted.spelled.Counts c.args.items.now c.loop-item.item-index c.loop-item-test.false c.loop-item.invariant), λ s. search rules)
