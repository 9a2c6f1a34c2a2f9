use Rattle.std.proofs.Common.{◌≤◌, ◌<◌, refl, inl, inr, ◌∙◌, arith}
use Rattle.token_store.proofs.Looking.{same_on}
use Rattle.token_store.proofs.tables.Tables.drop_some.Goals as goal

pub loop-left-init : goal.loop-left-init
loop-left-init c = record { tied = c.requires; last = refl; same = record { finds = λ d t le. refl; counts = λ t le. refl }; fewer = refl }

pub overflow_sub-left : goal.overflow_sub-left
overflow_sub-left c = let one = c.in-Some.ensures.one in let some = c.loop-left-test.true in omega (arith, one, some)

pub loop-left-preserved : goal.loop-left-preserved
loop-left-preserved c =
    let was = c.loop-left.invariant in
    let e = c.look_once.ensures in
    let gone = c.in-Some.ensures.fewer in
    let one = c.in-Some.ensures.one in
    let some = c.loop-left-test.true in
    let before = was.fewer in
    record { tied = e.tied; last = e.last ∙ was.last; same = same_on _ _ _ c.args.moment was.same e.same; fewer = omega (arith, gone, before, one, some) }

pub returns-in_default : goal.returns-in_default
returns-in_default c =
    let was = c.loop-left.invariant in
    let e = c.look_once.ensures in
    record { tied = e.tied; last = e.last ∙ was.last; same = same_on _ _ _ c.args.moment was.same e.same; live = inl c.in_default.ensures.live }

pub returns : goal.returns
returns c =
    let was = c.loop-left.invariant in
    let before = was.fewer in
    let over = c.loop-left-test.false in
    record { tied = was.tied; last = was.last; same = was.same; live = inr (omega (arith, before, over)) }
