use Rattle.std.proofs.Common.{refl, ◌∙◌}
use Rattle.token_store.proofs.Looking.{same_on}
use Rattle.token_store.proofs.tables.Tables.drop_expired.Goals as goal

pub loop-init : goal.loop-init
loop-init c = record { tied = c.requires; last = refl; coming = refl; same = record { finds = λ d t le. refl; counts = λ t le. refl }; stay = λ is n. refl }

pub loop-preserved : goal.loop-preserved
loop-preserved c =
    let was = c.loop.invariant in
    let e = c.look_once.ensures in
    record { tied = e.tied; last = e.last ∙ was.last; coming = e.coming ∙ was.coming; same = same_on _ _ _ c.args.moment was.same e.same; stay = λ is n. e.stay is n ∙ was.stay is n }

pub returns : goal.returns
returns c =
    let was = c.loop.invariant in
    let e = c.look_once.ensures in
    record {
      tied = e.tied;
      last = e.last ∙ was.last;
      coming = e.coming ∙ was.coming;
      same = same_on _ _ _ c.args.moment was.same e.same;
      live = c.in_default.ensures.live;
      stay = λ is n. e.stay is n ∙ was.stay is n;
    }
