use Rattle.std.proofs.Common.{◌≡◌, ◌<◌, ◌≤◌, ◌+◌, length, true, false, inl, inr, arith}
use Rattle.endpoints.proofs.Names.{nat_tests}
use Rattle.endpoints.proofs.expiring.drop_portion.Goals as goal

pub returns : goal.returns
returns c =
    let was = c.kept-before.ensures in
    let is = c.kept.ensures in
    record {
      fits = c.drop_some.ensures.fits;
      all = λ none history fits. elim (c.drop_some.ensures.kept history fits) [
        | inl all ↦ all
        | inr fewer ↦ (let test : c.kept.result < c.kept-before.result = omega (arith, fewer, was, is) in absurd (grind (arith, nat_tests, none, test)))
      ];
      fewer = λ some. (let less : c.kept.result < c.kept-before.result = grind (arith, nat_tests, some) in omega (arith, less, was, is));
    }
