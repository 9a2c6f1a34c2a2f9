use Rattle.std.proofs.Common.{refl, ap, inl, ◌∙◌}
use Rattle.token_store.proofs.Names.{is_some, or_nothing, is_coded}
use Rattle.token_store.proofs.tables.Tables.expect.Goals as goal

pub returns-clause-expected : goal.returns-clause-expected
returns-clause-expected c =
    let here = c.in_ok-open_family.ensures.here in
    inl (record {
      coming = record { number = c.args.number; texts = c.args.texts };
      is = refl;
      number_is = refl;
      texts_are = refl;
      waits = record { there = ap is_some here; empty = ap (λ o. (or_nothing o).count) here ∙ c.requires.empty; alike = λ key. ap (is_coded key) here };
    })
