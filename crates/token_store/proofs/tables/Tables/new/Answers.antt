use Rattle.std.proofs.Common.{[], refl, arith}
use Rattle.shelf.specs.StandingLaws.{stand_once}
use Rattle.token_store.proofs.Names.{client_of, expiry, nat_tests, Ties}
use Rattle.token_store.proofs.tables.Tables.new.Goals as goal

pub returns-clause-tied : goal.returns-clause-tied
returns-clause-tied c =
    let once = stand_once expiry client_of c.new.result c.new.ensures.standing in
    let none : Ties [] [] [] 0 0 = record {
      once = rw c.new.ensures.empty at once;
      homed = λ d r at. cc;
      lasting = λ n t le. grind (arith, nat_tests);
      counted = λ n. refl;
      owned = λ key. refl;
      below = λ n over. refl;
    } in
    record { standing = c.new.ensures.standing; ties = rw (c.new.ensures.empty, c.new-2.ensures.empty, c.new-3.ensures.empty) none }
