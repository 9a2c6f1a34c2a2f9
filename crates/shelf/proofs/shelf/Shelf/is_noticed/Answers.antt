use Rattle.std.proofs.Common.{◌≡◌, ◌+◌, ◌==◌, ◌∙◌, Bool, true, false, ap, refl, sym, arith}
use Rattle.std.specs.Prelude.{is_some, not}
use Rattle.std.proofs.lemmas.Bool.Decides.{nat_tests}
use Rattle.chains.specs.ChainedLaws.{first_left}
use Rattle.shelf.specs.Shelved.{pending, pending_left}
use Rattle.shelf.proofs.shelf.Shelf.is_noticed.Goals as goal

not_same : (a b : Bool) → not a ≡ not b → a ≡ b
not_same true true is = refl
not_same true false is = cc
not_same false true is = cc
not_same false false is = refl

pub returns-then-self-get : goal.returns-then-self-get
returns-then-self-get g c =
    let old = c.args.self.now in
    let shelved = c.requires.shelved in
    let all = shelved.all in
    let at : old.second ≡ c.args.moment + 1 = (let test = c.if-self-get.true in let got = c.get.ensures.value in omega (arith, test, got)) in
    let same : (old.second == (c.args.moment + 1)) ≡ true = grind (arith, nat_tests, at) in
    let left = sym c.is_none.ensures ∙ ap is_some (c.first.ensures c.requires.timer shelved.timed) ∙ first_left shelved.timed pending (omega (arith, all)) in
    not_same c.is_none.result (pending_left old == 0) left ∙ sym (rw same refl)
