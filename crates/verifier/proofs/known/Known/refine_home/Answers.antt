use Rattle.std.proofs.Common.{arith}
use Rattle.reg_kind.specs.declared.reg.Reg.TheVariants as kind
use Rattle.std.proofs.lemmas.List.{get_or_default}
use Rattle.verifier.proofs.States.{home_narrowed, none_same}
use Rattle.verifier.proofs.known.Known.refine_home.Goals as goal

pub returns-in-Some-clause-narrowed : goal.returns-in-Some-clause-narrowed
returns-in-Some-clause-narrowed c =
    let found = rw c.in-Some-Number.is-0 at c.whole_number.ensures.found in
    let here = rw (get_or_default c.args.self.now.registers c.args.number c.index-self-number.result kind.Unset (let e = c.set_both.ensures.eleven in let i = c.requires.inside in omega arith)) at c.in-Some-Number.is-1 in
    home_narrowed c.args.self.now c.args.block c.args.number c.in-Some-Number.stored c.in-Some-Number.held found.0 c.requires.inside c.requires.own found.1 here c.set_both.new.self c.in-Some.stored c.in-Some.held
    c.set_both.ensures.eleven c.in-Some.ensures.right c.set_both.ensures.registers c.set_both.ensures.there c.set_both.ensures.others c.set_both.ensures.links

pub returns-in-None-clause-narrowed : goal.returns-in-None-clause-narrowed
returns-in-None-clause-narrowed c =
    let found = rw c.in-Some-Number.is-0 at c.whole_number.ensures.found in
    let here = rw (get_or_default c.args.self.now.registers c.args.number c.index-self-number.result kind.Unset (let e = c.type_inv.self in let i = c.requires.inside in omega arith)) at c.in-Some-Number.is-1 in
    none_same c.args.self.now c.args.block c.args.number c.in-Some-Number.stored c.in-Some-Number.held found.0 c.requires.inside c.requires.own found.1 here c.in-None.ensures.right

pub returns-in-Some-clause-spread : goal.returns-in-Some-clause-spread
returns-in-Some-clause-spread c e =
    let found = rw c.in-Some-Number.is-0 at c.whole_number.ensures.found in
    let here = rw (get_or_default c.args.self.now.registers c.args.number c.index-self-number.result kind.Unset (let e = c.set_both.ensures.eleven in let i = c.requires.inside in omega arith)) at c.in-Some-Number.is-1 in
    rw (found.1, here) (record {
      both = (c.in-Some.stored, c.in-Some.held);
      narrowed = c.in-Some.ensures.narrowed;
      registers = c.set_both.ensures.registers;
      there = c.set_both.ensures.there;
      others = c.set_both.ensures.others;
      links = c.set_both.ensures.links;
    })
