use Rattle.std.proofs.Common.{arith, refl}
use Rattle.reg_kind.specs.declared.reg.Reg.TheVariants as kind
use Rattle.verifier.specs.declared.known.Known.{Known}
use Rattle.std.proofs.lemmas.List.{get_or_default}
use Rattle.verifier.proofs.States.{fits_none, narrowed_by}
use Rattle.verifier.proofs.known.Known.refine_by.Goals as goal

pub returns-in-Some-clause-narrowed : goal.returns-in-Some-clause-narrowed
returns-in-Some-clause-narrowed c =
    let new : Known = record { registers = _; stack = c.set.new.self.stack; links = c.set.new.self.links } in
    narrowed_by c.args.self.now c.args.number c.args.link c.requires.inside c.requires.own new c.in-Some.of c.in-Some.register c.set.ensures.eleven
    (rw (c.register.ensures, get_or_default c.args.self.now.registers c.args.number c.index-self-number.result kind.Unset (let e = c.set.ensures.eleven in let i = c.requires.inside in omega arith)) at c.in-Some.ensures.right)
    (rw c.set.ensures.registers refl) c.set.ensures.stack c.set.ensures.links

pub returns-in-None-clause-narrowed : goal.returns-in-None-clause-narrowed
returns-in-None-clause-narrowed c =
    fits_none c.args.self.now c.args.number c.args.link c.requires.inside c.requires.own
    (rw (c.register.ensures, get_or_default c.args.self.now.registers c.args.number c.index-self-number.result kind.Unset (let e = c.type_inv.self in let i = c.requires.inside in omega arith)) at c.in-None.ensures.right)

pub returns-in-Some-clause-spread : goal.returns-in-Some-clause-spread
returns-in-Some-clause-spread c e = record {
  both = (c.in-Some.of, c.in-Some.register);
  narrowed = rw (c.register.ensures, get_or_default c.args.self.now.registers c.args.number c.index-self-number.result kind.Unset (let e = c.set.ensures.eleven in let i = c.requires.inside in omega arith)) at c.in-Some.ensures.kinds;
  registers = rw c.set.ensures.registers refl;
  stack = c.set.ensures.stack;
  links = c.set.ensures.links;
}
