use Rattle.std.proofs.Common.{inl}
use Rattle.links.specs.Links.{links_in}
use Rattle.verifier.specs.Learnt.{ByNone}
use Rattle.verifier.proofs.States.{narrowed_either, spread_first}
use Rattle.verifier.proofs.known.Known.spread_behind.Goals as goal

pub refine_by-requires-clause-inside : goal.refine_by-requires-clause-inside
refine_by-requires-clause-inside c = c.in-Some.ensures.some.inside

pub refine_by-requires-clause-own : goal.refine_by-requires-clause-own
refine_by-requires-clause-own c = c.requires c.in-Some.number c.in-Some.ensures.some.inside c.in-Some.link c.in-Some.ensures.some.own

pub returns-in-Some-clause-narrowed : goal.returns-in-Some-clause-narrowed
returns-in-Some-clause-narrowed c = narrowed_either c.args.self.now c.refine_by.new.self c.refine_by.result c.refine_by.ensures.narrowed c.refine_by.ensures.same

pub returns-in-Some-clause-spread : goal.returns-in-Some-clause-spread
returns-in-Some-clause-spread c =
    spread_first (links_in c.args.moved.now) c.in-Some.number c.in-Some.link c.args.self.now c.refine_by.new.self c.refine_by.result c.in-Some.ensures.some
    c.refine_by.ensures.narrowed c.refine_by.ensures.spread c.refine_by.ensures.same

pub returns-in-None-clause-spread : goal.returns-in-None-clause-spread
returns-in-None-clause-spread c = ByNone (inl c.in-None.ensures.none)
