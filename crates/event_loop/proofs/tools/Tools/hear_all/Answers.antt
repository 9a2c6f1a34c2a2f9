use Rattle.std.proofs.Common.{◌+◌, arith, refl, subst, ◌∙◌, drop, add-one, drop-cons, ◌∷◌, ◌≡◌, List}
use Rattle.event_loop.proofs.Names.{drop_all, promises, Ready, LeadsToHearing, running, keeping}
use Rattle.event_loop.proofs.tools.Tools.hear_all.Goals as goal

pub loop-index-init : goal.loop-index-init
loop-index-init g c = record { hears = λ first past h rested. (h, rested); within = λ all. all; heard = refl }

pub loop-index-preserved : goal.loop-index-preserved
loop-index-preserved g c =
    let i = c.loop-index.index in
    let all = c.args.found.now in
    let cons : drop i all ≡ _ ∷ drop (i + 1) all = rw add-one (drop-cons all i _ (omega (arith, c.loop-index-test.true))) in
    let P : List Ready → Type 0 = λ l. LeadsToHearing (promises g.N.Sockets g.C.Clocks g.J.Journal (keeping g.K.Keeper) g.H.HookHost) c.args.found.now (running c.args.service.now c.args.self.now) l (running c.loop-index.service c.args.self.now) in
    let before = subst P cons c.loop-index.invariant.hears in
    record {
      hears = λ first past h rested.
          let told = before first past h rested in
          c.hear.ensures.hears (drop (i + 1) all) first past told.0 told.1;
      within = λ was. c.hear.ensures.within (c.loop-index.invariant.within was);
      heard = c.hear.ensures.heard ∙ c.loop-index.invariant.heard;
    }

pub returns-clause-hears : goal.returns-clause-hears
returns-clause-hears g c =
    let P : List Ready → Type 0 = λ l. LeadsToHearing (promises g.N.Sockets g.C.Clocks g.J.Journal (keeping g.K.Keeper) g.H.HookHost) c.args.found.now (running c.args.service.now c.args.self.now) l (running c.loop-index.service c.args.self.now) in
    subst P (drop_all c.loop-index.index c.args.found.now c.loop-index-test.false) c.loop-index.invariant.hears

pub returns-clause-within : goal.returns-clause-within
returns-clause-within g c = c.loop-index.invariant.within
