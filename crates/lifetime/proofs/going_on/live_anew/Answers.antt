use Rattle.std.proofs.Common.{⊎_elim, sym, ◌∙◌, ◌≡◌}
use Rattle.event_loop.specs.EndsLaws.{blamed_failed}
use Rattle.outside.specs.declared.fault.LoopFault.{LoopFault}
use Rattle.outside.specs.declared.fault.LoopFault.TheVariants.{Clock, Keep}
use Rattle.hook_chain.specs.contracts.chain.ChainHookHost.TheImpl as chain
use Rattle.lifetime.specs.Anew.{has_stopped, keeping_nothing}
use Rattle.lifetime.specs.Names.{promises}
use Rattle.lifetime.proofs.going_on.live_anew.Goals as goal

pub returns-clause-life : goal.returns-clause-life
returns-clause-life g c =
    let begun = c.new-edge.ensures.begun (record { rules = c.args.registry; first = c.args.hooks }) c.new.ensures.fits c.new.ensures.notes in
    has_stopped (record {}) c.serve_by-fault.result (record { edge = c.new-edge.result; begun = begun; served = c.serve_by-fault.ensures _ begun })

pub returns-clause-unblamed : goal.returns-clause-unblamed
returns-clause-unblamed g c = λ is.
    let begun = c.new-edge.ensures.begun (record { rules = c.args.registry; first = c.args.hooks }) c.new.ensures.fits c.new.ensures.notes in
    let p = promises g.N.Sockets g.C.Clocks g.J.Journal keeping_nothing chain.ghosts in
    ⊎_elim (λ served. blamed_failed p _ c.serve_by-fault.result.fault c.serve_by-fault.result.tools served is)
    (λ nothing. (let both : Clock ≡ Keep = sym nothing.is_clock ∙ is in absurd (cc))) (c.serve_by-fault.ensures _ begun)
