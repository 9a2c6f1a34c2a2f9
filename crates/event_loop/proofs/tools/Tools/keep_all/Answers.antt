use Rattle.event_loop.proofs.tools.Tools.keep_all.Goals as goal

pub returns-clause-kept : goal.returns-clause-kept
returns-clause-kept g c = λ first found past undone h reached.
    let y = c.in_default.ensures.kept first found past undone h reached in
    let z = c.hand_on.ensures first found c.args.service.now y.next y.kept y.served in
    record {
      goes = record { next = y.next; served = z.served; kept = y.kept; confirmed = y.confirmed; connections = y.connections; done = y.done; alone = y.alone };
      told = z.told;
    }
