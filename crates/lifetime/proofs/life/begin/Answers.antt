use Rattle.std.proofs.Common.{sym}
use Rattle.lifetime.proofs.Names.{given, life_promises, is_ahead}
use Rattle.lifetime.proofs.Living.{stopped, unopened, unsettled}
use Rattle.lifetime.proofs.life.begin.Goals as goal

pub returns-in-Some-clause-lives : goal.returns-in-Some-clause-lives
returns-in-Some-clause-lives g c bytes registry hooks is =
    rw c.of.ensures (is_ahead (record { plan = c.args.plan; now = c.read-now.result; clocks = c.read-now.new.self }) c.in-Some.seconds (record { plan_is = is; told = c.read-now.ensures })
    (sym (rw (c.in-Some.is, c.moment.ensures) at c.too_far.ensures)))

pub returns-in-Err-clause-lives : goal.returns-in-Err-clause-lives
returns-in-Err-clause-lives g c bytes registry hooks is =
    rw c.of-in-Err.ensures (unsettled (life_promises g.D.Device g.N.Sockets g.C.Clocks g.J.Journal) g.met.D.Device.only_now g.met.D.Device.only_true (given c.args.device bytes registry hooks c.args.means)
    (record { plan = c.args.plan; now = c.read-now.result; clocks = c.read-now.new.self }) (record { plan_is = is; told = c.read-now.ensures })
    (sym (rw (c.in_default.is, c.moment.ensures) at c.too_far.ensures)) c.settle.new.journal
    c.in-Err.field-0.fault c.in-Err.field-0.device c.in-Err.ensures.refused c.in-Err.ensures.untouched c.in-Err.ensures.lost c.in-Err.ensures.told_before)

pub returns-then-is_err-clause-lives : goal.returns-then-is_err-clause-lives
returns-then-is_err-clause-lives g c bytes registry hooks is =
    rw (c.of-then-is_err.ensures, c.into_device.ensures) (unopened (life_promises g.D.Device g.N.Sockets g.C.Clocks g.J.Journal) g.met.D.Device.only_now g.met.D.Device.only_true (given c.args.device bytes registry hooks c.args.means)
    (record { plan = c.args.plan; now = c.read-now.result; clocks = c.read-now.new.self }) (record { plan_is = is; told = c.read-now.ensures })
    (sym (rw (c.in_default.is, c.moment.ensures) at c.too_far.ensures)) c.settle.new.journal c.in-Ok.started.keeper c.in-Ok.ensures.put c.in-Ok.ensures.told)

pub returns-clause-lives : goal.returns-clause-lives
returns-clause-lives g c bytes registry hooks is =
    rw (c.fault-why.ensures, c.into_device-2.ensures) (stopped (life_promises g.D.Device g.N.Sockets g.C.Clocks g.J.Journal) g.met.D.Device.only_now g.met.D.Device.only_true (given c.args.device bytes registry hooks c.args.means)
    (record { plan = c.args.plan; now = c.read-now.result; clocks = c.read-now.new.self }) (record { plan_is = is; told = c.read-now.ensures })
    (sym (rw (c.in_default.is, c.moment.ensures) at c.too_far.ensures)) c.settle.new.journal c.in-Ok.started.keeper c.in-Ok.ensures.put c.in-Ok.ensures.told
    c.in-Ok.started.server c.new-edge.result c.serve_by-fault.result c.in-Ok.ensures.server c.new-edge.ensures.resumed c.serve_by-fault.ensures)
