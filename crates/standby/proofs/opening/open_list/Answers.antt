use Rattle.std.proofs.Common.{◌≡◌, ◌<◌, rules}
use Rattle.std.specs.Prelude.{Err}
use Rattle.standby.specs.Opened.{memory, missing, untold, waiting}
use Rattle.standby.specs.declared.fault.ListFault.TheVariants.{Memory, Unclear}
use Rattle.standby.proofs.Leading.{opened_by}
use Rattle.standby.proofs.opening.open_list.Goals as goal

pub returns-in_err-access_of-clause-refused : goal.returns-in_err-access_of-clause-refused
returns-in_err-access_of-clause-refused g c =
    let is : c.from_residual.result ≡ Err Memory = search rules in
    rw is (waiting Memory memory)

pub returns-in_err-cluster-clause-refused : goal.returns-in_err-cluster-clause-refused
returns-in_err-cluster-clause-refused g c =
    let fault = c.in_err-cluster.field-0.0 in
    let is : c.from_residual-in_err-cluster.result ≡ Err fault = search rules in
    rw is (waiting fault c.in_err-cluster.ensures.stopped)

pub returns-in_err-file-clause-refused : goal.returns-in_err-file-clause-refused
returns-in_err-file-clause-refused g c =
    let is : c.from_residual-in_err-file.result ≡ Err Unclear = search rules in
    rw is (untold (_, c.in_ok-cluster.ensures.led.0))

pub returns-then-not-is_there-clause-refused : goal.returns-then-not-is_there-clause-refused
returns-then-not-is_there-clause-refused g c = missing (_, c.in_ok-cluster.ensures.led.0)

pub returns-clause-opened : goal.returns-clause-opened
returns-clause-opened g c =
    let led = c.in_ok-cluster.ensures.led in
    let there : 0 < c.in_ok-file.file.standing.version = search rules in
    opened_by _ _ _ c.new.result c.in_ok-file.file c.in_ok-cluster.cluster c.in_ok-cluster.led led.0 led.1 c.in_ok-file.ensures.server c.new.ensures.file c.new.ensures.told there
