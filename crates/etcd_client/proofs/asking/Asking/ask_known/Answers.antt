use Rattle.std.proofs.Common.{rules, ◌≡◌, inl, inr}
use Rattle.std.specs.Prelude.{Err}
use Rattle.etcd_client.specs.Tries.{asker}
use Rattle.etcd_client.proofs.asking.Asking.ask_known.Goals as goal

pub returns-in_err-log_in-clause-known : goal.returns-in_err-log_in-clause-known
returns-in_err-log_in-clause-known g c =
    let fault = c.in_err-log_in.field-0.0 in
    let is : c.from_residual.result ≡ Err fault = search rules in
    inr (fault, (is, c.in_err-log_in.ensures.known))

pub returns-clause-known : goal.returns-clause-known
returns-clause-known g c =
    let mid = c.log_in.new.self in
    inl ((asker mid.access mid.at mid.token mid.log.log.tries), (c.in_ok-log_in.ensures.known, c.ask_once.ensures.once))
