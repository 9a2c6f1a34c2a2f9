use Rattle.std.proofs.Common.{◌≡◌, ◌++◌, rules}
use Rattle.standby.specs.Members.{scheme}
use Rattle.standby.proofs.Named.{plain_host}
use Rattle.standby.proofs.addresses.host_in.Goals as goal

pub returns-in-None-clause-named : goal.returns-in-None-clause-named
returns-in-None-clause-named c =
    let is : c.args.url.now ≡ scheme ++ c.in_ok-host.host.now = search rules in
    plain_host c.args.url.now c.in_ok-host.host.now c.strip_suffix.result is c.strip_suffix.ensures.cases c.in-None.is
