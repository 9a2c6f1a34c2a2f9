use Rattle.std.proofs.Common.{◌≡◌, ◌++◌}
use Rattle.std.specs.Net.ToAddrs.{host_addrs}
use Rattle.standby.proofs.addresses.push_host.Given as goal

abbrev pub invariant-loop-address : goal.invariant-loop-address
invariant-loop-address g l = l.found.items ++ host_addrs l.address-iterator ≡ l.initial.found.items ++ host_addrs l.initial.address-iterator
