use Rattle.std.specs.Net.ToAddrs.{host_addrs}
use Rattle.standby.specs.Members.{memory}
use Rattle.standby.proofs.Named.{address_read, addresses_all, nowhere_by, where_by}
use Rattle.standby.proofs.addresses.push_host.Goals as goal

pub returns-in_default-clause-refused : goal.returns-in_default-clause-refused
returns-in_default-clause-refused g c = nowhere_by c.args.host.now c.to_socket_addrs.result _ c.to_socket_addrs.ensures.gives c.in_default.is

pub loop-address-preserved : goal.loop-address-preserved
loop-address-preserved g c =
    rw c.in-Ok-push.ensures.items
    (address_read c.args.found.now.items c.loop-address.found.items c.loop-address.address-iterator c.next.new.self c.in-Some.address _ c.in-Some.ensures.steps c.loop-address.invariant)

pub returns-in_default-push-clause-refused : goal.returns-in_default-push-clause-refused
returns-in_default-push-clause-refused g c = memory

pub returns-clause-pushed : goal.returns-clause-pushed
returns-clause-pushed g c = (
  host_addrs c.in-Ok.addresses,
  where_by c.args.host.now c.to_socket_addrs.result c.in-Ok.addresses c.to_socket_addrs.ensures.gives c.in-Ok.is,
  addresses_all c.args.found.now.items c.loop-address.found.items c.loop-address.address-iterator c.next.new.self c.into_iter-address-iterator.result c.in-Ok.addresses c.in-None.ensures.steps c.loop-address.invariant c.into_iter-address-iterator.ensures.into_iter_gives,
)
