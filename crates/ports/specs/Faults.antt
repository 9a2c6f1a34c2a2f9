-- Why there is no socket at an address.
use Rattle.std.specs.declared.io.ErrorKind.{ErrorKind}
use Rattle.std.specs.declared.io.ErrorKind.TheVariants as kinds
use Rattle.ports.specs.declared.fault.SocketFault.{SocketFault}
use Rattle.ports.specs.declared.fault.SocketFault.TheVariants.{NoAddress, AddressInUse, AddressNotAvailable, PermissionDenied, Other}

-- the fault of a kind of error
abbrev pub socket_fault : ErrorKind → SocketFault
socket_fault kinds.InvalidInput = NoAddress
socket_fault kinds.AddrInUse = AddressInUse
socket_fault kinds.AddrNotAvailable = AddressNotAvailable
socket_fault kinds.PermissionDenied = PermissionDenied
socket_fault kind = Other
