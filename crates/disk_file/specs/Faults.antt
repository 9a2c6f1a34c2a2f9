-- Which fault an error of the system is, where a file is opened or made.
use Rattle.std.specs.IoError.{error_kind}
use Rattle.std.specs.declared.io.Error.{Error}
use Rattle.std.specs.declared.io.ErrorKind.{ErrorKind}
use Rattle.std.specs.declared.io.ErrorKind.TheVariants as kinds
use Rattle.std.specs.declared.fs.locks.TryLockError.{TryLockError}
use Rattle.std.specs.declared.fs.locks.TryLockError.TheVariants as lock
use Rattle.system_faults.specs.declared.SystemFault.{SystemFault}
use Rattle.system_faults.specs.Faults.{system_fault}
use Rattle.disk_file.specs.declared.faults.OpenFault.{OpenFault}
use Rattle.disk_file.specs.declared.faults.OpenFault.TheVariants as opening
use Rattle.disk_file.specs.declared.faults.MakeFault.{MakeFault}
use Rattle.disk_file.specs.declared.faults.MakeFault.TheVariants as making

-- why a file is not opened, by the error that the system gave; one that is not there has a name of its own
abbrev pub of_kind : ErrorKind → SystemFault → OpenFault
of_kind kinds.OutOfMemory reason = opening.Memory
of_kind kinds.NotFound reason = opening.Missing
of_kind kind reason = opening.Open reason

abbrev pub of_error : Error → OpenFault
of_error error = of_kind (error_kind error) (system_fault error)

-- a lock that another holds is InUse
abbrev pub of_lock : TryLockError → OpenFault
of_lock lock.WouldBlock = opening.InUse
of_lock (lock.Error error) = of_error error

-- why a file is not made; where something is there, that has a name of its own
abbrev pub of_making_kind : ErrorKind → SystemFault → MakeFault
of_making_kind kinds.OutOfMemory reason = making.Memory
of_making_kind kinds.AlreadyExists reason = making.Exists
of_making_kind kind reason = making.Make reason

abbrev pub of_making : Error → MakeFault
of_making error = of_making_kind (error_kind error) (system_fault error)
