-- Which fault an error of the system is.
use Rattle.std.specs.Prelude.{ℤ, pos, Option, Some, None, if◌then◌else◌}
use Rattle.std.specs.Ordering.{int_eq}
use Rattle.std.specs.IoError.{error_kind, raw_os_error}
use Rattle.std.specs.declared.io.Error.{Error}
use Rattle.std.specs.declared.io.ErrorKind.{ErrorKind}
use Rattle.std.specs.declared.io.ErrorKind.TheVariants as kinds
use Rattle.system_faults.specs.declared.SystemFault.{SystemFault}
use Rattle.system_faults.specs.declared.SystemFault.TheVariants as system

-- the fault of a kind of error
abbrev pub fault_of_kind : ErrorKind → SystemFault
fault_of_kind kinds.NotFound = system.NotFound
fault_of_kind kinds.PermissionDenied = system.PermissionDenied
fault_of_kind kinds.AlreadyExists = system.AlreadyExists
fault_of_kind kinds.NotADirectory = system.NotADirectory
fault_of_kind kinds.IsADirectory = system.IsADirectory
fault_of_kind kinds.ReadOnlyFilesystem = system.ReadOnlyFilesystem
fault_of_kind kinds.FilesystemLoop = system.FilesystemLoop
fault_of_kind kinds.StorageFull = system.StorageFull
fault_of_kind kinds.QuotaExceeded = system.QuotaExceeded
fault_of_kind kinds.FileTooLarge = system.FileTooLarge
fault_of_kind kinds.ResourceBusy = system.ResourceBusy
fault_of_kind kinds.CrossesDevices = system.CrossesDevices
fault_of_kind kinds.InvalidFilename = system.InvalidFilename
fault_of_kind kinds.OutOfMemory = system.OutOfMemory
fault_of_kind kind = system.Other

-- with Linux's number of the error, if it has one: 5 has no kind
abbrev pub fault_of_number : Option ℤ → ErrorKind → SystemFault
fault_of_number (Some number) kind = if int_eq number (pos 5) then system.InputOutput else fault_of_kind kind
fault_of_number None kind = fault_of_kind kind

abbrev pub system_fault : Error → SystemFault
system_fault error = fault_of_number (raw_os_error error) (error_kind error)
