-- Beside Calls: only the contracts of this crate's own parts and their proofs cite this, no public clause.
use Rattle.std.specs.Prelude.{ℕ, Result, is_ok, List, [], ◌∷◌, ◌++◌, ◌==◌, slice_index, if◌then◌else◌}
use Rattle.disk_file.specs.declared.call_log.DiskCall.{DiskCall}
use Rattle.disk_file.specs.declared.call_log.DiskCall.TheVariants as made
use Rattle.batch_file.specs.declared.device.DeviceFault.{DeviceFault}
use Rattle.system_faults.specs.declared.SystemFault.{SystemFault}
use Rattle.system_faults.specs.declared.SystemFault.TheVariants as system
use Rattle.disk_file.specs.Calls.{Call, Logged, Opened, Wrote, Grew, Refused, Synced, Replaced, Read, Began, Added, NextSynced, Placed, Dropped}

-- the call that a program makes
abbrev pub call_made : DiskCall → Call
call_made (made.Opened bytes) = Opened bytes.now
call_made (made.Wrote at bytes) = Wrote at bytes.now
call_made (made.Grew at size) = Grew at size
call_made (made.Refused at size) = Refused at size
call_made made.Synced = Synced
call_made (made.Replaced bytes) = Replaced bytes.now
call_made (made.Read at bytes) = Read at bytes.now
call_made made.Began = Began
call_made (made.Added bytes) = Added bytes.now
call_made made.NextSynced = NextSynced
call_made made.Placed = Placed
call_made made.Dropped = Dropped

-- with what a device answered of it
abbrev pub logged : DiskCall → Result (Unit {0}) DeviceFault → Logged
logged call answer = record { call = call_made call; is_ok = is_ok answer }

-- the call of this kind at this place, with these bytes, or of so many
abbrev pub call_of : ℕ → ℕ → ℕ → List ℕ → Call
call_of kind place size bytes =
    if kind == 0 then Opened bytes
    else if kind == 1 then Wrote place bytes
    else if kind == 2 then Synced
    else if kind == 3 then Replaced bytes
    else if kind == 4 then Read place bytes
    else if kind == 5 then Began
    else if kind == 6 then Added bytes
    else if kind == 7 then NextSynced
    else if kind == 8 then Placed
    else if kind == 10 then Grew place size
    else if kind == 11 then Refused place size
    else Dropped

abbrev pub noted : List ℕ → List ℕ → Logged
noted numbers bytes =
    record { call = call_of (slice_index numbers 0) (slice_index numbers 1) (slice_index numbers 3) bytes; is_ok = slice_index numbers 2 == 1 }

-- the file that was opened had these bytes, too
abbrev pub opened_more : List ℕ → Call → Call
opened_more more (Opened bytes) = Opened (bytes ++ more)
opened_more more call = call

abbrev pub with_more : List ℕ → List Logged → List Logged
with_more more [] = []
with_more more (e ∷ before) = record { call = opened_more more e.call; is_ok = e.is_ok } ∷ before

-- the calls with that one, or with more of the file that was opened
abbrev pub with_note : List ℕ → List ℕ → List Logged → List Logged
with_note numbers bytes calls = if slice_index numbers 0 == 9 then with_more bytes calls else noted numbers bytes ∷ calls

-- for these reasons Linux refuses to rename a file before it renames it
abbrev pub RenamesNothing : SystemFault → Type 0
RenamesNothing system.NotFound = Unit {0}
RenamesNothing system.PermissionDenied = Unit {0}
RenamesNothing system.NotADirectory = Unit {0}
RenamesNothing system.IsADirectory = Unit {0}
RenamesNothing system.ReadOnlyFilesystem = Unit {0}
RenamesNothing system.StorageFull = Unit {0}
RenamesNothing system.QuotaExceeded = Unit {0}
RenamesNothing system.ResourceBusy = Unit {0}
RenamesNothing system.CrossesDevices = Unit {0}
RenamesNothing reason = ⊥
