-- A device of whose syncs it is measured how long they take.
use Rattle.batch_file.specs.declared.device.Device.{Ghosts as Device}
use Rattle.daemon.specs.declared.timed_disk.TimedDisk.{TimedDisk}

-- it is as that device by itself
abbrev pub timed : {R D : Type 0} → Device D → Device (TimedDisk R D)
timed disk = record {
  seen = λ t. disk.seen t.device;
  may_leave = λ t left. disk.may_leave t.device left;
  moment = λ t. disk.moment t.device;
  left_since = λ t since left. disk.left_since t.device since left;
  faults = λ t. disk.faults t.device;
  reads_true = λ t. disk.reads_true t.device;
  next = λ t. disk.next t.device;
  next_on_disk = λ t. disk.next_on_disk t.device;
  is_sole = λ t since. disk.is_sole t.device since;
  tends = λ old now due new. disk.tends old.device now due new.device;
  tells_place = λ t is. disk.tells_place t.device is;
  tells_full = λ t size reason. disk.tells_full t.device size reason;
}
