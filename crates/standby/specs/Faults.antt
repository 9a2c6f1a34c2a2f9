-- What faults below are to a list.
use Rattle.batch_file.specs.declared.device.DeviceFault.{DeviceFault}
use Rattle.batch_file.specs.declared.device.DeviceFault.TheVariants as devices
use Rattle.batch_file.specs.declared.device.ReplaceFault.{ReplaceFault}
use Rattle.batch_file.specs.declared.device.ReplaceFault.TheVariants as placing
use Rattle.batch_file.specs.declared.framing.ReadFault.{ReadFault}
use Rattle.batch_file.specs.declared.framing.ReadFault.TheVariants as reads
use Rattle.etcd_client.specs.declared.members.AskFault.{AskFault}
use Rattle.etcd_client.specs.declared.members.AskFault.TheVariants as asks
use Rattle.standby.specs.declared.fault.ListFault.{ListFault}
use Rattle.standby.specs.declared.fault.ListFault.TheVariants.{Memory, Refused, Unclear, Unplaced, Unread}

abbrev pub of_asking : AskFault → ListFault
of_asking asks.Unclear = Unclear
of_asking (asks.Refused code) = Refused code
of_asking asks.Memory = Memory

abbrev pub of_device : DeviceFault → ListFault
of_device devices.Memory = Memory
of_device (devices.Failed reason) = Unread

abbrev pub of_placing : ReplaceFault → ListFault
of_placing placing.Memory = Memory
of_placing (placing.Unplaced reason) = Unplaced
of_placing (placing.Failed reason) = Unplaced

abbrev pub of_reading : ReadFault → ListFault
of_reading reads.Memory = Memory
of_reading reads.NotState = Unread
of_reading (reads.Version version) = Unread
of_reading (reads.Damaged batches) = Unread
of_reading (reads.Unread reason) = Unread
