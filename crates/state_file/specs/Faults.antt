-- A fault of a part as one of the state file.
use Rattle.wire.specs.declared.fault.DecodeFault.{DecodeFault}
use Rattle.wire.specs.declared.fault.DecodeFault.TheVariants as decoding
use Rattle.wire.specs.declared.fault.EncodeFault.{EncodeFault}
use Rattle.wire.specs.declared.fault.EncodeFault.TheVariants as encoding
use Rattle.batch_file.specs.declared.device.ReplaceFault.{ReplaceFault}
use Rattle.batch_file.specs.declared.device.ReplaceFault.TheVariants as replacing
use Rattle.batch_file.specs.declared.frames.AddFault.{AddFault}
use Rattle.batch_file.specs.declared.frames.AddFault.TheVariants as adding
use Rattle.batch_file.specs.declared.framing.ReadFault.{ReadFault}
use Rattle.batch_file.specs.declared.framing.ReadFault.TheVariants as reading
use Rattle.endpoints.specs.declared.redo.RedoFault.{RedoFault}
use Rattle.endpoints.specs.declared.redo.RedoFault.TheVariants as redoing
use Rattle.state_file.specs.declared.fault.StateFault.{StateFault}
use Rattle.state_file.specs.declared.fault.StateFault.TheVariants as state

abbrev pub state_fault_of_decoding : DecodeFault → StateFault
state_fault_of_decoding decoding.Memory = state.Memory
state_fault_of_decoding (decoding.Bytes fault) = state.Spelling fault

abbrev pub of_encoding : EncodeFault → StateFault
of_encoding encoding.Memory = state.Memory
of_encoding encoding.TooLong = state.TooLong

abbrev pub of_redoing : RedoFault → StateFault
of_redoing redoing.Memory = state.Memory
of_redoing fault = state.Follows fault

abbrev pub of_reading : ReadFault → StateFault
of_reading reading.Memory = state.Memory
of_reading reading.NotState = state.NotState
of_reading (reading.Version version) = state.Version version
of_reading (reading.Damaged batches) = state.Damaged batches
of_reading (reading.Unread reason) = state.Device reason

abbrev pub of_adding : AddFault → StateFault
of_adding adding.Memory = state.Memory
of_adding adding.TooLong = state.Full

abbrev pub of_replacing : ReplaceFault → StateFault
of_replacing replacing.Memory = state.Memory
of_replacing (replacing.Unplaced reason) = state.Unplaced reason
of_replacing (replacing.Failed reason) = state.Device reason
