-- The fault of a scope name that a catalogue does not take.
use Rattle.registry_json.specs.Names.{ConfigFault, BadScope, OutOfRange, Twice, Memory, CatalogueFault}
use Rattle.params.specs.declared.catalogue.CatalogueFault.TheVariants as name

-- the registry's fault for a scope name that its catalogue does not take
abbrev pub fault_of_name : CatalogueFault → ConfigFault
fault_of_name name.BadScope = BadScope
fault_of_name name.TooLong = OutOfRange
fault_of_name name.Twice = Twice
fault_of_name name.Full = OutOfRange
fault_of_name name.Memory = Memory
