-- Inside the crate: what a fault of the reader means for a run
use Rattle.event_reader.specs.declared.fault.ReaderFault.{ReaderFault}
use Rattle.event_reader.specs.declared.fault.ReaderFault.TheVariants.{ReadFault, TooLong as LongInput, OutOfMemory as NoMemory}
use Rattle.morph_cli.specs.declared.fault.Fault.{Fault}
use Rattle.morph_cli.specs.declared.fault.Fault.TheVariants.{Read, OutOfMemory, TooLong}

-- The fault of a run for a fault of its reader
abbrev pub fault_of : ReaderFault → Fault
fault_of ReadFault = Read
fault_of LongInput = TooLong
fault_of NoMemory = OutOfMemory
