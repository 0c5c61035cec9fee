-- Why a source isn't read.
use Rattle.devices.specs.Counting.{HasFailed}
use Rattle.devices.specs.declared.counted.Counted.{Counted}
use Rattle.devices.specs.declared.reading.ReadFault.{ReadFault}
use Rattle.devices.specs.declared.reading.ReadFault.TheVariants.{Device, Memory}

-- Device is only for a reader that has failed
abbrev pub IsReadFault : {R : Type 0} → Counted R → Counted R → ReadFault → Type 0
IsReadFault old new Device = HasFailed old new
IsReadFault old new Memory = Unit {0}
