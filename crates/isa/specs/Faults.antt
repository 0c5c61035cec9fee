-- The numbers that messages show for the faults of an image.
use Rattle.std.specs.Prelude.{ℕ}
use Rattle.isa.specs.declared.fault.DecodeFault.{DecodeFault}
use Rattle.isa.specs.declared.fault.DecodeFault.TheVariants.{BadMagic, Version, Short, BadInstr, BadTarget, Trailing}
use Rattle.isa.specs.declared.fault.DecodeFault.TheVariants.{Limit, Memory}

-- the number of a fault
abbrev pub fault_number : DecodeFault → ℕ
fault_number BadMagic = 1
fault_number Version = 2
fault_number Short = 3
fault_number BadInstr = 4
fault_number BadTarget = 5
fault_number Trailing = 6
fault_number Limit = 7
fault_number Memory = 8
