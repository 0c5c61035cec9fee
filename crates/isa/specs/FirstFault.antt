-- The first fault of bytes that are no image.
use Rattle.std.specs.Prelude.{◌≡◌, ℕ, ◌+◌, ◌<◌, ◌≤◌, List, length, take, ◌++◌, Err}
use Rattle.isa.specs.declared.fault.DecodeFault.{DecodeFault}
use Rattle.isa.specs.declared.fault.DecodeFault.TheVariants.{BadMagic, Version, Short, BadInstr, BadTarget, Trailing}
use Rattle.isa.specs.declared.fault.DecodeFault.TheVariants.{Limit, Memory}
use Rattle.isa.specs.Reading.{program_of}

-- a fault of one byte: not that a byte is missing, nor what is tested behind the last instruction
abbrev pub IsOfAByte : DecodeFault → Type 0
IsOfAByte BadMagic = Unit {0}
IsOfAByte Version = Unit {0}
IsOfAByte BadInstr = Unit {0}
IsOfAByte Limit = Unit {0}
IsOfAByte Short = ⊥
IsOfAByte BadTarget = ⊥
IsOfAByte Trailing = ⊥
IsOfAByte Memory = ⊥

-- before this place bytes are missing and nothing else is wrong, and from the byte there on it is this fault, whatever
-- follows
pub record IsFirstFault (bytes : List ℕ) (fault : DecodeFault) (place : ℕ) : Type 0 where
  pub within : place < length bytes
  pub before : (n : ℕ) → n ≤ place → program_of (take n bytes) ≡ Err Short
  pub from : (rest : List ℕ) → program_of (take (place + 1) bytes ++ rest) ≡ Err fault
