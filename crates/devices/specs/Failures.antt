-- How many files couldn't be opened, read or written.
use Rattle.std.specs.Prelude.{ℕ, ◌≤◌}
use Rattle.devices.specs.declared.failures.FileFailures.{FileFailures}
use Rattle.devices.specs.declared.files.FileFault.{FileFault}
use Rattle.devices.specs.declared.files.FileFault.TheVariants.{Open, Read}
use Rattle.devices.specs.declared.reading.ReadFault.TheVariants.{Device, Memory}

-- how many, at most 2^64 - 1
abbrev pub failed_files : FileFailures → ℕ
failed_files failures = failures.count

-- there is one
abbrev pub HaveFailed : FileFailures → Type 0
HaveFailed failures = 1 ≤ failed_files failures

-- so it is where a file isn't read, but for want of memory
abbrev pub IsCounted : FileFailures → FileFault → Type 0
IsCounted failures (Open error) = HaveFailed failures
IsCounted failures (Read Device) = HaveFailed failures
IsCounted failures (Read Memory) = Unit {0}
