-- How many processes a version has.
use Rattle.std.proofs.Common.{◌≤◌, arith}
use Rattle.words.specs.declared.version.ImageVersion.{ImageVersion}
use Rattle.words.specs.declared.version.ImageVersion.TheVariants.{One, Two, Linux}
use Rattle.words.specs.Limits.{most_threads}
use Rattle.words.specs.Versions.{most_of}

-- no version has more than a machine can run
pub most_few : (v : ImageVersion) → most_of v ≤ most_threads
most_few One = omega arith
most_few Two = omega arith
most_few Linux = omega arith

-- each has 64
pub most_some : (v : ImageVersion) → 64 ≤ most_of v
most_some One = omega arith
most_some Two = omega arith
most_some Linux = omega arith
