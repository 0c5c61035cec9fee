-- The versions of an image: how many processes there can be, and where the words of the monitors begin.
use Rattle.std.specs.Prelude.{ℕ, ◌+◌, ◌*◌, ◌≤◌}
use Rattle.words.specs.declared.version.ImageVersion.{ImageVersion}
use Rattle.words.specs.declared.version.ImageVersion.TheVariants.{One, Two, Linux}

-- the most processes of a program, and so the most threads of a machine
abbrev pub most_of : ImageVersion → ℕ
most_of One = 64
most_of Two = 1000
most_of Linux = 1000

-- the first word of the monitors: the one behind the words of the last process
abbrev pub base_of : ImageVersion → ℕ
base_of v = 1 + 6 * most_of v

-- the number of a process that there can be
abbrev pub IsProcess : ImageVersion → ℕ → Type 0
IsProcess v h = (1 ≤ h) × (h ≤ most_of v)
