-- How many workers there may be.
use Rattle.std.specs.Prelude.{ℕ}

-- the most workers that make the code of one program
abbrev pub most_workers : ℕ
most_workers = 64
