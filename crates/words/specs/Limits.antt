-- The limits of every run, each by its name. Those of an image's parts stand in `isa`, and how many processes a program
-- may have says the version of its image.
use Rattle.std.specs.Prelude.{ℕ}

-- the most threads that a machine can run: those for which a set of threads and the lists of sleepers have room
abbrev pub most_threads : ℕ
most_threads = 1000

-- the buckets of sleepers that a run has
abbrev pub run_buckets : ℕ
run_buckets = 64

-- the most local steps in one entry of a log, which is what a thread takes in one turn
abbrev pub most_local_steps : ℕ
most_local_steps = 256
