-- The words of a process: six, from 1 + 6 * (t - 1) for process t.
use Rattle.std.specs.Prelude.{ℕ, ◌+◌, ◌-◌, ◌*◌}
use Rattle.words.specs.declared.process.ProcessWord.{ProcessWord}
use Rattle.words.specs.declared.process.ProcessWord.TheVariants.{Head, Pending, Id, Claim, Result, Outcome}

-- which of the six it is
abbrev pub number_of : ProcessWord → ℕ
number_of Head = 0
number_of Pending = 1
number_of Id = 2
number_of Claim = 3
number_of Result = 4
number_of Outcome = 5

-- the address of the k-th word of process t
abbrev pub process_word : ℕ → ℕ → ℕ
process_word t k = 1 + 6 * (t - 1) + k
