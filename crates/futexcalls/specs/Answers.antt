-- What a wait answers, and the words of a memory as a function.
use Rattle.std.specs.Prelude.{◌≡◌, ◌≢◌, ℕ, Option, List, slice_index}
use Rattle.futexcalls.specs.declared.calls.WaitAnswer.{WaitAnswer}
use Rattle.futexcalls.specs.declared.calls.WaitAnswer.TheVariants.{Sleeps, Again}
use Rattle.futexcalls.specs.FutexCalls as futex

-- the word at an address
abbrev pub word_of : List ℕ → ℕ → ℕ
word_of words a = slice_index words a

-- a wait: it sleeps, or answers at once that the word differs, and changes nothing
abbrev pub Waits : (word : ℕ → ℕ) (asleep : ℕ → Option ℕ) (t a expected : ℕ) → WaitAnswer → (after : ℕ → Option ℕ)
    → Type 0
Waits word asleep t a expected Sleeps after = futex.Sleeps word asleep t a expected after
Waits word asleep t a expected Again after = (word a ≢ expected) × (after ≡ asleep)
