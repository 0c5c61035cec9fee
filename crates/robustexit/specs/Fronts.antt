-- What a memory and its buckets share with the definition, and whom a step wakes of those who could be.
use Rattle.std.specs.Prelude.{◌≡◌, ◌≢◌, ℕ, ◌+◌, List, take, drop, length}
use Rattle.words.specs.Process.{process_word}
use Rattle.buckets.specs.Sleepers.{Sleepers, queue, place_of}
use Rattle.futexcalls.specs.Answers.{word_of}
use Rattle.robustexit.specs.declared.phase.ExitPhase.{ExitPhase}
use Rattle.robustexit.specs.declared.phase.ExitPhase.TheVariants.{Entry, Pending, ClearId, LastWake, Ended}
use Rattle.robustexit.specs.RobustExit.{Shared}

-- the words of a memory, and the places of its sleepers
abbrev pub shared_view : List ℕ → Sleepers → Shared
shared_view words sleepers = record { word = word_of words; asleep = place_of sleepers }

-- the word on which a step wakes, if it wakes
abbrev pub wake_word : ℕ → ExitPhase → (ℕ → ℕ) → ℕ
wake_word t (Entry e seen) word = e.0 + 1
wake_word t Pending word = word (process_word t 1) + 1
wake_word t ClearId word = process_word t 2
wake_word t LastWake word = process_word t 2
wake_word t Ended word = process_word t 2

-- those woken are the front of the list of an address, the rest of it stays, and so does each other list
pub record TakesFront (before after : Sleepers) (a : ℕ) (woken : List ℕ) : Type 0 where
  pub front : woken ≡ take (length woken) (queue before a)
  pub rest : queue after a ≡ drop (length woken) (queue before a)
  pub others : (b : ℕ) → b ≢ a → queue after b ≡ queue before b
