-- How much room the states of an image have.
use Rattle.std.specs.Prelude.{ℕ, ◌≡◌, ◌<◌, ◌≤◌, ◌^◌, All, List, length}
use Rattle.words.specs.Process.{process_word}

-- the words of so many threads lie in a memory of so many words, whose addresses are numbers
pub record IsRoom (most size : ℕ) : Type 0 where
  pub few : most ≤ 1000
  pub words : process_word most 5 < size
  pub numbers : size < 2 ^ 32

-- each memory has so many words
abbrev pub AreSized : ℕ → List (List ℕ) → Type 0
AreSized size memories = All (λ words. length words ≡ size) memories

-- each of these is the number of one of so many threads
abbrev pub AreThreads : ℕ → List ℕ → Type 0
AreThreads many numbers = All (λ t. (0 < t) × (t ≤ many)) numbers
