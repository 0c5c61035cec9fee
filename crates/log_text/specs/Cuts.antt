-- Texts that are cut at a byte, or where a number or the threads of a set end.
use Rattle.std.specs.Prelude.{ℕ, ◌≡◌, ◌≢◌, ◌<◌, ◌≤◌, List, [], ◌∷◌, ◌++◌, length}
use Rattle.std.specs.List.{All}
use Rattle.words.specs.Limits.{most_threads}
use Rattle.machine.specs.ThreadSets.{IsThread, set_of}
use Rattle.machine.specs.declared.thread_set.ThreadSet.{ThreadSet}
use Rattle.log_text.specs.LogLines.{numbers_text}

-- there is no such byte in it
abbrev pub NoByte : ℕ → List ℕ → Type 0
NoByte b [] = Unit {0}
NoByte b (x ∷ xs) = (x ≢ b) × NoByte b xs

-- it has come to its end, or to such a byte
abbrev pub AtByte : ℕ → List ℕ → Type 0
AtByte b [] = Unit {0}
AtByte b (x ∷ xs) = x ≡ b

-- the byte of a decimal digit
abbrev pub IsDigit : ℕ → Type 0
IsDigit x = (48 ≤ x) × (x ≤ 57)

-- it begins by no digit
abbrev pub NoDigit : List ℕ → Type 0
NoDigit [] = Unit {0}
NoDigit (x ∷ xs) = IsDigit x → ⊥

-- it begins by no digit, and by no space that a digit follows
abbrev pub NoNumber : List ℕ → Type 0
NoNumber [] = Unit {0}
NoNumber (x ∷ xs) = (IsDigit x → ⊥) × (x ≡ 32 → NoDigit xs)

-- the numbers of threads, each above the one before it, the first above this one
abbrev pub Rises : ℕ → List ℕ → Type 0
Rises low [] = Unit {0}
Rises low (t ∷ ts) = (low < t) × (t ≤ most_threads) × Rises t ts

-- the set of some threads of the machine
abbrev pub IsThreadSet : ThreadSet → Type 0
IsThreadSet set = (threads : List ℕ) × All IsThread threads × (set ≡ set_of threads)

-- what may follow the threads of the set behind a word: no number, and not the word
pub record AfterSet (word rest : List ℕ) : Type 0 where
  pub number : NoNumber rest
  pub other : (more : List ℕ) → rest ≢ word ++ more

-- the text begins by the threads of the set, one at least, and this follows them
pub record IsRow (text : List ℕ) (set : ThreadSet) (rest : List ℕ) : Type 0 where
  pub threads : List ℕ
  pub rises : Rises 0 threads
  pub some : 0 < length threads
  pub made : set ≡ set_of threads
  pub whole : text ≡ numbers_text threads ++ rest
