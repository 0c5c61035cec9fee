-- The words of a program's memory that have a meaning, and their addresses.
use Rattle.std.specs.Prelude.{◌≡◌, ◌<◌, ◌≤◌, ◌+◌, ℕ, Some, slice_get}
use Rattle.words.specs.declared.process.ProcessWord.{ProcessWord}
use Rattle.words.specs.Process.{process_word, number_of}
use Rattle.words.specs.Versions.{most_of}
use Rattle.program.specs.declared.kinds.MemberType.{MemberType}
use Rattle.program.specs.declared.kinds.Member.{Member}
use Rattle.program.specs.Trees.{Monitor, Program}
use Rattle.program.specs.WellFormed.{member_words}
use Rattle.lowering.specs.Layout.{link_word, lock_word_address, member_address}

-- a word of a process, the link word or the lock word of a monitor, or a word of a member
pub data Cell : Type 0 where
  OfProcess : (t : ℕ) (word : ProcessWord) → Cell
  Link : (monitor : ℕ) → Cell
  Lock : (monitor : ℕ) → Cell
  OfMember : (member : Member) (offset : ℕ) → Cell

-- the address of the word of this name
abbrev pub address : Program → Cell → ℕ
address p (OfProcess t word) = process_word t (number_of word)
address p (Link m) = link_word p m
address p (Lock m) = lock_word_address p m
address p (OfMember m k) = member_address p m + k

-- the program has a monitor of this number
abbrev pub IsMonitor : Program → ℕ → Type 0
IsMonitor p m = (x : Monitor) × (slice_get p.monitors m ≡ Some x)

-- the program has it
abbrev pub IsCell : Program → Cell → Type 0
IsCell p (OfProcess t word) = (0 < t) × (t ≤ most_of p.version)
IsCell p (Link m) = IsMonitor p m
IsCell p (Lock m) = IsMonitor p m
IsCell p (OfMember m k) =
    (x : Monitor) × (t : MemberType) × (slice_get p.monitors m.monitor ≡ Some x)
    × (slice_get x.members m.number ≡ Some t) × (k < member_words t)
