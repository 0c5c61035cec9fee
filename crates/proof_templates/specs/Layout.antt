-- Where the words of the protocol lie in the memory of a program's image.
use Rattle.std.specs.Prelude.{ℕ, Bool, ◌&&◌, nat_lt, nat_le, is_some, slice_get}
use Rattle.words.specs.Versions.{most_of}
use Rattle.words.specs.Process.{process_word}
use Rattle.program.specs.Trees.{Program}
use Rattle.program.specs.Scope.{member_type}
use Rattle.proof_thread.specs.Variables.{is_condition}
use Rattle.lowering.specs.Layout.{link_word, lock_word_address, member_address}
use Rattle.protocol.specs.Cells.{Cell, LockOf, LinkOf, HeadOf, PendingOf, IdOf, ClaimOf, ResultOf, OutcomeOf}
use Rattle.protocol.specs.Cells.{SequenceOf}

-- the address of a word of the protocol
abbrev pub place : Program → Cell → ℕ
place p (LockOf m) = lock_word_address p m
place p (LinkOf m) = link_word p m
place p (HeadOf t) = process_word t 0
place p (PendingOf t) = process_word t 1
place p (IdOf t) = process_word t 2
place p (ClaimOf t) = process_word t 3
place p (ResultOf t) = process_word t 4
place p (OutcomeOf t) = process_word t 5
place p (SequenceOf c) = member_address p c

-- the number of a process that the program can have
abbrev pub is_process : Program → ℕ → Bool
is_process p t = nat_lt 0 t && nat_le t (most_of p.version)

-- whether the program has a monitor of this number
abbrev pub is_monitor : Program → ℕ → Bool
is_monitor p m = is_some (slice_get p.monitors m)

-- the program has the word
abbrev pub valid : Program → Cell → Bool
valid p (LockOf m) = is_monitor p m
valid p (LinkOf m) = is_monitor p m
valid p (HeadOf t) = is_process p t
valid p (PendingOf t) = is_process p t
valid p (IdOf t) = is_process p t
valid p (ClaimOf t) = is_process p t
valid p (ResultOf t) = is_process p t
valid p (OutcomeOf t) = is_process p t
valid p (SequenceOf c) = is_condition (member_type p c)
