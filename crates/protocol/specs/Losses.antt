-- Runs at whose end a wake is lost, written out by what each thread does in turn.
use Rattle.std.specs.Prelude.{◌≡◌, ℕ, Some, None, List, [], ◌∷◌, ◌++◌}
use Rattle.words.specs.Signed.{signed_of}
use Rattle.meaning.specs.Labels.{Killed, Ended, Aborted, Label}
use Rattle.meaning.specs.Table.{Table, Allows, first_table}
use Rattle.words.specs.declared.version.ImageVersion.TheVariants.{One}
use Rattle.protocol.specs.Word.{waiters, with_waiters}
use Rattle.protocol.specs.Rules.{Rules}
use Rattle.protocol.specs.Points.{Spot, ToEnter, ToExit, Unowned, LeaveWakes}
use Rattle.protocol.specs.World.{World, opening_under}
use Rattle.protocol.specs.Moves.{Move, Begin, ClearBit, ClearId, ClearPend, CompareSwapBusy, CompareSwapGot, CutHead}
use Rattle.protocol.specs.Moves.{CutToLoad, Finish, Fork, FreeGot, KeepAlone, KeepWake, Kill, LastWake, Leave}
use Rattle.protocol.specs.Moves.{LoadFree, LoadHeld, LoadLock, MarkDone, PendAgain, PendNone, PendPassed, ReadHead}
use Rattle.protocol.specs.Moves.{ReadLink, Return, SetHead, SetLink, SetPend, Sleep, SwapAlone, SwapWake, WakeNone}
use Rattle.protocol.specs.Moves.{WriteFault}
use Rattle.protocol.specs.Steps.{after}
use Rattle.protocol.specs.Runs.{Leads, PermitsAll, IsNext, CanStep, events, last_table}

-- the world behind these moves
abbrev pub world_after : World → List (ℕ × Move) → World
world_after w [] = w
world_after w (s ∷ ss) = world_after (after w s.0 s.1) ss

-- no thread can move, and the process of one that sleeps can
pub record WakeIsLost (w : World) (T : Table) : Type 0 where
  pub at_rest : (t : ℕ) → CanStep w t → ⊥
  pub sleeper : ℕ
  pub spot : Spot
  pub asleep : w.asleep sleeper ≡ Some spot
  pub action : Label
  pub next : IsNext (w.at sleeper).point action
  pub behind : Table
  pub allowed : Allows sleeper action T behind

-- under these rules the moves can be made, one after another; the source allows what they carry; and at their end a
-- wake is lost
pub record LosesWake (rules : Rules) (ss : List (ℕ × Move)) : Type 0 where
  pub leads : Leads (opening_under One rules) ss (world_after (opening_under One rules) ss)
  pub permits : PermitsAll (events (opening_under One rules) (first_table 64) ss) (first_table 64)
      (last_table (opening_under One rules) (first_table 64) ss)
  pub lost : WakeIsLost (world_after (opening_under One rules) ss)
      (last_table (opening_under One rules) (first_table 64) ss)

-- moves of one thread
abbrev pub by : ℕ → List Move → List (ℕ × Move)
by t [] = []
by t (m ∷ ms) = (t, m) ∷ by t ms

-- of several threads, each with the moves that it makes before the next one's
abbrev pub in_turn : List (ℕ × List Move) → List (ℕ × Move)
in_turn [] = []
in_turn (x ∷ xs) = by x.0 x.1 ++ in_turn xs

-- a thread puts lock 0, whose word was v, on its empty list
abbrev pub lists : ℕ → List Move
lists v = ReadHead 0 v ∷ SetLink 0 v 0 ∷ SetHead 0 v ∷ ClearPend 0 v ∷ []

-- it takes the lock by its first compare-and-swap
abbrev pub enters : List Move
enters = Begin 0 ∷ SetPend 0 ∷ CompareSwapGot 0 ∷ lists 0

-- its first compare-and-swap fails
abbrev pub misses : List Move
misses = Begin 0 ∷ SetPend 0 ∷ CompareSwapBusy 0 ∷ []

-- it then takes the lock, which has no owner any more
abbrev pub takes : ℕ → List Move
takes v = LoadFree 0 ToEnter ∷ FreeGot 0 v ToEnter ∷ lists v

-- or marks the word, which has an owner, and sleeps
abbrev pub sleeps : ℕ → List Move
sleeps v = LoadHeld 0 ToEnter ∷ MarkDone 0 v ToEnter ∷ Sleep 0 (with_waiters v) ToEnter ∷ []

-- it leaves, and swaps the word for 0
abbrev pub swaps : Move → List Move
swaps m = Leave 0 ∷ PendAgain 0 ToExit ∷ ReadLink 0 ToExit ∷ CutHead 0 0 ToExit ∷ m ∷ []

-- it leaves, and keeps the waiters bit
abbrev pub keeps : Move → List Move
keeps m = Leave 0 ∷ PendAgain 0 ToExit ∷ ReadLink 0 ToExit ∷ CutToLoad 0 0 ToExit ∷ LoadLock 0 ToExit ∷ m ∷ []

-- it is killed before its wake, and its exit wakes nobody
abbrev pub dies : List Move
dies = Kill (LeaveWakes 0 ToExit) ∷ WriteFault Killed (Unowned 0) ∷ PendPassed 0 (Aborted Killed)
    ∷ ClearId (Aborted Killed) ∷ LastWake (Aborted Killed) [] ∷ []

-- it has left, returns and ends
abbrev pub ends : List Move
ends = Finish 0 ∷ Return None ∷ PendNone (Ended (signed_of 0)) ∷ ClearId (Ended (signed_of 0))
    ∷ LastWake (Ended (signed_of 0)) [] ∷ []

-- 3 sleeps on the lock that 2 holds; 2 swaps the word for 0; 1 takes the lock by its first compare-and-swap, without
-- the waiters bit; 2 is killed before its wake, and its exit wakes nobody, since the word names 1; 1 leaves, and finds
-- no waiters
abbrev pub cleared_run : List (ℕ × Move)
cleared_run = in_turn ((2, Fork 1 ∷ []) ∷ (3, Fork 1 ∷ []) ∷ (2, enters) ∷ (3, misses) ∷ (3, sleeps 2)
    ∷ (2, swaps (SwapWake 0 ToExit)) ∷ (1, enters) ∷ (2, dies) ∷ (1, swaps (SwapAlone 0 ToExit)) ∷ (1, ends) ∷ [])

-- 1 leaves with the waiters bit set and finds nobody to wake; 2 takes the lock, and 3 sleeps on it; 2 leaves the bit
-- behind; 1 clears it, as it still finds what it left itself; 1 takes the lock by its first compare-and-swap, without
-- the bit; 2 is killed before its wake, and its exit wakes nobody, since the word names 1; 1 leaves, and finds no
-- waiters
abbrev pub tidied_run : List (ℕ × Move)
tidied_run = in_turn ((2, Fork 1 ∷ []) ∷ (3, Fork 1 ∷ []) ∷ (2, enters) ∷ (1, misses)
    ∷ (2, keeps (KeepAlone 0 2 ToExit)) ∷ (2, Finish 0 ∷ []) ∷ (1, takes (waiters 2))
    ∷ (1, keeps (KeepWake 0 (with_waiters 1) ToExit)) ∷ (1, WakeNone 0 ToExit ∷ []) ∷ (2, misses)
    ∷ (2, takes (waiters (with_waiters 1))) ∷ (3, misses) ∷ (3, sleeps (with_waiters 2))
    ∷ (2, keeps (KeepWake 0 (with_waiters (with_waiters 2)) ToExit)) ∷ (1, ClearBit 0 ToExit ∷ Finish 0 ∷ [])
    ∷ (1, enters) ∷ (2, dies) ∷ (1, keeps (KeepAlone 0 1 ToExit)) ∷ (1, ends) ∷ [])
