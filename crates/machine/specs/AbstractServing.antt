-- What is shared serves a request of thread t. Where the standard leaves a choice, any will do.
use Rattle.std.specs.Prelude.{ℕ, suc, ◌≡◌, ◌≢◌, ◌<◌, ◌+◌, ◌%◌, ◌==◌, ◌⊎◌, ◌++◌, List, [], ◌∷◌, length, true}
use Rattle.std.specs.Prelude.{Option, if◌then◌else◌}
use Rattle.std.specs.Int.Bits.{bit_or}
use Rattle.words.specs.Process.{process_word}
use Rattle.words.specs.Outcomes.{cause_number}
use Rattle.words.specs.Signed.{signed_of}
use Rattle.futexcalls.specs.FutexCalls.{Sleeps, Wakes, Requeues}
use Rattle.robustexit.specs.RobustExit.{Shared}
use Rattle.locals.specs.Threads.{opening_thread}
use Rattle.locals.specs.Looks.{Request, AskLoad, AskStore, AskSwap, AskCompareSwap, AskOr, AskAdd, AskFork, AskPrint}
use Rattle.locals.specs.Looks.{AskWait, AskWake, AskRequeue, AskReturn, AskReturnValue, AskFault}
use Rattle.machine.specs.States.{State, with_word, with_thread, with_sleepers}

-- the address lies in the memory
abbrev pub Lies : State → ℕ → Type 0
Lies s a = a < s.size

-- a new thread at a place with these operands; its id word is its number
abbrev pub with_child : State → ℕ → List ℕ → State
with_child s entry arguments =
    let child = suc s.made in
    record (with_word (with_thread s child (opening_thread entry arguments)) (process_word child 2) child) {
      made =
          child;
    }

-- a thread's outcome word is written
abbrev pub with_outcome : State → ℕ → ℕ → State
with_outcome s t outcome = with_word s (process_word t 5) outcome

-- a request that wakes nobody
abbrev pub Quietly : List ℕ → Type 0 → Type 0
Quietly woken A = (woken ≡ []) × A

-- thread t's request, served in a state with these woken, gives the answer and the state after
abbrev pub Serves : ℕ → Request → State → List ℕ → ℕ → State → Type 0
Serves t (AskLoad a) s woken answer s' = Lies s a × Quietly woken ((answer ≡ s.word a) × (s' ≡ s))
Serves t (AskStore a v) s woken answer s' = Lies s a × Quietly woken ((answer ≡ 0) × (s' ≡ with_word s a v))
Serves t (AskSwap a v) s woken answer s' = Lies s a × Quietly woken ((answer ≡ s.word a) × (s' ≡ with_word s a v))
Serves t (AskCompareSwap a expected new) s woken answer s' =
    Lies s a × Quietly woken ((answer ≡ s.word a) × (s' ≡ (if s.word a == expected then with_word s a new else s)))
Serves t (AskOr a v) s woken answer s' =
    Lies s a × Quietly woken ((answer ≡ s.word a) × (s' ≡ with_word s a (bit_or (s.word a) v)))
Serves t (AskAdd a v) s woken answer s' =
    Lies s a × Quietly woken ((answer ≡ s.word a) × (s' ≡ with_word s a ((s.word a + v) % 4294967296)))
Serves t (AskFork entry arguments has_room) s woken answer s' =
    Quietly woken (((s.made ≡ s.most) × (answer ≡ 0) × (s' ≡ s))
    ⊎ ((s.made < s.most) × (has_room ≡ true) × (answer ≡ suc s.made) × (s' ≡ with_child s entry arguments)))
Serves t (AskPrint number) s woken answer s' =
    Quietly woken ((answer ≡ 0) × (s' ≡ record s { output = s.output ++ signed_of number ∷ [] }))
Serves t (AskWait a expected) s woken answer s' =
    Lies s a × Quietly woken (((after : ℕ → Option ℕ) × Sleeps s.word s.asleep t a expected after × (answer ≡ 0)
    × (s' ≡ with_sleepers s after))
    ⊎ ((s.word a ≢ expected) × (answer ≡ 1) × (s' ≡ s)))
Serves t (AskWake a n) s woken answer s' =
    Lies s a × (after : ℕ → Option ℕ) × Wakes s.asleep a n woken after × (answer ≡ length woken)
    × (s' ≡ with_sleepers s after)
Serves t (AskRequeue a b n m expected) s woken answer s' =
    Lies s a × Lies s b
    × (((moved : List ℕ) × (after : ℕ → Option ℕ) × Requeues s.word s.asleep a b n m expected woken moved after
    × (answer ≡ length woken + length moved) × (s' ≡ with_sleepers s after))
    ⊎ ((s.word a ≢ expected) × (woken ≡ []) × (answer ≡ 4294967295) × (s' ≡ s)))
Serves t AskReturn s woken answer s' =
    Quietly woken ((answer ≡ s.word (process_word t 0)) × (s' ≡ with_outcome s t 16))
Serves t (AskReturnValue v) s woken answer s' =
    Quietly woken ((answer ≡ s.word (process_word t 0)) × (s' ≡ with_outcome (with_word s (process_word t 4) v) t 16))
Serves t (AskFault cause) s woken answer s' =
    Quietly woken ((answer ≡ s.word (process_word t 0)) × (s' ≡ with_outcome s t (cause_number cause)))

-- the request can't be served: an address outside the memory, or a fork whose answer has no room
abbrev pub IsUnserved : Request → State → Type 0
IsUnserved (AskLoad a) s = Lies s a → ⊥
IsUnserved (AskStore a v) s = Lies s a → ⊥
IsUnserved (AskSwap a v) s = Lies s a → ⊥
IsUnserved (AskCompareSwap a expected new) s = Lies s a → ⊥
IsUnserved (AskOr a v) s = Lies s a → ⊥
IsUnserved (AskAdd a v) s = Lies s a → ⊥
IsUnserved (AskFork entry arguments has_room) s = (s.made < s.most) × (has_room ≡ true → ⊥)
IsUnserved (AskPrint number) s = ⊥
IsUnserved (AskWait a expected) s = Lies s a → ⊥
IsUnserved (AskWake a n) s = Lies s a → ⊥
IsUnserved (AskRequeue a b n m expected) s = (Lies s a × Lies s b) → ⊥
IsUnserved AskReturn s = ⊥
IsUnserved (AskReturnValue v) s = ⊥
IsUnserved (AskFault cause) s = ⊥

-- what a state shares with the definition of exits
abbrev pub shared_of : State → Shared
shared_of s = record { word = s.word; asleep = s.asleep }

-- the state with these words and these sleepers
abbrev pub with_shared : State → Shared → State
with_shared s after = record s { word = after.word; asleep = after.asleep }
