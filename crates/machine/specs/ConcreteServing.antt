-- How the machine itself serves a request: each wake and each move takes from the front of the address's list, so
-- that what comes of it is determined.
use Rattle.std.specs.Prelude.{ℕ, suc, ◌+◌, ◌%◌, ◌++◌, ◌==◌, [], ◌∷◌, List, length, take, drop, Bool}
use Rattle.std.specs.Prelude.{nat_lt, slice_index, slice_set, Option, Some, None, Result, Ok, Err, if◌then◌else◌}
use Rattle.std.specs.Int.Bits.{bit_or}
use Rattle.words.specs.Process.{process_word}
use Rattle.words.specs.Outcomes.{cause_number}
use Rattle.words.specs.Signed.{signed_of}
use Rattle.buckets.specs.Places.{with_place}
use Rattle.locals.specs.Threads.{Thread, opening_thread}
use Rattle.locals.specs.Looks.{Request, AskLoad, AskStore, AskSwap, AskCompareSwap, AskOr, AskAdd, AskFork, AskPrint}
use Rattle.locals.specs.Looks.{AskWait, AskWake, AskRequeue, AskReturn, AskReturnValue, AskFault}
use Rattle.machine.specs.declared.event.Event.{Event}
use Rattle.machine.specs.declared.event.EventName.{EventName}
use Rattle.machine.specs.declared.event.EventName.TheVariants as name
use Rattle.machine.specs.declared.event.StepFault.{StepFault}
use Rattle.machine.specs.declared.event.StepFault.TheVariants.{Broken}
use Rattle.machine.specs.ThreadSets.{set_of}
use Rattle.robustexit.specs.RobustExit.{put}
use Rattle.machine.specs.States.{Common}

-- what comes of serving: the answer, what is shared after it, the thread that it made, and the event
pub record Served : Type 0 where
  pub answer : ℕ
  pub common : Common
  pub child : Option Thread
  pub event : Event

-- an event with its value, whom it woke and whom it moved
abbrev pub event_of : EventName → ℕ → List ℕ → List ℕ → Event
event_of n v woken moved = record { name = n; value = v; woken = set_of woken; moved = set_of moved }

-- an event that wakes and moves nobody
abbrev pub plain : EventName → ℕ → Event
plain n v = event_of n v [] []

-- the word at an address
abbrev pub load : Common → ℕ → ℕ
load c a = slice_index c.words a

-- the word at an address, changed
abbrev pub set_word : Common → ℕ → ℕ → Common
set_word c a v = record c { words = slice_set c.words a v }

-- the first n sleepers on an address
abbrev pub front : Common → ℕ → ℕ → List ℕ
front c a n = take n (c.queue a)

-- the first n sleepers of an address are awake
abbrev pub wake_front : Common → ℕ → ℕ → Common
wake_front c a n = record c {
  queue = put c.queue a (drop n (c.queue a));
  asleep = with_place c.asleep (front c a n) None;
}

-- t sleeps, last in the list of the address
abbrev pub sleep_on : Common → ℕ → ℕ → Common
sleep_on c t a = record c {
  queue = put c.queue a (c.queue a ++ t ∷ []);
  asleep = with_place c.asleep (t ∷ []) (Some a);
}

-- the first n sleepers on a go to the end of the list of b; none where the two are the same
abbrev pub move_front : Common → ℕ → ℕ → ℕ → Common
move_front c a b n = if a == b then c else record c {
  queue = put (put c.queue a (drop n (c.queue a))) b (c.queue b ++ front c a n);
  asleep = with_place c.asleep (front c a n) (Some b);
}

-- whom a requeue moves: nobody, where both addresses are equal
abbrev pub moves_of : Common → ℕ → ℕ → ℕ → List ℕ
moves_of c a b n = if a == b then [] else front c a n

-- a request that is served without a new thread
abbrev pub gives : ℕ → Common → Event → Result Served StepFault
gives answer c event = Ok (record { answer = answer; common = c; child = None; event = event })

-- a request on an address: the step may not be where it lies outside the memory
abbrev pub within : Common → ℕ → Result Served StepFault → Result Served StepFault
within c a served = if nat_lt a (length c.words) then served else Err Broken

-- a FORK, where so many threads were made
abbrev pub fork_at : ℕ → Common → ℕ → List ℕ → Bool → Result Served StepFault
fork_at made c entry arguments has_room =
    if made == c.most then gives 0 c (plain name.Fork 0)
    else if has_room then Ok (record {
      answer = suc made;
      common = set_word c (process_word (suc made) 2) (suc made);
      child = Some (opening_thread entry arguments);
      event = plain name.Fork (suc made);
    })
    else Err Broken

-- a futex wait: it sleeps where the word is as expected, and else answers 1
abbrev pub wait_on : Common → ℕ → ℕ → ℕ → Result Served StepFault
wait_on c t a expected =
    if load c a == expected then gives 0 (sleep_on c t a) (plain name.Wait 0) else gives 1 c (plain name.Wait 1)

-- a futex wake of at most n sleepers
abbrev pub wake_on : Common → ℕ → ℕ → Result Served StepFault
wake_on c a n = gives (length (front c a n)) (wake_front c a n)
    (event_of name.Wake (length (front c a n)) (front c a n) [])

-- a compare-requeue: where the word is as expected, it wakes at most n and moves at most m
abbrev pub requeue_to : Common → ℕ → ℕ → ℕ → ℕ → ℕ → Result Served StepFault
requeue_to c a b n m expected =
    if load c a == expected then
    (let woken = front c a n in
    let moved = moves_of (wake_front c a n) a b m in
    gives (length woken + length moved) (move_front (wake_front c a n) a b m)
    (event_of name.Requeue (length woken + length moved) woken moved))
    else gives 4294967295 c (plain name.Requeue 4294967295)

-- the outcome word is written; the answer is the first entry of the thread's robust list
abbrev pub end_with_outcome : ℕ → Common → ℕ → Event → Result Served StepFault
end_with_outcome t c outcome event = gives (load c (process_word t 0)) (set_word c (process_word t 5) outcome) event

-- how a request of thread t is served
abbrev pub serve : ℕ → ℕ → Request → Common → Result Served StepFault
serve made t (AskLoad a) c = within c a (gives (load c a) c (plain name.Load (load c a)))
serve made t (AskStore a v) c = within c a (gives 0 (set_word c a v) (plain name.Store v))
serve made t (AskSwap a v) c = within c a (gives (load c a) (set_word c a v) (plain name.Swap (load c a)))
serve made t (AskCompareSwap a expected new) c =
    within c a (gives (load c a) (if load c a == expected then set_word c a new else c)
    (plain name.CompareSwap (load c a)))
serve made t (AskOr a v) c =
    within c a (gives (load c a) (set_word c a (bit_or (load c a) v)) (plain name.FetchOr (load c a)))
serve made t (AskAdd a v) c =
    within c a (gives (load c a) (set_word c a ((load c a + v) % 4294967296)) (plain name.FetchAdd (load c a)))
serve made t (AskFork entry arguments has_room) c = fork_at made c entry arguments has_room
serve made t (AskPrint number) c =
    gives 0 (record c { output = c.output ++ signed_of number ∷ [] }) (plain name.Print number)
serve made t (AskWait a expected) c = within c a (wait_on c t a expected)
serve made t (AskWake a n) c = within c a (wake_on c a n)
serve made t (AskRequeue a b n m expected) c = within c a (within c b (requeue_to c a b n m expected))
serve made t AskReturn c = end_with_outcome t c 16 (plain name.Ret 16)
serve made t (AskReturnValue v) c = end_with_outcome t (set_word c (process_word t 4) v) 16 (plain name.RetValue v)
serve made t (AskFault cause) c = end_with_outcome t c (cause_number cause) (plain name.Die (cause_number cause))
