-- What a requeue does, with what is kept of it.
use Rattle.std.specs.Prelude.{ℕ, ◌≡◌, ◌+◌, List, Some, None, length}
use Rattle.buckets.specs.Places.{with_place}
use Rattle.futexcalls.specs.FutexCalls.{IsChoice}
use Rattle.isa.specs.Programs.{Program}
use Rattle.locals.specs.Looks.{look}
use Rattle.locals.specs.Requests.{after_answer, next_step_of}
use Rattle.locals.specs.Threads.{Thread}
use Rattle.locals.specs.declared.request.NextStep.TheVariants as step
use Rattle.locals.specs.declared.request.Request.{Request as Told}
use Rattle.image_states.specs.declared.next.Next.{Next as NextOf}
use Rattle.image_states.specs.declared.packed.Packed.{Packed as PackedOf}
use Rattle.image_states.specs.declared.parts.Parts.{Parts as PartsOf}
use Rattle.image_states.specs.Nexts.{ReachesAt}
use Rattle.image_states.specs.Packed.{asleep_at, thread_at, words_in}

-- thread t, where it was made, asks for this
abbrev pub AsksThere : Program → PartsOf → PackedOf → ℕ → Told → Type 0
AsksThere p parts x t request = (here : Thread) → thread_at parts.locals.items x.parts.items t ≡ Some here
    → next_step_of (look p t here) ≡ step.Shared request

-- of a state in which so many were woken: whoever of those that sleep on a are moved to b, at most so many, that is one of
-- the next states
abbrev pub MidDone : Program → PartsOf → (x mid : PackedOf) → List NextOf → (t a b most size : ℕ) → Type 0
MidDone p parts x mid nexts t a b most size = (here : Thread) → thread_at parts.locals.items x.parts.items t ≡ Some here
    → (moved : List ℕ) → IsChoice (asleep_at mid.places.items) a most moved
    → ReachesAt p parts mid nexts t (words_in parts.memories.items mid.memory)
    (with_place (asleep_at mid.places.items) moved (Some b)) (after_answer (look p t here) (size + length moved) here)

-- whoever is woken, at most n, and whoever is moved then
abbrev pub RequeuesDone : Program → PartsOf → PackedOf → List NextOf → (t a b n most : ℕ) → Type 0
RequeuesDone p parts x nexts t a b n most = (here : Thread) → thread_at parts.locals.items x.parts.items t ≡ Some here
    → (woken moved : List ℕ) → IsChoice (asleep_at x.places.items) a n woken
    → IsChoice (with_place (asleep_at x.places.items) woken None) a most moved
    → ReachesAt p parts x nexts t (words_in parts.memories.items x.memory)
    (with_place (with_place (asleep_at x.places.items) woken None) moved (Some b))
    (after_answer (look p t here) (length woken + length moved) here)
