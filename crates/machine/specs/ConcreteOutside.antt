-- What comes to the machine from outside: a sleeper wakes though nobody called for it, and a thread is killed.
use Rattle.std.specs.Prelude.{ℕ, ◌==◌, ◌-◌, not, Bool, true, false, [], ◌∷◌, filter, slice_set, Option, Some, None}
use Rattle.std.specs.Prelude.{Result, Ok, Err}
use Rattle.words.specs.declared.outcome.Cause.TheVariants.{Killed}
use Rattle.locals.specs.Threads.{Thread, Dies, is_dying}
use Rattle.buckets.specs.Places.{with_place}
use Rattle.machine.specs.declared.event.Event.{Event}
use Rattle.machine.specs.declared.event.EventName.TheVariants as name
use Rattle.machine.specs.declared.event.StepFault.{StepFault}
use Rattle.machine.specs.declared.event.StepFault.TheVariants.{CannotMove}
use Rattle.machine.specs.States.{Common, ConcreteState, thread_of}
use Rattle.machine.specs.ConcreteServing.{event_of, plain}

-- t stands in no list, and sleeps nowhere
abbrev pub drop_sleeper : Common → ℕ → Common
drop_sleeper c t = record c {
  queue = λ a. filter (λ u. not (u == t)) (c.queue a);
  asleep = with_place c.asleep (t ∷ []) None;
}

-- a thread that sleeps there wakes; another can't
abbrev pub stray_at : ConcreteState → ℕ → Option ℕ → Result (ConcreteState × Event) StepFault
stray_at k t None = Err CannotMove
stray_at k t (Some a) =
    Ok (record { common = drop_sleeper k.common t; threads = k.threads }, event_of name.Stray a (t ∷ []) [])

-- a wake from outside of thread t
abbrev pub stray_of : ConcreteState → ℕ → Result (ConcreteState × Event) StepFault
stray_of k t = stray_at k t (k.common.asleep t)

-- behind a kill of thread t that isn't dying: it has left its sleep, and is dying
abbrev pub killed_in : ConcreteState → ℕ → ConcreteState
killed_in k t = record {
  common = drop_sleeper k.common t;
  threads = slice_set k.threads (t - 1) (Dies Killed);
}

-- a thread that was made is killed, one that is dying isn't changed; another can't be
abbrev pub kill_by : ConcreteState → ℕ → (dying : Bool) → Result (ConcreteState × Event) StepFault
kill_by k t true = Ok (k, plain name.Kill 0)
kill_by k t false = Ok (killed_in k t, plain name.Kill 1)

abbrev pub kill_at : ConcreteState → ℕ → Option Thread → Result (ConcreteState × Event) StepFault
kill_at k t None = Err CannotMove
kill_at k t (Some x) = kill_by k t (is_dying x)

-- a kill of thread t from outside
abbrev pub kill_of : ConcreteState → ℕ → Result (ConcreteState × Event) StepFault
kill_of k t = kill_at k t (thread_of k t)
