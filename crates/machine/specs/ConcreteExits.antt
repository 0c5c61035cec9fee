-- The machine's own step of an exit: each wake takes from the front of the address's list.
use Rattle.std.specs.Prelude.{ℕ, ◌+◌, ◌==◌, ◌||◌, ◌&&◌, [], List, length, Bool, true, not, nat_lt, if◌then◌else◌}
use Rattle.words.specs.LockWord.{lock_word, owner_of, waiters_of}
use Rattle.words.specs.Process.{process_word}
use Rattle.robustexit.specs.declared.phase.ExitPhase.{ExitPhase}
use Rattle.robustexit.specs.declared.phase.ExitPhase.TheVariants.{Entry, Pending, ClearId, LastWake, Ended}
use Rattle.robustexit.specs.Phases.{next_entry}
use Rattle.machine.specs.declared.event.Event.{Event}
use Rattle.machine.specs.declared.event.EventName.TheVariants as name
use Rattle.machine.specs.States.{Common}
use Rattle.machine.specs.ConcreteServing.{event_of, plain, load, set_word, front, wake_front}
use Rattle.robustexit.specs.declared.rule.ExitRule.{ExitRule}
use Rattle.robustexit.specs.ExitRules.{wakes}

-- what comes of a step of an exit: what is shared after it, the next phase, and the event
pub record Left : Type 0 where
  pub common : Common
  pub next : ExitPhase
  pub event : Event

-- an entry of a robust list: both its words lie in the memory
abbrev pub is_entry : Common → ℕ → Bool
is_entry c e = not (e == 0) && nat_lt (e + 1) (length c.words) && nat_lt (e + 1) 4294967296

-- a lock that the dying thread owns: marked, and one is woken where there may be waiters
abbrev pub abandon : Common → ℕ → Common
abandon c l =
    let w = load c l in
    let marked = set_word c l (lock_word 0 true (waiters_of w)) in
    if waiters_of w then wake_front marked l 1 else marked

-- whom the abandoning of a lock word wakes: one sleeper, where its waiters bit is set
abbrev pub abandon_wakes : Common → ℕ → List ℕ
abandon_wakes c l = if waiters_of (load c l) then front c l 1 else []

-- the step of an exit at an entry of the robust list, of which so many were seen before
abbrev pub leave_entry : ℕ → ℕ → ℕ → Common → Left
leave_entry t e seen c =
    if not (is_entry c e) then record { common = c; next = Pending; event = plain name.Entry e }
    else if (load c (process_word t 1) == e) || not (owner_of (load c (e + 1)) == t) then
    record { common = c; next = next_entry (load c e) (seen + 1); event = plain name.Entry e }
    else record {
      common = abandon c (e + 1);
      next = next_entry (load c e) (seen + 1);
      event = event_of name.Entry e (abandon_wakes c (e + 1)) [];
    }

-- the step of an exit at the pending entry: one is woken at a lock that another owns, or none, where the rule says so
abbrev pub leave_pending : ExitRule → ℕ → ℕ → Common → Left
leave_pending rule t e c =
    if not (is_entry c e) then record { common = c; next = ClearId; event = plain name.Pending e }
    else if owner_of (load c (e + 1)) == t then record {
      common = abandon c (e + 1);
      next = ClearId;
      event = event_of name.Pending e (abandon_wakes c (e + 1)) [];
    }
    else if wakes rule (load c (e + 1)) then record {
      common = wake_front c (e + 1) 1;
      next = ClearId;
      event = event_of name.Pending e (front c (e + 1) 1) [];
    }
    else record { common = c; next = ClearId; event = plain name.Pending e }

-- the step of thread t's exit in this phase
abbrev pub leave : ExitRule → ℕ → ExitPhase → Common → Left
leave rule t (Entry e seen) c = leave_entry t e.0 seen c
leave rule t Pending c = leave_pending rule t (load c (process_word t 1)) c
leave rule t ClearId c = record { common = set_word c (process_word t 2) 0; next = LastWake; event = plain name.Clear 0 }
leave rule t LastWake c = record {
  common = wake_front c (process_word t 2) 1;
  next = Ended;
  event = event_of name.Last (length (front c (process_word t 2) 1)) (front c (process_word t 2) 1) [];
}
leave rule t Ended c = record { common = c; next = Ended; event = plain name.Last 0 }
