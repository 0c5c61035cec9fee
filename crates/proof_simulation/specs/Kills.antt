-- What a kill is in the source: which process it takes, by what the words of the machine say before it.
use Rattle.std.specs.Prelude.{ℕ, zero, suc, ◌+◌, ◌==◌, ◌&&◌, not, Bool, true, List, [], length, Option}
use Rattle.std.specs.Prelude.{Some, None, if◌then◌else◌}
use Rattle.words.specs.Process.{process_word}
use Rattle.words.specs.Updates.{put}
use Rattle.machine.specs.States.{State}
use Rattle.program.specs.Trees.{Program}
use Rattle.lowering.specs.Layout.{link_word}
use Rattle.meaning.specs.Labels.{Killed}
use Rattle.meaning.specs.Table.{Table, without_waiters}
use Rattle.meaning.specs.Processes.{Process, Dying, holds}
use Rattle.meaning.specs.Offers.{Offer, NotifiesSome, NotifiesAll}
use Rattle.meaning.specs.States.{SourceState}
use Rattle.protocol.specs.Word.{owner}
use Rattle.proof_simulation.specs.Killing.{left_of}
use Rattle.proof_simulation.specs.Ordering.{awake_waiters}

-- among the first monitors of a program, so many, the one whose link word has this address
abbrev pub linked_monitor : Program → (address : ℕ) → ℕ → Option ℕ
linked_monitor p a zero = None
linked_monitor p a (suc n) = if link_word p n == a then Some n else linked_monitor p a n

-- the monitor that thread t abandons last, if these are the words when it is killed: the pending one, if t owns it
abbrev pub killed_last : Program → (word : ℕ → ℕ) → (t : ℕ) → Option ℕ
killed_last p word t =
    let pending = word (process_word t 1) in
    if not (pending == 0) && (owner (word (pending + 1)) == t) then linked_monitor p pending (length p.monitors)
    else None

-- who has been resumed by a killed process with this offer, whose thread has raised the sequence number or hasn't:
-- those who wait on the condition and don't sleep on its word in this state of the machine
abbrev pub killed_resumed : Program → State → Table → (raised : Bool) → Offer → List ℕ
killed_resumed p s T true (NotifiesSome c q) = awake_waiters p s T c
killed_resumed p s T true (NotifiesAll c q) = awake_waiters p s T c
killed_resumed p s T raised o = []

-- what a process holds, if there is one
abbrev pub held_by : Option Process → List ℕ
held_by None = []
held_by (Some q) = holds q

-- the state behind the kill of process t
abbrev pub after_kill : (t : ℕ) → (resumed : List ℕ) → (last : Option ℕ) → SourceState → SourceState
after_kill t resumed last a = record a {
  table = record a.table { waits = put (without_waiters resumed a.table.waits) t None };
  process = put a.process t (Some (Dying Killed (left_of last (held_by (a.process t)))));
}
