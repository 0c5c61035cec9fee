-- Whether a step is a visible action, as the code has the step.
use Rattle.std.specs.Prelude.{ℕ, ◌==◌, ◌&&◌, ◌||◌, not, Bool, true, false}
use Rattle.locals.specs.declared.request.Request.{Request}
use Rattle.locals.specs.declared.request.Request.TheVariants as told
use Rattle.locals.specs.declared.request.NextStep.{NextStep}
use Rattle.locals.specs.declared.request.NextStep.TheVariants as next
use Rattle.program.specs.Trees.{Program}
use Rattle.proof_simulation.specs.Ordering.{is_process_word, is_link_word, is_lock_word, completes_exit}
use Rattle.protocol.specs.Word.{owner}

-- whether a request with this value in its event is one
abbrev pub visible_request : Program → Request → ℕ → Bool
visible_request p (told.CompareSwap a expected new) v = (v == expected) && (owner expected == 0)
visible_request p (told.Swap a new) v = (new == 0) || (v == 0)
visible_request p (told.Load a) v = is_process_word p 2 a.0 && (v == 0)
visible_request p (told.Store a value) v =
    not (is_process_word p 0 a.0) && not (is_process_word p 1 a.0) && not (is_link_word p a.0)
visible_request p (told.Wake a n) v = not (is_lock_word p a.0)
visible_request p (told.FetchAdd a added) v = not (added == 1)
visible_request p (told.Requeue from to wake moves expected) v = true
visible_request p (told.Print number) v = true
visible_request p request v = false

-- whether what thread t comes to is one, with these words before it and this value in its event
abbrev pub visible_step : Program → (word : ℕ → ℕ) → (t : ℕ) → NextStep → ℕ → Bool
visible_step p word t (next.Shared request) v = visible_request p request v
visible_step p word t (next.Fork entry count has_room) v = not (v == 0)
visible_step p word t (next.Exit phase) v = completes_exit word t phase
visible_step p word t step v = false

-- whether a thread that comes to this raises the number of a condition's word
abbrev pub raises : NextStep → Bool
raises (next.Shared (told.FetchAdd a v)) = v == 1
raises step = false
