-- What comes of the piece of a wait or a wake before which a thread stands.
use Rattle.std.proofs.Common.{◌≡◌, ◌≢◌, ◌+◌, ◌++◌, ◌∷◌, [], ℕ, List, true, false, Some, None, Ok, Err, Result, is_some}
use Rattle.std.proofs.Common.{IfOk, ap, refl, sym, ◌∙◌, arith}
use Rattle.std.specs.Prelude.{OnOk}
use Rattle.std.proofs.lemmas.Bool.{both_ways}
use Rattle.isa.specs.Programs.{Program}
use Rattle.locals.specs.declared.request.NextStep.{NextStep}
use Rattle.locals.specs.declared.request.NextStep.TheVariants as kind
use Rattle.locals.specs.declared.request.Request.{Request}
use Rattle.locals.specs.declared.request.Request.TheVariants as ask
use Rattle.locals.specs.Looks.{Look, Goes, Asks, Leaves, Breaks, Rests, look}
use Rattle.locals.specs.Requests.{call_in, next_step_of, short_call}
use Rattle.locals.specs.Steps.{local_next, local_step}
use Rattle.locals.specs.Threads.{Thread}
use Rattle.machine.specs.declared.event.Entry.{Entry}
use Rattle.machine.specs.declared.event.Event.{Event}
use Rattle.machine.specs.declared.event.StepFault.{StepFault}
use Rattle.piece_machine.specs.PieceConcrete.{PieceConcrete, piece_of}
use Rattle.runner.specs.Attempts.{is_made}
use Rattle.runner.specs.Walks.{EndsWalk, Walked}
use Rattle.runner.specs.declared.attempt.Attempt.{Attempt}
use Rattle.runner.specs.declared.attempt.Attempt.TheVariants.{Accessed, Made}
use Rattle.runner.specs.declared.fault.RunFault.{RunFault}
use Rattle.runner.specs.declared.fault.RunFault.TheVariants as fault
use Rattle.runner.proofs.Growing.{entry}
use Rattle.runner.proofs.Walking.{step_enters, step_next, walk_breaks, walk_enters, walk_waits}

only : (r q : Request) → Some r ≡ Some q → r ≡ q
only r q is = cc

-- a wait or wake that is a step is one
pub is_short : (n : NextStep) (r : Request) → Some r ≡ call_in n → Some r ≡ short_call r
is_short (kind.Shared (ask.Wait a expected)) r is = is ∙ ap short_call (sym (only r (ask.Wait a expected) is))
is_short (kind.Shared (ask.Wake a count)) r is = is ∙ ap short_call (sym (only r (ask.Wake a count) is))
is_short (kind.Shared asked) r is = absurd cc
is_short n r is = absurd cc

-- a request is no step of the thread's own
pub asks_shared : (p : Program) (t : ℕ) (x : Thread) (request : Request) → kind.Shared request ≡ next_step_of (look p t x)
    → is_some (local_step p t x) ≡ false
asks_shared p t x request is = by (look p t x) is
  where
    by : (l : Look) → kind.Shared request ≡ next_step_of l → is_some (local_next l) ≡ false
    by (Goes y) h = absurd cc
    by (Asks asked go) h = refl
    by (Leaves phase) h = refl
    by Breaks h = refl
    by Rests h = refl

pub made_other : Made ≢ Accessed
made_other is = absurd cc

-- the entry of a thread that stands behind its local steps, with the piece
pub step_ends : (p : Program) (k mid new : PieceConcrete) (t n : ℕ) (event : Event) (log log' : List Entry) (a : Attempt)
    (w : Walked p k t n mid) → is_some (local_step p t w.here) ≡ false → piece_of p mid t ≡ Ok (new, event)
    → log' ≡ log ++ entry t n (Some event) ∷ [] → is_made a ≡ true → a ≢ Accessed
    → EndsWalk p k t n log new log' (n + 1) (Ok a)
step_ends p k mid new t n event log log' a w shared done grows made other = record {
  entry = entry t n (Some event);
  own = refl;
  local = refl;
  enters = step_enters p k mid new t n event w shared done;
  grows = grows;
  costs = refl;
  next = step_next p k mid new t n event w shared done;
  made = (made, other);
  fails = tt;
}

-- or without, where it was refused
pub none_ends : (p : Program) (k mid new : PieceConcrete) (t n : ℕ) (f : StepFault) (log log' : List Entry)
    (w : Walked p k t n mid) → is_some (local_step p t w.here) ≡ false → piece_of p mid t ≡ Err f → new ≡ mid
    → log' ≡ log ++ entry t n None ∷ [] → EndsWalk p k t n log new log' n (Err fault.Broken)
none_ends p k mid new t n f log log' w shared fails same grows = record {
  entry = entry t n None;
  own = refl;
  local = refl;
  enters = walk_enters p k mid new t n w same;
  grows = grows;
  costs = omega arith;
  next = tt;
  made = tt;
  fails = λ free. walk_breaks p k mid t n f w shared fails (λ waits. free (walk_waits p k mid t n w waits));
}

-- an entry that was made has made the log longer, and is none that wasn't
pub on_made : (P : Type 0) (o : Result Attempt RunFault) → OnOk o P → IfOk o (λ a. is_made a ≡ true → P)
on_made P (Ok a) h = λ is. h
on_made P (Err f) h = tt

pub none_not : (Q : Attempt → Type 0) (o : Result Attempt RunFault) → IfOk o (λ a. (is_made a ≡ true) × (a ≢ Accessed))
    → IfOk o (λ a. is_made a ≡ false → Q a)
none_not Q (Ok a) h = λ is. absurd (both_ways (is_made a) is h.0)
none_not Q (Err f) h = tt
