-- A thread that dies of a fault, as the next step tells.
use Rattle.std.proofs.Common.{◌≡◌, ℕ, refl, true, false}
use Rattle.words.specs.declared.outcome.Cause.TheVariants.{Faulted, Killed}
use Rattle.words.specs.declared.outcome.Fault.{Fault}
use Rattle.isa.specs.Programs.{Program}
use Rattle.robustexit.specs.declared.phase.ExitPhase.TheVariants.{Entry, Pending, ClearId, LastWake, Ended}
use Rattle.locals.specs.Looks.{look}
use Rattle.locals.specs.Requests.{next_step_of}
use Rattle.locals.specs.Threads.{Thread, Dies, Exits, Runs, is_dying}
use Rattle.image_search.specs.Found.{IsFault}

pub dies_of : (p : Program) (t : ℕ) (x : Thread) → is_dying x ≡ true → IsFault (next_step_of (look p t x))
    → (fault : Fault) × (x ≡ Dies (Faulted fault))
dies_of p t (Runs place operands locals callers) dying is = absurd (let e : false ≡ true = dying in cc)
dies_of p t (Dies (Faulted fault)) dying is = (fault, refl)
dies_of p t (Dies Killed) dying is = absurd is
dies_of p t (Exits (Entry e seen)) dying is = absurd is
dies_of p t (Exits Pending) dying is = absurd is
dies_of p t (Exits ClearId) dying is = absurd is
dies_of p t (Exits LastWake) dying is = absurd is
dies_of p t (Exits Ended) dying is = absurd is
