-- A local state whose next step is one of an exit.
use Rattle.std.proofs.Common.{◌≡◌, ℕ, ap}
use Rattle.isa.specs.Programs.{Program}
use Rattle.robustexit.specs.declared.phase.ExitPhase.{ExitPhase}
use Rattle.robustexit.specs.declared.phase.ExitPhase.TheVariants.{Entry, Pending, ClearId, LastWake, Ended}
use Rattle.locals.specs.declared.request.NextStep.TheVariants as next
use Rattle.locals.specs.Threads.{Thread, Runs, Dies, Exits}
use Rattle.locals.specs.Looks.{Look, Goes, Asks, Leaves, Breaks, Rests, look}
use Rattle.locals.specs.Requests.{next_step_of}
use Rattle.machine.proofs.Stepping.{IsOfCode, look_code}
use Rattle.image_states.proofs.Turned.{exit_told}

-- what an instruction comes to is none
code_stays : (l : Look) (phase : ExitPhase) → IsOfCode l → l ≡ Leaves phase → ⊥
code_stays (Goes x) phase h e = absurd cc
code_stays (Asks request go) phase h e = absurd cc
code_stays (Leaves phase') phase h e = absurd h
code_stays Breaks phase h e = absurd cc
code_stays Rests phase h e = absurd cc

pub exits_told : (p : Program) (t : ℕ) (x : Thread) (phase : ExitPhase) → next_step_of (look p t x) ≡ next.Exit phase
    → x ≡ Exits phase
exits_told p t (Runs place operands locals callers) phase told =
    absurd (code_stays _ phase (look_code _ t _ place operands locals callers)
    (exit_told (look p t (Runs place operands locals callers)) phase told))
exits_told p t (Dies cause) phase told = absurd cc
exits_told p t (Exits (Entry a seen)) phase told =
    let same : Entry a seen ≡ phase = cc in ap (λ q. Exits q) same
exits_told p t (Exits Pending) phase told = let same : Pending ≡ phase = cc in ap (λ q. Exits q) same
exits_told p t (Exits ClearId) phase told = let same : ClearId ≡ phase = cc in ap (λ q. Exits q) same
exits_told p t (Exits LastWake) phase told = let same : LastWake ≡ phase = cc in ap (λ q. Exits q) same
exits_told p t (Exits Ended) phase told = absurd cc
