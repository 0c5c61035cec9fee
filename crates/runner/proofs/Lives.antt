-- A thread that can move comes to no end by local steps, so it can move where they lead it.
use Rattle.std.proofs.Common.{◌≡◌, ℕ, zero, suc, ◌+◌, Bool, true, false, List, [], ◌∷◌, length}
use Rattle.std.proofs.Common.{Option, Some, None, refl, ap, sym, ◌∙◌}
use Rattle.std.specs.Prelude.{nat_lt}
use Rattle.isa.specs.Programs.{Program}
use Rattle.isa.specs.declared.instr.Instr.{Instr}
use Rattle.words.specs.declared.outcome.Fault.{Fault}
use Rattle.robustexit.specs.declared.phase.ExitPhase.TheVariants.{Entry, Pending, ClearId, LastWake, Ended}
use Rattle.locals.specs.declared.frame.Locals.{Locals}
use Rattle.locals.specs.declared.frame.Frame.{Frame}
use Rattle.locals.specs.Threads.{Thread, Runs, Dies, Exits, fresh}
use Rattle.locals.specs.Looks.{Request, AskReturn, AskReturnValue, Look, Goes}
use Rattle.locals.specs.Looks.{Asks, Leaves, Breaks, Rests, Effect, Then, Keeps, To, Tests, Asking, Trying, Calls}
use Rattle.locals.specs.Looks.{Returns, ReturnsValue, Fails, Misses, Guards, Checks, effect, if_so, or_dies}
use Rattle.locals.specs.Looks.{return_look, at_place, look_at, look}
use Rattle.locals.specs.Steps.{local_after, and_step, local_next}
use Rattle.machine.specs.States.{ConcreteState, thread_of}
use Rattle.machine.specs.Runs.{has_ended}
use Rattle.machine.specs.ConcreteSteps.{put_thread, can_move}
use Rattle.machine.proofs.Placing.{thread_at-put}
use Rattle.machine.proofs.Refusing.{moves_so}
use Rattle.runner.proofs.Handing.{up}

-- there is a next step, and a local one leads to no end
abbrev IsGoing : Look → Type 0
IsGoing (Goes x) = has_ended (Some x) ≡ false
IsGoing (Asks request go) = Unit {0}
IsGoing (Leaves phase) = Unit {0}
IsGoing Breaks = Unit {0}
IsGoing Rests = ⊥

going_if : (test : Bool) (l : Look) → IsGoing l → IsGoing (if_so test l)
going_if true l h = h
going_if false l h = tt

going_or : (test : Bool) (fault : Fault) (l : Look) → IsGoing l → IsGoing (or_dies test fault l)
going_or true fault l h = h
going_or false fault l h = refl

going_back : (request : Request) (operands : List ℕ) (callers : List Frame)
    → IsGoing (return_look request operands callers)
going_back request operands [] = tt
going_back request operands (f ∷ fs) = refl

going_at : (place : ℕ) (locals : Locals) (callers : List Frame) (e : Effect)
    → IsGoing (at_place place locals callers e)
going_at place locals callers (Then operands) = refl
going_at place locals callers (Keeps locals' operands) = refl
going_at place locals callers (To place' operands) = refl
going_at place locals callers (Tests value place' operands) = refl
going_at place locals callers (Asking request answered) = tt
going_at place locals callers (Trying request fault answered) = tt
going_at place locals callers (Calls place' operands) =
    going_if (nat_lt (length callers) 15)
    (Goes (Runs place' operands fresh (record { back = place + 1; locals = locals } ∷ callers))) refl
going_at place locals callers (Returns operands) = going_back AskReturn operands callers
going_at place locals callers (ReturnsValue v operands) = going_back (AskReturnValue v) operands callers
going_at place locals callers (Fails fault) = refl
going_at place locals callers Misses = tt
going_at place locals callers (Guards test e) = going_if test _ (going_at place locals callers e)
going_at place locals callers (Checks test fault e) = going_or test fault _ (going_at place locals callers e)

going_look : (most t : ℕ) (i : Option Instr) (place : ℕ) (operands : List ℕ) (locals : Locals)
    (callers : List Frame) → IsGoing (look_at most t i place operands locals callers)
going_look most t None place operands locals callers = tt
going_look most t (Some i) place operands locals callers =
    going_at place locals callers (effect most t i operands locals)

going : (p : Program) (t : ℕ) (x : Thread) → has_ended (Some x) ≡ false → IsGoing (look p t x)
going p t (Runs place operands locals callers) h = going_look _ t _ place operands locals callers
going p t (Dies cause) h = tt
going p t (Exits (Entry e seen)) h = tt
going p t (Exits Pending) h = tt
going p t (Exits ClearId) h = tt
going p t (Exits LastWake) h = tt
going p t (Exits Ended) h = absurd cc

gone_lives : (l : Look) (x : Thread) → IsGoing l → local_next l ≡ Some x → has_ended (Some x) ≡ false
gone_lives (Goes y) x h e = ap has_ended (sym e) ∙ h
gone_lives (Asks request go) x h e = absurd cc
gone_lives (Leaves phase) x h e = absurd cc
gone_lives Breaks x h e = absurd cc
gone_lives Rests x h e = absurd h

last_lives : (p : Program) (t : ℕ) (mid : Option Thread) (here : Thread)
    → ((m : Thread) → mid ≡ Some m → has_ended (Some m) ≡ false) → and_step p t mid ≡ Some here
    → has_ended (Some here) ≡ false
last_lives p t None here before after = absurd cc
last_lives p t (Some m) here before after = gone_lives (look p t m) here (going p t m (before m refl)) after

after_lives : (p : Program) (t n : ℕ) (o here : Thread) → has_ended (Some o) ≡ false
    → local_after p t n o ≡ Some here → has_ended (Some here) ≡ false
after_lives p t zero o here h after = ap has_ended (sym after) ∙ h
after_lives p t (suc n) o here h after =
    last_lives p t (local_after p t n o) here (λ m is. after_lives p t n o m h is) after

-- a thread that can move can move where its local steps lead it
pub moves_there : (p : Program) (k : ConcreteState) (t n : ℕ) (o here : Thread) → can_move k t ≡ true
    → thread_of k t ≡ Some o → local_after p t n o ≡ Some here → can_move (put_thread k t here) t ≡ true
moves_there p k t n o here moves stands goes =
    let u = up k t moves in
    let origin : Some o ≡ Some u.thread = sym stands ∙ u.stands in
    (moves_so (put_thread k t here) t).1 (record {
      thread = here;
      stands = thread_at-put k.threads t o here stands;
      awake = u.awake;
      goes_on = after_lives p t n o here (ap has_ended origin ∙ u.lives) goes;
    })
