-- The machine's own steps are steps of the relation, from its opening on.
use Rattle.std.proofs.Common.{◌≡◌, ℕ, zero, suc, ◌+◌, ltb, ◌<◌, Bool, true, false, List, [], ◌∷◌, length, Option}
use Rattle.std.proofs.Common.{Some, None, Ok, slice_set, replicate, refl, ◌∙◌, arith, length-set}
use Rattle.std.specs.Prelude.{slice_index}
use Rattle.std.specs.List.{IsDistinct}
use Rattle.std.proofs.lemmas.List.{length-replicate}
use Rattle.words.specs.Versions.{most_of}
use Rattle.words.proofs.Versions.{most_few, most_some}
use Rattle.isa.specs.Programs.{Program, memory_size}
use Rattle.isa.specs.declared.instr.Instr.{Instr}
use Rattle.words.specs.declared.outcome.Fault.{Fault}
use Rattle.robustexit.specs.declared.phase.ExitPhase.TheVariants.{Entry, Pending, ClearId, LastWake, Ended}
use Rattle.locals.specs.declared.frame.Frame.{Frame}
use Rattle.locals.specs.declared.frame.Locals.{Locals}
use Rattle.locals.specs.Threads.{Thread, Runs, Dies, Exits, fresh, opening_thread}
use Rattle.locals.specs.Looks.{Request, AskFork, Look, Goes, Asks, Leaves, Breaks, Rests, look, look_at, at_place}
use Rattle.locals.specs.Looks.{return_look, if_so, or_dies, effect, Effect, Then, Keeps, To, Tests, Asking, Trying}
use Rattle.locals.specs.Looks.{Calls, Returns, ReturnsValue, Fails, Misses, Guards, Checks}
use Rattle.robustexit.specs.ExitRules.{exit_of}
use Rattle.machine.specs.declared.event.Event.{Event}
use Rattle.robustexit.specs.RobustExit.{put}
use Rattle.machine.specs.States.{ConcreteState, thread_at, thread_of, state_of, with_thread}
use Rattle.machine.specs.ConcreteExits.{leave}
use Rattle.machine.specs.ConcreteSteps.{thread_step, on_machine, step_thread, step_awake}
use Rattle.buckets.specs.Places.{Agree}
use Rattle.machine.specs.Views.{IsWellFormed}
use Rattle.machine.specs.Determined.{OpensSo, StepsSo}
use Rattle.machine.proofs.Placing.{by_place, words_put}
use Rattle.machine.proofs.Keeping.{holds-concrete}
use Rattle.machine.proofs.Landing.{Steps, lands, has_place}
use Rattle.machine.proofs.Serves.{serves_so}
use Rattle.machine.proofs.Forks.{forks}
use Rattle.machine.proofs.Leaving.{leaving, IsUnderWay}

-- what a thread can come to: no step of an exit that is over
abbrev pub IsNext : Look → Type 0
IsNext (Goes x) = Unit {0}
IsNext (Asks request go) = Unit {0}
IsNext (Leaves phase) = IsUnderWay phase
IsNext Breaks = Unit {0}
IsNext Rests = Unit {0}

-- what an instruction can come to
abbrev pub IsOfCode : Look → Type 0
IsOfCode (Goes x) = Unit {0}
IsOfCode (Asks request go) = Unit {0}
IsOfCode (Leaves phase) = ⊥
IsOfCode Breaks = Unit {0}
IsOfCode Rests = ⊥

if_so_code : (b : Bool) (l : Look) → IsOfCode l → IsOfCode (if_so b l)
if_so_code true l h = h
if_so_code false l h = tt

or_dies_code : (b : Bool) (fault : Fault) (l : Look) → IsOfCode l → IsOfCode (or_dies b fault l)
or_dies_code true fault l h = h
or_dies_code false fault l h = tt

returned_code : (request : Request) (operands : List ℕ) (callers : List Frame)
    → IsOfCode (return_look request operands callers)
returned_code request operands [] = tt
returned_code request operands (f ∷ fs) = tt

place_code : (place : ℕ) (locals : Locals) (callers : List Frame) (e : Effect)
    → IsOfCode (at_place place locals callers e)
place_code place locals callers (Then operands) = tt
place_code place locals callers (Keeps locals' operands) = tt
place_code place locals callers (To place' operands) = tt
place_code place locals callers (Tests value place' operands) = tt
place_code place locals callers (Asking request answered) = tt
place_code place locals callers (Trying request fault answered) = tt
place_code place locals callers (Calls place' operands) =
    if_so_code (ltb (length callers) 15)
    (Goes (Runs place' operands fresh (record { back = place + 1; locals = locals } ∷ callers))) tt
place_code place locals callers (Returns operands) = returned_code _ operands callers
place_code place locals callers (ReturnsValue v operands) = returned_code _ operands callers
place_code place locals callers (Fails fault) = tt
place_code place locals callers Misses = tt
place_code place locals callers (Guards test e) = if_so_code test _ (place_code place locals callers e)
place_code place locals callers (Checks test fault e) = or_dies_code test fault _ (place_code place locals callers e)

pub look_code : (most t : ℕ) (i : Option Instr) (place : ℕ) (operands : List ℕ) (locals : Locals) (callers : List Frame)
    → IsOfCode (look_at most t i place operands locals callers)
look_code most t None place operands locals callers = tt
look_code most t (Some i) place operands locals callers =
    place_code place locals callers (effect most t i operands locals)

next_of_code : (l : Look) → IsOfCode l → IsNext l
next_of_code (Goes x) h = tt
next_of_code (Asks request go) h = tt
next_of_code (Leaves phase) h = absurd h
next_of_code Breaks h = tt
next_of_code Rests h = tt

pub is_next : (p : Program) (t : ℕ) (x : Thread) → IsNext (look p t x)
is_next p t (Runs place operands locals callers) = next_of_code _ (look_code _ t _ place operands locals callers)
is_next p t (Dies cause) = tt
is_next p t (Exits (Entry e seen)) = tt
is_next p t (Exits Pending) = tt
is_next p t (Exits ClearId) = tt
is_next p t (Exits LastWake) = tt
is_next p t (Exits Ended) = tt

steps_by : (p : Program) (k k' : ConcreteState) (t : ℕ) (e : Event) (y : Thread) (l : Look) → IsNext l
    → IsWellFormed p k → thread_of k t ≡ Some y → k.common.asleep t ≡ None
    → on_machine k t (thread_step (exit_of p.version) (length k.threads) t k.common l) ≡ Ok (k', e) → Steps p k k' t e l
steps_by p k k' t e y (Goes x) next concrete stands awake h =
    let r = lands p k k' t e _ x y k.common (λ b. slice_index k.common.words b) concrete stands
    (holds-concrete p k concrete) (λ b. refl) h in
    record { woken = []; set = r.event; moves = (refl, r.state); concrete = r.concrete }
steps_by p k k' t e y (Asks (AskFork entry arguments has_room) go) next concrete stands awake h =
    forks p k k' t e y go entry arguments has_room concrete stands (has_place p k t y concrete stands) h
steps_by p k k' t e y (Asks request go) next concrete stands awake h =
    serves_so p k k' t e y request go tt concrete stands awake (has_place p k t y concrete stands) h
steps_by p k k' t e y (Leaves phase) next concrete stands awake h =
    let l = leave (exit_of p.version) t phase k.common in
    let g = leaving (exit_of p.version) p k t phase next concrete (has_place p k t y concrete stands) in
    let r = lands p k k' t e l.event (Exits l.next) y l.common g.word concrete stands g.holds g.words h in
    record {
      woken = g.woken;
      set = r.event ∙ g.set;
      moves = (
        record { word = g.word; asleep = l.common.asleep },
        l.next,
        g.step,
        r.state
            ∙ (λ i. with_thread (record (state_of k) { word = g.word; asleep = l.common.asleep; output = g.output i })
            t (Exits l.next)),
      );
      concrete = r.concrete;
    }
steps_by p k k' t e y Breaks next concrete stands awake h = absurd cc
steps_by p k k' t e y Rests next concrete stands awake h = absurd cc

-- with what a step is done
pub record Done (p : Program) (k k' : ConcreteState) (t : ℕ) (e : Event) : Type 0 where
  pub thread : Thread
  pub stands : thread_of k t ≡ Some thread
  pub awake : k.common.asleep t ≡ None
  pub done : on_machine k t (thread_step (exit_of p.version) (length k.threads) t k.common (look p t thread)) ≡ Ok (k', e)

done_awake : (p : Program) (k k' : ConcreteState) (t : ℕ) (e : Event) (x : Thread) (o : Option ℕ)
    → thread_of k t ≡ Some x → k.common.asleep t ≡ o → step_awake p k t x o ≡ Ok (k', e) → Done p k k' t e
done_awake p k k' t e x None stands awake h = record { thread = x; stands = stands; awake = awake; done = h }
done_awake p k k' t e x (Some a) stands awake h = absurd cc

pub done_by : (p : Program) (k k' : ConcreteState) (t : ℕ) (e : Event) (o : Option Thread) → thread_of k t ≡ o
    → step_thread p k t o ≡ Ok (k', e) → Done p k k' t e
done_by p k k' t e None stands h = absurd cc
done_by p k k' t e (Some x) stands h = done_awake p k k' t e x (k.common.asleep t) stands refl h

pub steps_so : StepsSo
steps_so p k k' t e concrete h =
    let d = done_by p k k' t e (thread_of k t) refl h in
    let s = steps_by p k k' t e d.thread (look p t d.thread)
    (is_next p t d.thread) concrete d.stands d.awake d.done in (
      s.woken,
      s.set,
      record {
        thread = d.thread;
        stands = d.stands;
        awake = d.awake;
        moves = s.moves;
        pauses =
            refl;
      },
      s.concrete,
    )

zeros : (n b : ℕ) → slice_index (replicate n 0) b ≡ 0
zeros zero b = refl
zeros (suc n) zero = refl
zeros (suc n) (suc b) = zeros n b

one_thread : (x : Thread) (u : ℕ) → thread_at (x ∷ []) u ≡ put (λ t. None) 1 (Some x) u
one_thread x zero = refl
one_thread x (suc zero) = refl
one_thread x (suc (suc u)) = by_place (λ (t : ℕ). let o : Option Thread = None in o) 1 (Some x) (suc (suc u)) None
    (λ e. absurd (omega arith)) (λ n. refl)

abbrev zero_words : ℕ → List ℕ
zero_words n = replicate n 0

long : (n : ℕ) → length (zero_words n) ≡ n
long n = length-replicate n _

opening_words : (n : ℕ) → 3 < n → (b : ℕ) → slice_index (slice_set (zero_words n) 3 1) b ≡ put (λ a. 0) 3 1 b
opening_words n some b = words_put (zero_words n) 3 1 (omega (arith, long n)) b ∙ (λ i. put (λ a. zeros n a i) 3 1 b)

opening_size : (n : ℕ) → length (slice_set (zero_words n) 3 1) ≡ n
opening_size n = length-set (zero_words n) 3 1 ∙ long n

-- nobody sleeps
agree_opening : Agree (λ a. []) (λ t. None)
unfolding IsDistinct
agree_opening = record { stands = λ t a h. absurd cc; sleeps = λ t a h. absurd cc; distinct = λ a. tt }

wide : (p : Program) → 3 < memory_size p
wide p = let some = most_some p.version in omega (arith, some)

pub opens_so : OpensSo
opens_so p = (
  (λ i. record {
    most = most_of p.version;
    word = λ b. opening_words (memory_size p) (wide p) b i;
    size = opening_size (memory_size p) i;
    made = 1;
    thread = λ u. one_thread (opening_thread p.start []) u i;
    asleep = λ t. None;
    output = [];
  }),
  record {
    most = refl;
    fits = most_few p.version;
    sized = opening_size (memory_size p);
    some = omega arith;
    few = let some = most_some p.version in omega (arith, some);
    agree = agree_opening;
    made = λ t a h. absurd cc;
  },
)
