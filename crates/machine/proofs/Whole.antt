-- A step on the parts of a machine is a step of the machine.
use Rattle.std.proofs.Common.{◌≡◌, ℕ, zero, suc, ◌-◌, ◌<◌, ◌≤◌, List, [], ◌∷◌}
use Rattle.std.proofs.Common.{length, get_or, Some, None, Result, Ok, Err, slice_get, slice_set, replicate}
use Rattle.std.proofs.Common.{refl, sym, ap, ◌∙◌, arith}
use Rattle.std.specs.Prelude.{OnOk, OnErr}
use Rattle.std.proofs.Math.Path.{fun_ext}
use Rattle.words.specs.Versions.{most_of}
use Rattle.isa.specs.Programs.{Program, memory_size}
use Rattle.buckets.specs.Sleepers.{Sleepers, queue, place_of, thread_count}
use Rattle.robustexit.specs.declared.phase.ExitPhase.TheVariants.{Ended}
use Rattle.locals.specs.Threads.{Thread, Exits, opening_thread}
use Rattle.locals.specs.Looks.{look}
use Rattle.locals.specs.Requests.{next_step_of}
use Rattle.locals.specs.declared.request.NextStep.{NextStep}
use Rattle.robustexit.specs.ExitRules.{exit_of}
use Rattle.machine.specs.declared.event.Event.{Event}
use Rattle.machine.specs.declared.event.StepFault.{StepFault}
use Rattle.machine.specs.States.{ConcreteState, thread_at, thread_of, opening_concrete}
use Rattle.machine.specs.ConcreteSteps.{Stepped, thread_step, on_machine, step_awake, step_thread}
use Rattle.machine.specs.ConcreteSteps.{step_of}
use Rattle.machine.specs.Views.{IsWellFormed, concrete_of}
use Rattle.machine.proofs.Stepping.{steps_so}

got : (ts : List Thread) (i : ℕ) (x d : Thread) → i < length ts → x ≡ get_or ts i d → slice_get ts i ≡ Some x
got [] i x d l h = absurd (omega arith)
got (y ∷ ts) zero x d l h = ap (λ z. Some z) (sym h)
got (y ∷ ts) (suc i) x d l h = got ts i x d (omega arith) h

pub stands_at : (ts : List Thread) (t : ℕ) (x d : Thread) → 0 < t → t ≤ length ts → x ≡ get_or ts (t - 1) d
    → thread_at ts t ≡ Some x
stands_at ts zero x d some few h = absurd (omega arith)
stands_at ts (suc t) x d some few h =
    got ts t x d (omega arith) (h ∙ ap (λ i. get_or ts i d) (let e : suc t - 1 ≡ t = omega arith in e))

-- a thread of a number in range was made
pub made_at : (ts : List Thread) (t : ℕ) → (0 < t) × (t ≤ length ts) → (x : Thread) × (thread_at ts t ≡ Some x)
made_at ts t there = (_, stands_at ts t _ (Exits Ended) there.0 there.1 refl)

-- the next step of the thread that stands there, as it was told
pub told_there : (p : Program) (ts : List Thread) (t : ℕ) (n : NextStep) (x d : Thread) → (0 < t) × (t ≤ length ts)
    → x ≡ get_or ts (t - 1) d → ((y : Thread) → thread_at ts t ≡ Some y → n ≡ next_step_of (look p t y))
    → next_step_of (look p t x) ≡ n
told_there p ts t n x d there at told = sym (told x (stands_at ts t x d there.0 there.1 at))

pub stepped : (p : Program) (k : ConcreteState) (t made : ℕ) (x : Thread) (r : Result Stepped StepFault)
    → thread_of k t ≡ Some x → k.common.asleep t ≡ None → made ≡ length k.threads
    → thread_step (exit_of p.version) made t k.common (look p t x) ≡ r → step_of p k t ≡ on_machine k t r
stepped p k t made x r stands awake counted done =
    ap (step_thread p k t) stands ∙ ap (step_awake p k t x) awake
    ∙ ap (λ m. on_machine k t (thread_step (exit_of p.version) m t k.common (look p t x))) (sym counted) ∙ ap (on_machine k t) done

pub kept_after : {A : Type 0} (p : Program) (k k' : ConcreteState) (t : ℕ) (r : Result A StepFault) (e : Event)
    → IsWellFormed p k → OnOk r (step_of p k t ≡ Ok (k', e)) → OnErr r (k' ≡ k) → IsWellFormed p k'
kept_after p k k' t (Ok u) e concrete done same = (steps_so p k k' t e concrete done).3
kept_after p k k' t (Err f) e concrete done same = rw same concrete

-- the parts of a machine at the start of a program
pub opened : (p : Program) (words : List ℕ) (s : Sleepers) (threads : List Thread)
    → words ≡ slice_set (replicate (memory_size p) 0) 3 1 → ((a : ℕ) → queue s a ≡ [])
    → ((t : ℕ) → place_of s t ≡ None) → threads ≡ opening_thread p.start [] ∷ []
    → thread_count s ≡ most_of p.version → concrete_of words s threads [] ≡ opening_concrete p
opened p words s threads w q a t m =
    let queues : queue s ≡ (λ b. []) = fun_ext q in
    let places : place_of s ≡ (λ u. None) = fun_ext a in
    λ i. record {
      common = record {
        most = m i;
        words = w i;
        queue = queues i;
        asleep = places i;
        output = [];
      };
      threads = t i;
    }
