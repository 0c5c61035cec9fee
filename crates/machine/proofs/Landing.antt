-- What is kept after a step, as a state.
use Rattle.std.proofs.Common.{◌≡◌, ℕ, zero, suc, ◌-◌, ◌<◌, ◌≤◌, List, length, Some, Result, Ok, slice_set, ap}
use Rattle.std.proofs.Common.{sym, ◌∙◌, arith, length-set}
use Rattle.std.specs.Prelude.{slice_index}
use Rattle.std.proofs.lemmas.Option.{slice_get_within}
use Rattle.words.specs.Process.{process_word}
use Rattle.isa.specs.Programs.{Program}
use Rattle.locals.specs.Threads.{Thread}
use Rattle.locals.specs.Looks.{Look}
use Rattle.robustexit.specs.ExitRules.{exit_of}
use Rattle.machine.specs.declared.event.Event.{Event}
use Rattle.machine.specs.declared.event.StepFault.{StepFault}
use Rattle.machine.specs.ThreadSets.{set_of}
use Rattle.robustexit.specs.RobustExit.{put}
use Rattle.machine.specs.States.{Common, ConcreteState, thread_of, state_of}
use Rattle.machine.specs.Runs.{Moves}
use Rattle.machine.specs.Views.{IsWellFormed}
use Rattle.machine.proofs.Placing.{threads_put}
use Rattle.machine.proofs.Keeping.{Holds}

-- what a step of a thread that looks so leaves
pub record Steps (p : Program) (k k' : ConcreteState) (t : ℕ) (e : Event) (l : Look) : Type 0 where
  pub woken : List ℕ
  pub set : e.woken ≡ set_of woken
  pub moves : Moves (exit_of p.version) (state_of k) t woken l (state_of k')
  pub concrete : IsWellFormed p k'

-- the outcome of a step that is done
pub inside : (x y : ConcreteState × Event)
    → (let R : Type 0 = Result (ConcreteState × Event) StepFault in
    (let a : R = Ok x in a) ≡ (let b : R = Ok y in b)) → x ≡ y
inside x y h = cc

-- a state after the words, the sleepers, the output and one thread changed
pub state_is : (k : ConcreteState) (t : ℕ) (x y : Thread) (c : Common) (w : ℕ → ℕ) → thread_of k t ≡ Some y
    → ((b : ℕ) → slice_index c.words b ≡ w b) → c.most ≡ k.common.most
    → length c.words ≡ length k.common.words → state_of (record { common = c; threads = slice_set k.threads (t - 1) x })
    ≡ record {
      most = k.common.most;
      word = w;
      size = length k.common.words;
      made = length k.threads;
      thread =
          put (thread_of k) t (Some x);
      asleep = c.asleep;
      output = c.output;
    }
state_is k t x y c w stands word most same = λ i. record {
  most = most i;
  word = λ b. word b i;
  size = same i;
  made = length-set k.threads (t - 1) x i;
  thread = λ u. threads_put k.threads t x y stands u i;
  asleep = c.asleep;
  output = c.output;
}

pub record Lands (p : Program) (k k' : ConcreteState) (t : ℕ) (e ev : Event) (x : Thread) (c : Common)
    (w : ℕ → ℕ) : Type 0 where
  pub state : state_of k' ≡ record {
    most = k.common.most;
    word = w;
    size = length k.common.words;
    made = length k.threads;
    thread =
        put (thread_of k) t (Some x);
    asleep = c.asleep;
    output = c.output;
  }
  pub event : e.woken ≡ ev.woken
  pub concrete : IsWellFormed p k'

pub lands : (p : Program) (k k' : ConcreteState) (t : ℕ) (e ev : Event) (x y : Thread) (c : Common) (w : ℕ → ℕ)
    → IsWellFormed p k → thread_of k t ≡ Some y → Holds p (length k.threads) c
    → ((b : ℕ) → slice_index c.words b ≡ w b)
    → (let R : Type 0 = Result (ConcreteState × Event) StepFault in
    (let a : R = Ok (record { common = c; threads = slice_set k.threads (t - 1) x }, ev) in a)
    ≡ (let b : R = Ok (k', e) in b)) → Lands p k k' t e ev x c w
lands p k k' t e ev x y c w concrete stands holds word h =
    let is = inside _ (k', e) h in
    let k'-is : k' ≡ record { common = c; threads = slice_set k.threads (t - 1) x } =
    ap (λ (q : ConcreteState × Event). q.0) (sym is) in
    let long : length (slice_set k.threads (t - 1) x) ≡ length k.threads = length-set k.threads (t - 1) x in
    record {
      state = ap state_of k'-is ∙ state_is k t x y c w stands word
          (holds.most ∙ sym concrete.most) (holds.sized ∙ sym concrete.sized);
      event = ap (λ (q : ConcreteState × Event). q.1.woken) (sym is);
      concrete = rw k'-is (record {
        most = holds.most;
        fits = omega (arith, holds.most, concrete.most, concrete.fits);
        sized = holds.sized;
        some = omega (arith, long, concrete.some);
        few = omega (arith, long, concrete.few, holds.most, concrete.most);
        agree = holds.agree;
        made = λ u a g. let r = holds.made u a g in (r.0, omega (arith, long, r.1));
      });
    }

-- a thread that was made has its number among the threads, and its words in the memory
pub record HasPlace (k : ConcreteState) (t : ℕ) : Type 0 where
  pub some : 1 ≤ t
  pub few : t ≤ length k.threads
  pub words : process_word t 5 < length k.common.words

pub has_place : (p : Program) (k : ConcreteState) (t : ℕ) (y : Thread) → IsWellFormed p k → thread_of k t ≡ Some y
    → HasPlace k t
has_place p k zero y concrete stands = absurd cc
has_place p k (suc t) y concrete stands =
    let few : t < length k.threads = slice_get_within k.threads t y stands in
    record { some = omega arith; few = omega arith; words = omega (arith, concrete.sized, concrete.few, concrete.most) }
