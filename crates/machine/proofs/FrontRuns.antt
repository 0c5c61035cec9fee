-- Runs of the machine itself are runs of the relation.
use Rattle.std.proofs.Common.{◌≡◌, ◌==◌, List, [], ◌∷◌, false, map, refl, ap, sym, subst, inl, inr}
use Rattle.isa.specs.Programs.{Program}
use Rattle.machine.specs.States.{State, ConcreteState, opening_concrete, state_of}
use Rattle.machine.specs.Runs.{Own, Strayed, Killed, Step, GoesBy, is_paused}
use Rattle.machine.specs.FrontRuns.{EventStep, FrontRun, FrontsRunSo, label_of, event_label}
use Rattle.machine.specs.Views.{IsWellFormed}
use Rattle.machine.proofs.Stepping.{opens_so, steps_so}
use Rattle.machine.proofs.OwnEvents.{own_so}
use Rattle.machine.proofs.Outside.{strays_so, stray_told}
use Rattle.machine.proofs.Killing.{kills_so, kill_told}

-- steps of the relation that are those of the machine itself
pub record IsRunOf (p : Program) (k : ConcreteState) (steps : List EventStep) (k' : ConcreteState) : Type 0 where
  pub run : List Step
  pub goes : GoesBy p (state_of k) run (state_of k')
  pub same : map label_of run ≡ map event_label steps
  pub concrete : IsWellFormed p k'

pub run_of : (p : Program) (k k' : ConcreteState) (steps : List EventStep) → IsWellFormed p k
    → FrontRun p k steps k' → IsRunOf p k steps k'
run_of p k k' [] concrete same = record {
  run = [];
  goes = ap state_of same;
  same = refl;
  concrete = subst (λ (q : ConcreteState). IsWellFormed p q) same concrete;
}
run_of p k k' (s ∷ steps) concrete runs = elim runs.1 [
  | inl own ↦
      let r = steps_so p k runs.0 s.thread s.event concrete own in
      let rest = run_of p runs.0 k' steps r.3 runs.2 in
      let told = own_so p k runs.0 s.thread s.event own in record {
        run = record {
          thread = s.thread;
          woken = r.0;
          pauses = is_paused (state_of runs.0) s.thread;
          doing = Own;
        } ∷ rest.run;
        goes = (state_of runs.0, r.2, rest.goes);
        same = λ i. record { thread = s.thread; woken = sym r.1 i; doing = sym told i } ∷ rest.same i;
        concrete = rest.concrete;
      }
  | inr outside ↦ elim outside [
    | inl stray ↦
        let r = strays_so p k runs.0 s.thread s.event concrete stray in
        let rest = run_of p runs.0 k' steps r.2 runs.2 in
        let told = stray_told k runs.0 s.thread s.event stray in record {
          run = record {
            thread = s.thread;
            woken = s.thread ∷ [];
            pauses = false;
            doing = Strayed s.event.value;
          } ∷ rest.run;
          goes = (state_of runs.0, r.1, rest.goes);
          same = λ i. record { thread = s.thread; woken = sym r.0 i; doing = sym told i } ∷ rest.same i;
          concrete = rest.concrete;
        }
    | inr kill ↦
        let r = kills_so p k runs.0 s.thread s.event concrete kill in
        let rest = run_of p runs.0 k' steps r.2 runs.2 in
        let told = kill_told k runs.0 s.thread s.event kill in record {
          run = record {
            thread = s.thread;
            woken = [];
            pauses = false;
            doing = Killed (s.event.value == 1);
          } ∷ rest.run;
          goes = (state_of runs.0, r.1, rest.goes);
          same = λ i. record { thread = s.thread; woken = sym r.0 i; doing = sym told i } ∷ rest.same i;
          concrete = rest.concrete;
        }
  ]
]

pub fronts_run_so : FrontsRunSo
fronts_run_so p k steps runs =
    let r = run_of p (opening_concrete p) k steps (opens_so p).1 runs in
    (r.run, subst (λ (q : State). GoesBy p q r.run (state_of k)) (opens_so p).0 r.goes, r.same)
