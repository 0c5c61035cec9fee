-- A kill from outside is a step of the relation: who is killed stands in no list then, and begins to die.
use Rattle.std.proofs.Common.{◌≡◌, ℕ, ◌-◌, ◌==◌, Bool, true, false, not, Option, Some, None, Ok, Err}
use Rattle.std.proofs.Common.{[], length, length-set, slice_set, refl, sym, ap, ◌∙◌, subst, arith}
use Rattle.std.specs.Prelude.{◌↔◌}
use Rattle.std.proofs.Math.Path.{fun_ext}
use Rattle.words.specs.declared.outcome.Cause.TheVariants.{Killed as Killed'}
use Rattle.isa.specs.Programs.{Program}
use Rattle.locals.specs.Threads.{Thread, Dies, is_dying}
use Rattle.machine.specs.declared.event.Event.{Event}
use Rattle.machine.specs.declared.event.StepFault.TheVariants.{CannotMove}
use Rattle.machine.specs.ThreadSets.{set_of}
use Rattle.machine.specs.States.{ConcreteState, state_of, thread_of}
use Rattle.machine.specs.ConcreteOutside.{killed_in, kill_by, kill_at, kill_of}
use Rattle.machine.specs.Runs.{Killed, IsStep, killed_to}
use Rattle.machine.specs.Views.{IsWellFormed}
use Rattle.machine.specs.Determined.{KillsSo, KillRefusedSo}
use Rattle.machine.specs.FrontRuns.{doing_of}
use Rattle.machine.proofs.Placing.{threads_put}
use Rattle.machine.proofs.Landing.{inside}
use Rattle.machine.proofs.Outside.{keeps_dropped, with_one}

-- as many threads were made as before
as_many : (k : ConcreteState) (t : ℕ) → length (slice_set k.threads (t - 1) (Dies Killed')) ≡ length k.threads
as_many k t = length-set k.threads (t - 1) (Dies Killed')

-- what always holds is kept
pub keeps_killed : (p : Program) (k : ConcreteState) (t : ℕ) → IsWellFormed p k → IsWellFormed p (killed_in k t)
keeps_killed p k t concrete =
    let dropped = keeps_dropped p k t concrete in
    let same = as_many k t in record {
      most = dropped.most;
      fits = dropped.fits;
      sized = dropped.sized;
      some = omega (arith, same, concrete.some);
      few = omega (arith, same, concrete.few);
      agree = dropped.agree;
      made = λ v a h. let r = dropped.made v a h in (r.0, omega (arith, same, r.1));
    }

-- the state that is kept stands for the one behind the kill
state_killed : (k : ConcreteState) (t : ℕ) (x : Thread) → thread_of k t ≡ Some x
    → state_of (killed_in k t) ≡ killed_to true (state_of k) t
state_killed k t x stands =
    let threads = fun_ext (threads_put k.threads t (Dies Killed') x stands) in
    λ i. record (state_of k) {
      made = as_many k t i;
      thread = threads i;
      asleep = with_one k.common.asleep t i;
    }

-- what a kill from outside is, and leaves
abbrev Kills : Program → ConcreteState → ConcreteState → ℕ → Event → Type 0
Kills p k k' t e = (e.woken ≡ set_of [])
    × IsStep p (state_of k) (record { thread = t; woken = []; pauses = false; doing = Killed (e.value == 1) })
    (state_of k') × IsWellFormed p k'

by_dying : (p : Program) (k k' : ConcreteState) (t : ℕ) (e : Event) (x : Thread) (b : Bool) → IsWellFormed p k
    → thread_of k t ≡ Some x → is_dying x ≡ b → kill_by k t b ≡ Ok (k', e) → Kills p k k' t e
by_dying p k k' t e x true concrete stands dying h =
    subst (λ (q : ConcreteState × Event). Kills p k q.0 t q.1) (inside _ (k', e) h) (
      refl,
      record {
        thread = x;
        stands = stands;
        begins_so = ap not (sym dying);
        woken = refl;
        after = refl;
        pauses = refl;
      },
      concrete,
    )
by_dying p k k' t e x false concrete stands dying h =
    subst (λ (q : ConcreteState × Event). Kills p k q.0 t q.1) (inside _ (k', e) h) (
      refl,
      record {
        thread = x;
        stands = stands;
        begins_so = ap not (sym dying);
        woken = refl;
        after = state_killed k t x stands;
        pauses = refl;
      },
      keeps_killed p k t concrete,
    )

by_thread : (p : Program) (k k' : ConcreteState) (t : ℕ) (e : Event) (o : Option Thread) → IsWellFormed p k
    → thread_of k t ≡ o → kill_at k t o ≡ Ok (k', e) → Kills p k k' t e
by_thread p k k' t e None concrete stands h = absurd cc
by_thread p k k' t e (Some x) concrete stands h = by_dying p k k' t e x (is_dying x) concrete stands refl h

pub kills_so : KillsSo
kills_so p k k' t e concrete h = by_thread p k k' t e (thread_of k t) concrete refl h

never_refused : (k : ConcreteState) (t : ℕ) (b : Bool) → kill_by k t b ≡ Err CannotMove → ⊥
never_refused k t true h = absurd cc
never_refused k t false h = absurd cc

pub kill_refused_so : KillRefusedSo
kill_refused_so k t = by_stand (thread_of k t) refl
  where
    by_stand : (o : Option Thread) → thread_of k t ≡ o
        → (kill_at k t (thread_of k t) ≡ Err CannotMove) ↔ (thread_of k t ≡ None)
    by_stand None at = (λ h. at, λ h. ap (kill_at k t) at)
    by_stand (Some x) at = (
      λ h. absurd (never_refused k t (is_dying x) (ap (kill_at k t) (sym at) ∙ h)),
      λ h. absurd (no_thread (sym at ∙ h)),
    )
      where
        no_thread : Some x ≡ None → ⊥
        no_thread h = absurd cc

told_by : (k k' : ConcreteState) (t : ℕ) (e : Event) (b : Bool) → kill_by k t b ≡ Ok (k', e)
    → doing_of e.name e.value ≡ Killed (e.value == 1)
told_by k k' t e true h =
    subst (λ (q : ConcreteState × Event). doing_of q.1.name q.1.value ≡ Killed (q.1.value == 1))
    (inside _ (k', e) h) refl
told_by k k' t e false h =
    subst (λ (q : ConcreteState × Event). doing_of q.1.name q.1.value ≡ Killed (q.1.value == 1))
    (inside _ (k', e) h) refl

told_at : (k k' : ConcreteState) (t : ℕ) (e : Event) (o : Option Thread) → kill_at k t o ≡ Ok (k', e)
    → doing_of e.name e.value ≡ Killed (e.value == 1)
told_at k k' t e None h = absurd cc
told_at k k' t e (Some x) h = told_by k k' t e (is_dying x) h

-- the event of a kill tells so
pub kill_told : (k k' : ConcreteState) (t : ℕ) (e : Event) → kill_of k t ≡ Ok (k', e)
    → doing_of e.name e.value ≡ Killed (e.value == 1)
kill_told k k' t e h = told_at k k' t e (thread_of k t) h
