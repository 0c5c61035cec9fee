-- Where a run meets a step that may not be, local steps of one thread lead there from where the log leads.
use Rattle.std.proofs.Common.{◌≡◌, ◌≤◌, ◌<◌, ◌-◌, ℕ, Some, subst, sym, ◌∙◌, refl, length-set, arith}
use Rattle.std.proofs.lemmas.Bool.{eq-eqb}
use Rattle.words.specs.Updates.{put}
use Rattle.locals.specs.Threads.{Thread}
use Rattle.locals.specs.Looks.{Request, AskLoad, AskStore, AskSwap, AskCompareSwap, AskOr, AskAdd, AskFork, AskPrint}
use Rattle.locals.specs.Looks.{AskWait, AskWake, AskRequeue, AskReturn, AskReturnValue, AskFault, Look, Goes}
use Rattle.locals.specs.Looks.{Asks, Leaves, Breaks, Rests, look}
use Rattle.locals.specs.Steps.{local_step}
use Rattle.machine.specs.AbstractServing.{IsUnserved, Lies}
use Rattle.machine.specs.Runs.{IsBroken}
use Rattle.machine.specs.States.{State, state_of, with_thread}
use Rattle.machine.specs.declared.event.StepFault.TheVariants.{Broken}
use Rattle.machine.proofs.Placing.{thread_at-put}
use Rattle.piece_machine.specs.PieceConcrete.{piece_of, with_local}
use Rattle.piece_machine.proofs.Refused.{piece_breaks_so}
use Rattle.runner.specs.LogRuns.{LocallySo}
use Rattle.runner.proofs.Handing.{refused_by, up}
use Rattle.runner.proofs.Unrolling.{holds, kept_put}

out_there : (s s' : State) (a : ℕ) → s'.size ≡ s.size → (Lies s a → ⊥) → Lies s' a → ⊥
out_there s s' a same out lies = out (subst (λ (n : ℕ). a < n) same lies)

-- what can't be served depends on the memory's size, on how many threads were made and on how many there can be alone;
-- it can't be either where fewer were made
unserved_there : (r : Request) (s s' : State) → s'.size ≡ s.size → s'.made ≤ s.made → s'.most ≡ s.most
    → IsUnserved r s → IsUnserved r s'
unserved_there (AskLoad a) s s' size made most h = out_there s s' a size h
unserved_there (AskStore a v) s s' size made most h = out_there s s' a size h
unserved_there (AskSwap a v) s s' size made most h = out_there s s' a size h
unserved_there (AskCompareSwap a expected new) s s' size made most h = out_there s s' a size h
unserved_there (AskOr a v) s s' size made most h = out_there s s' a size h
unserved_there (AskAdd a v) s s' size made most h = out_there s s' a size h
unserved_there (AskFork entry arguments has_room) s s' size made most h =
    let full = h.0 in (omega (arith, full, made, most), h.1)
unserved_there (AskPrint number) s s' size made most h = h
unserved_there (AskWait a expected) s s' size made most h = out_there s s' a size h
unserved_there (AskWake a n) s s' size made most h = out_there s s' a size h
unserved_there (AskRequeue a b n m expected) s s' size made most h =
    λ lies. h (subst (λ (k : ℕ). a < k) size lies.0, subst (λ (k : ℕ). b < k) size lies.1)
unserved_there AskReturn s s' size made most h = h
unserved_there (AskReturnValue v) s s' size made most h = h
unserved_there (AskFault cause) s s' size made most h = h

pub broken_there : (l : Look) (s s' : State) → s'.size ≡ s.size → s'.made ≤ s.made → s'.most ≡ s.most → IsBroken s l
    → IsBroken s' l
broken_there (Goes x) s s' size made most h = h
broken_there (Asks request go) s s' size made most h = unserved_there request s s' size made most h
broken_there (Leaves phase) s s' size made most h = h
broken_there Breaks s s' size made most h = h
broken_there Rests s s' size made most h = h

put_there : {A : Type 0} → (f : ℕ → A) (t : ℕ) (x : A) → put f t x t ≡ x
put_there f t x = rw (eq-eqb t t refl) refl

pub locally_so : LocallySo
locally_so p may limit m =
    let k = m.concrete in
    let t = m.thread in
    let there = with_local k t m.here in
    let u = up k.concrete t m.moves in
    let fit = kept_put p k t m.count m.origin m.here (holds p m.log k m.legal) u.awake m.stands m.goes in
    let gives = (refused_by there (piece_of p there t) (local_step p t m.here) Broken m.breaks).1 in
    let b = (piece_breaks_so p there t fit).0 gives in
    let n = b.1 in
    let same : Some m.here ≡ Some n.thread = sym (thread_at-put k.concrete.threads t m.origin m.here m.stands)
    ∙ n.stands in
    let is : n.thread ≡ m.here = cc in
    let breaks : IsBroken (state_of there.concrete) (look p t m.here) = subst
    (λ (x : Thread). IsBroken (state_of there.concrete) (look p t x)) is n.breaks in
    let s' = with_thread (state_of k.concrete) t m.here in (
      u.awake,
      (
        b.0,
        record {
          thread = m.here;
          stands = put_there (state_of k.concrete).thread t (Some m.here);
          awake = u.awake;
          breaks = broken_there (look p t m.here) (state_of there.concrete) s' refl
              (omega (arith, length-set k.concrete.threads (t - 1) m.here)) refl breaks;
        },
      ),
    )
