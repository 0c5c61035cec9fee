-- A step makes the output longer by what its event says.
use Rattle.std.proofs.Common.{◌≡◌, ℕ, ◌+◌, ◌≤◌, Bool, true, false, ◌||◌, not, cond, eqb, ltb, [], ◌∷◌, ◌++◌}
use Rattle.std.proofs.Common.{length, drop, Option, Some, None, Result, Ok, Err, refl, ap, subst, ◌∙◌, arith}
use Rattle.std.proofs.Common.{length-append}
use Rattle.words.specs.LockWord.{lock_word, owner_of, waiters_of}
use Rattle.words.specs.Process.{process_word}
use Rattle.words.specs.Signed.{signed_of}
use Rattle.buckets.specs.Places.{with_place}
use Rattle.isa.specs.Programs.{Program}
use Rattle.robustexit.specs.declared.phase.ExitPhase.{ExitPhase}
use Rattle.robustexit.specs.declared.phase.ExitPhase.TheVariants.{Entry, Pending, ClearId, LastWake, Ended}
use Rattle.locals.specs.Threads.{Thread}
use Rattle.locals.specs.Looks.{Request, AskLoad, AskStore, AskSwap, AskCompareSwap, AskOr, AskAdd, AskFork, AskPrint}
use Rattle.locals.specs.Looks.{AskWait, AskWake, AskRequeue, AskReturn, AskReturnValue, AskFault, Look, Goes}
use Rattle.locals.specs.Looks.{Asks, Leaves, Breaks, Rests, look}
use Rattle.machine.specs.declared.event.Event.{Event}
use Rattle.machine.specs.declared.event.EventName.{EventName}
use Rattle.machine.specs.declared.event.EventName.TheVariants as name
use Rattle.machine.specs.declared.event.StepFault.{StepFault}
use Rattle.machine.specs.declared.event.StepFault.TheVariants.{Broken}
use Rattle.robustexit.specs.RobustExit.{put}
use Rattle.machine.specs.States.{Common, ConcreteState, thread_of}
use Rattle.machine.specs.ConcreteServing.{Served, serve, load, set_word, front, wake_front, move_front}
use Rattle.machine.specs.ConcreteExits.{Left, leave, is_entry, abandon}
use Rattle.machine.specs.ConcreteSteps.{Stepped, thread_step, go_on_with, on_machine, step_awake, step_thread}
use Rattle.machine.specs.ConcreteSteps.{step_of}
use Rattle.machine.specs.Views.{printed_by, printed_by_name}
use Rattle.robustexit.specs.declared.rule.ExitRule.{ExitRule}
use Rattle.robustexit.specs.ExitRules.{wakes}

-- an outcome that prints what its event says
Prints : Common → Result Served StepFault → Type 0
Prints c (Ok x) = length x.common.output ≡ length c.output + printed_by x.event
Prints c (Err f) = Unit {0}

prints_if : (c : Common) (b : Bool) (r s : Result Served StepFault) → Prints c r → Prints c s → Prints c (cond b r s)
prints_if c true r s h g = h
prints_if c false r s h g = g

prints_ok : (c : Common) (x : Served) → length x.common.output ≡ length c.output + printed_by x.event
    → Prints c (Ok x)
unfolding Prints
prints_ok c x h = h

prints_err : (c : Common) (f : StepFault) → Prints c (Err f)
unfolding Prints
prints_err c f = tt

still : (n : ℕ) → n ≡ n + 0
still n = omega arith

output_if : (c d : Common) (b : Bool) → d.output ≡ c.output → (cond b d c).output ≡ c.output
output_if c d true h = h
output_if c d false h = refl

output_moved : (b : Bool) (c d : Common) → d.output ≡ c.output → (cond b c d).output ≡ c.output
output_moved true c d h = refl
output_moved false c d h = h

moved_quiet : (c : Common) (a b n : ℕ) → (move_front c a b n).output ≡ c.output
moved_quiet c a b n = output_moved (eqb a b) c
    (record c {
      queue = put (put c.queue a (drop n (c.queue a))) b (c.queue b ++ front c a n);
      asleep =
          with_place c.asleep (front c a n) (Some b);
    }) refl

served : (made t : ℕ) (r : Request) (c : Common) → Prints c (serve made t r c)
served made t (AskLoad a) c = prints_if c _ _ _ (prints_ok c _ (still _)) (prints_err c _)
served made t (AskStore a v) c = prints_if c _ _ _ (prints_ok c _ (still _)) (prints_err c _)
served made t (AskSwap a v) c = prints_if c _ _ _ (prints_ok c _ (still _)) (prints_err c _)
served made t (AskCompareSwap a expected new) c =
    prints_if c _ _ _ (prints_ok c _ (ap length (output_if c (set_word c a new) (eqb (load c a) expected) refl)
    ∙ still _)) (prints_err c _)
served made t (AskOr a v) c = prints_if c _ _ _ (prints_ok c _ (still _)) (prints_err c _)
served made t (AskAdd a v) c = prints_if c _ _ _ (prints_ok c _ (still _)) (prints_err c _)
served made t (AskFork entry arguments has_room) c =
    prints_if c (eqb made c.most) _ _ (prints_ok c _ (still _))
    (prints_if c has_room _ _ (prints_ok c _ (still _)) (prints_err c Broken))
served made t (AskPrint number) c = prints_ok c _ (length-append c.output (signed_of number ∷ []))
served made t (AskWait a expected) c =
    prints_if c _ _ _ (prints_if c _ _ _ (prints_ok c _ (still _)) (prints_ok c _ (still _))) (prints_err c _)
served made t (AskWake a n) c = prints_if c _ _ _ (prints_ok c _ (still _)) (prints_err c _)
served made t (AskRequeue a b n m expected) c =
    prints_if c (ltb a (length c.words)) _ _
    (prints_if c (ltb b (length c.words)) _ _
    (prints_if c (eqb (load c a) expected) _ _
    (prints_ok c _ (ap length (moved_quiet (wake_front c a n) a b m) ∙ still _)) (prints_ok c _ (still _)))
    (prints_err c Broken)) (prints_err c Broken)
served made t AskReturn c = prints_ok c _ (still _)
served made t (AskReturnValue v) c = prints_ok c _ (still _)
served made t (AskFault cause) c = prints_ok c _ (still _)

-- an exit prints nothing
Quiet : Common → Left → Type 0
Quiet c l = (l.common.output ≡ c.output) × (printed_by l.event ≡ 0)

quiet_if : (c : Common) (b : Bool) (l m : Left) → Quiet c l → Quiet c m → Quiet c (cond b l m)
quiet_if c true l m h g = h
quiet_if c false l m h g = g

quiet_so : (c : Common) (l : Left) → l.common.output ≡ c.output → printed_by l.event ≡ 0 → Quiet c l
unfolding Quiet
quiet_so c l h g = (h, g)

abandoned_quiet : (c : Common) (l : ℕ) → (abandon c l).output ≡ c.output
abandoned_quiet c l = both (waiters_of (load c l)) where
  both : (b : Bool) → (cond b (wake_front (set_word c l (lock_word 0 true (waiters_of (load c l)))) l 1)
      (set_word c l (lock_word 0 true (waiters_of (load c l))))).output ≡ c.output
  both true = refl
  both false = refl

left : (rule : ExitRule) (t : ℕ) (phase : ExitPhase) (c : Common) → Quiet c (leave rule t phase c)
left rule t (Entry e seen) c =
    quiet_if c (not (is_entry c e.0)) _ _ (quiet_so c _ refl refl)
    (quiet_if c (eqb (load c (process_word t 1)) e.0 || not (eqb (owner_of (load c (e.0 + 1))) t)) _ _
    (quiet_so c _ refl refl) (quiet_so c _ (abandoned_quiet c (e.0 + 1)) refl))
left rule t Pending c =
    let e : ℕ = load c (process_word t 1) in
    quiet_if c (not (is_entry c e)) _ _ (quiet_so c _ refl refl)
    (quiet_if c (eqb (owner_of (load c (e + 1))) t) _ _ (quiet_so c _ (abandoned_quiet c (e + 1)) refl)
    (quiet_if c (wakes rule (load c (e + 1))) _ _ (quiet_so c _ refl refl)
    (quiet_so c _ refl refl)))
left rule t ClearId c = quiet_so c _ refl refl
left rule t LastWake c = quiet_so c _ refl refl
left rule t Ended c = quiet_so c _ refl refl

-- the same of a step of a thread
Steps : Common → Result Stepped StepFault → Type 0
Steps c (Ok x) = length x.common.output ≡ length c.output + printed_by x.event
Steps c (Err f) = Unit {0}

went : (c : Common) (go : ℕ → Thread) (r : Result Served StepFault) → Prints c r → Steps c (go_on_with go r)
unfolding Prints Steps
went c go (Ok x) h = h
went c go (Err f) h = tt

stepped : (rule : ExitRule) (made t : ℕ) (c : Common) (l : Look) → Steps c (thread_step rule made t c l)
unfolding Steps Quiet
stepped rule made t c (Goes x) = still _
stepped rule made t c (Asks request go) = went c go _ (served made t request c)
stepped rule made t c (Leaves phase) = let q = left rule t phase c in ap length q.0 ∙ omega (arith, q.1)
stepped rule made t c Breaks = tt
stepped rule made t c Rests = tt

-- and of a step of the machine
Lengthens : ConcreteState → Result (ConcreteState × Event) StepFault → Type 0
Lengthens k (Ok q) = length q.0.common.output ≡ length k.common.output + printed_by q.1
Lengthens k (Err f) = Unit {0}

lengthens : (k : ConcreteState) (t : ℕ) (r : Result Stepped StepFault) → Steps k.common r
    → Lengthens k (on_machine k t r)
unfolding Steps Lengthens
lengthens k t (Ok x) h = h
lengthens k t (Err f) h = tt

lengthens_awake : (p : Program) (k : ConcreteState) (t : ℕ) (x : Thread) (o : Option ℕ)
    → Lengthens k (step_awake p k t x o)
unfolding Lengthens
lengthens_awake p k t x None = lengthens k t _ (stepped _ (length k.threads) t k.common (look p t x))
lengthens_awake p k t x (Some a) = tt

lengthens_thread : (p : Program) (k : ConcreteState) (t : ℕ) (o : Option Thread) → Lengthens k (step_thread p k t o)
unfolding Lengthens
lengthens_thread p k t None = tt
lengthens_thread p k t (Some x) = lengthens_awake p k t x (k.common.asleep t)

pub printed_so : (p : Program) (k k' : ConcreteState) (t : ℕ) (e : Event) → step_of p k t ≡ Ok (k', e)
    → length k'.common.output ≡ length k.common.output + printed_by e
unfolding Lengthens
printed_so p k k' t e h = subst (Lengthens k) h (lengthens_thread p k t (thread_of k t))

one_name : (n : EventName) → printed_by_name n ≤ 1
one_name name.Print = omega arith
one_name n = omega arith

pub at_most_one : (e : Event) → printed_by e ≤ 1
at_most_one e = one_name e.name
