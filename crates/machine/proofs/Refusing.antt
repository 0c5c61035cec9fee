-- A step is refused exactly where the relation has none.
use Rattle.std.proofs.Common.{◌≡◌, ◌≢◌, ℕ, ◌<◌, ◌≤◌, Bool, true, false, not, cond, eqb, ltb, length, Option, Some}
use Rattle.std.proofs.Common.{None, Result, Ok, Err, inl, inr, refl, ap, sym, ◌∙◌, arith}
use Rattle.std.proofs.lemmas.Bool.{cases_Bool, both_ways, eqb-true, eq-eqb, ltb-true, lt-ltb}
use Rattle.isa.specs.Programs.{Program}
use Rattle.robustexit.specs.declared.phase.ExitPhase.TheVariants.{Entry, Pending, ClearId, LastWake, Ended}
use Rattle.locals.specs.Threads.{Thread, Runs, Dies, Exits}
use Rattle.locals.specs.Looks.{Request, AskLoad, AskStore, AskSwap, AskCompareSwap, AskOr, AskAdd, AskFork, AskPrint}
use Rattle.locals.specs.Looks.{AskWait, AskWake, AskRequeue, AskReturn, AskReturnValue, AskFault, Look, Goes}
use Rattle.locals.specs.Looks.{Asks, Leaves, Breaks, Rests, look}
use Rattle.robustexit.specs.declared.rule.ExitRule.{ExitRule}
use Rattle.robustexit.specs.ExitRules.{exit_of}
use Rattle.machine.specs.declared.event.StepFault.{StepFault}
use Rattle.machine.specs.declared.event.StepFault.TheVariants.{CannotMove, Broken}
use Rattle.machine.specs.States.{ConcreteState, thread_of, state_of}
use Rattle.machine.specs.AbstractServing.{IsUnserved}
use Rattle.machine.specs.Runs.{CanStep, NextIsBroken, IsBroken, has_ended}
use Rattle.machine.specs.ConcreteServing.{Served, serve}
use Rattle.machine.specs.ConcreteSteps.{go_on_with, on_machine, thread_step, step_awake, step_thread, thread_can_move}
use Rattle.machine.specs.Determined.{BreaksSo, RefusesSo, MovesSo}
use Rattle.machine.proofs.Stepping.{IsOfCode, look_code}

-- a request is refused with nothing but Broken, and exactly so; where there can be so many threads, and so many were made
record Refuses (most made : ℕ) (r : Result Served StepFault) (A : Type 0) : Type 0 where
  pub so : made ≤ most → r ≡ Err Broken → A
  pub back : A → r ≡ Err Broken
  pub other : r ≡ Err CannotMove → ⊥

served_is : (x : Served) (f : StepFault) → (let r : Result Served StepFault = Ok x in r) ≡ Err f → ⊥
served_is x f h = absurd cc

both_served : (b : Bool) (x y : Served) (f : StepFault)
    → (let r : Result Served StepFault = cond b (Ok x) (Ok y) in r) ≡ Err f → ⊥
both_served true x y f h = absurd cc
both_served false x y f h = absurd cc

-- where it is always served
always : (most m : ℕ) (r : Result Served StepFault) → ((f : StepFault) → r ≡ Err f → ⊥) → Refuses most m r ⊥
always most m r h = record { so = λ few. h Broken; back = λ a. absurd a; other = h CannotMove }

-- where it is served in the memory
inside : (most m a n : ℕ) (b : Bool) → ltb a n ≡ b → (r : Result Served StepFault) → ((f : StepFault) → r ≡ Err f → ⊥)
    → Refuses most m (cond b r (Err Broken)) (a < n → ⊥)
inside most m a n true is r h =
    record { so = λ few e. absurd (h Broken e); back = λ out. absurd (out (ltb-true a n is)); other = h CannotMove }
inside most m a n false is r h =
    record { so = λ few e l. both_ways (ltb a n) is (lt-ltb a n l); back = λ out. refl; other = λ e. absurd cc }

both_inside : (most m a b n : ℕ) (x y : Bool) → ltb a n ≡ x → ltb b n ≡ y → (r : Result Served StepFault)
    → ((f : StepFault) → r ≡ Err f → ⊥)
    → Refuses most m (cond x (cond y r (Err Broken)) (Err Broken)) (((a < n) × (b < n)) → ⊥)
both_inside most m a b n true true is is' r h =
    record {
      so = λ few e. absurd (h Broken e);
      back = λ out. absurd (out (ltb-true a n is, ltb-true b n is'));
      other = h CannotMove;
    }
both_inside most m a b n true false is is' r h =
    record { so = λ few e l. both_ways (ltb b n) is' (lt-ltb b n l.1); back = λ out. refl; other = λ e. absurd cc }
both_inside most m a b n false y is is' r h =
    record { so = λ few e l. both_ways (ltb a n) is (lt-ltb a n l.0); back = λ out. refl; other = λ e. absurd cc }

forks_if : (most made : ℕ) (full room : Bool) → eqb made most ≡ full → (x y : Served)
    → Refuses most made (cond full (Ok x) (cond room (Ok y) (Err Broken))) ((made < most) × (room ≡ true → ⊥))
forks_if most made true room is x y =
    record {
      so = λ few e. absurd cc;
      back =
          λ a. absurd (let e = eqb-true made most is in let l = a.0 in omega (arith, e, l));
      other = λ e. absurd cc;
    }
forks_if most made false true is x y =
    record { so = λ few e. absurd cc; back = λ a. absurd (a.1 refl); other = λ e. absurd cc }
forks_if most made false false is x y =
    let ne : made ≢ most = λ e. both_ways (eqb made most) is (eq-eqb made most e) in
    record { so = λ few e. (omega (arith, few, ne), λ q. absurd cc); back = λ a. refl; other = λ e. absurd cc }

refuses : (k : ConcreteState) (t : ℕ) (request : Request)
    → Refuses k.common.most (length k.threads) (serve (length k.threads) t request k.common) (IsUnserved request (state_of k))
refuses k t (AskLoad a) = inside _ _ a _ _ refl _ (λ f. served_is _ f)
refuses k t (AskStore a v) = inside _ _ a _ _ refl _ (λ f. served_is _ f)
refuses k t (AskSwap a v) = inside _ _ a _ _ refl _ (λ f. served_is _ f)
refuses k t (AskCompareSwap a expected new) = inside _ _ a _ _ refl _ (λ f. served_is _ f)
refuses k t (AskOr a v) = inside _ _ a _ _ refl _ (λ f. served_is _ f)
refuses k t (AskAdd a v) = inside _ _ a _ _ refl _ (λ f. served_is _ f)
refuses k t (AskFork entry arguments has_room) =
    forks_if k.common.most (length k.threads) (eqb (length k.threads) k.common.most) has_room refl _ _
refuses k t (AskPrint number) = always _ _ _ (λ f. served_is _ f)
refuses k t (AskWait a expected) = inside _ _ a _ _ refl _ (λ f. both_served _ _ _ f)
refuses k t (AskWake a n) = inside _ _ a _ _ refl _ (λ f. served_is _ f)
refuses k t (AskRequeue a b n m expected) = both_inside _ _ a b _ _ _ refl refl _ (λ f. both_served _ _ _ f)
refuses k t AskReturn = always _ _ _ (λ f. served_is _ f)
refuses k t (AskReturnValue v) = always _ _ _ (λ f. served_is _ f)
refuses k t (AskFault cause) = always _ _ _ (λ f. served_is _ f)

-- what the step of a thread comes to, by what came of its request
err_of : (k : ConcreteState) (t : ℕ) (go : ℕ → Thread) (r : Result Served StepFault) (f : StepFault)
    → on_machine k t (go_on_with go r) ≡ Err f → r ≡ Err f
err_of k t go (Ok x) f h = absurd cc
err_of k t go (Err g) f h = let e : g ≡ f = cc in ap (λ x. Err x) e

look_breaks : (rule : ExitRule) (k : ConcreteState) (t : ℕ) (l : Look) → length k.threads ≤ k.common.most
    → on_machine k t (thread_step rule (length k.threads) t k.common l) ≡ Err Broken → IsBroken (state_of k) l
look_breaks rule k t (Goes x) few h = absurd cc
look_breaks rule k t (Asks request go) few h = (refuses k t request).so few (err_of k t go _ Broken h)
look_breaks rule k t (Leaves phase) few h = absurd cc
look_breaks rule k t Breaks few h = tt
look_breaks rule k t Rests few h = absurd cc

breaks_look : (rule : ExitRule) (k : ConcreteState) (t : ℕ) (l : Look) → length k.threads ≤ k.common.most
    → IsBroken (state_of k) l → on_machine k t (thread_step rule (length k.threads) t k.common l) ≡ Err Broken
breaks_look rule k t (Goes x) few h = absurd h
breaks_look rule k t (Asks request go) few h = ap (λ r. on_machine k t (go_on_with go r)) ((refuses k t request).back h)
breaks_look rule k t (Leaves phase) few h = absurd h
breaks_look rule k t Breaks few h = refl
breaks_look rule k t Rests few h = absurd h

awake_breaks : (p : Program) (k : ConcreteState) (t : ℕ) (x : Thread) (o : Option ℕ) → length k.threads ≤ k.common.most
    → thread_of k t ≡ Some x → k.common.asleep t ≡ o → step_awake p k t x o ≡ Err Broken
    → NextIsBroken p (state_of k) t
awake_breaks p k t x None few stands awake h =
    record { thread = x; stands = stands; awake = awake; breaks = look_breaks (exit_of p.version) k t (look p t x) few h }
awake_breaks p k t x (Some a) few stands awake h = absurd cc

thread_breaks : (p : Program) (k : ConcreteState) (t : ℕ) (o : Option Thread) → length k.threads ≤ k.common.most
    → thread_of k t ≡ o → step_thread p k t o ≡ Err Broken → NextIsBroken p (state_of k) t
thread_breaks p k t None few stands h = absurd cc
thread_breaks p k t (Some x) few stands h = awake_breaks p k t x (k.common.asleep t) few stands refl h

pub breaks_so : BreaksSo
breaks_so p k t concrete = (
  thread_breaks p k t (thread_of k t) concrete.few refl,
  λ b. ap (step_thread p k t) b.stands ∙ ap (step_awake p k t b.thread) b.awake
      ∙ breaks_look (exit_of p.version) k t (look p t b.thread) concrete.few b.breaks,
)

-- a thread rests exactly where it has ended
code_rests : (l : Look) → IsOfCode l → l ≡ Rests → ⊥
code_rests (Goes x) h e = absurd cc
code_rests (Asks request go) h e = absurd cc
code_rests (Leaves phase) h e = absurd cc
code_rests Breaks h e = absurd cc
code_rests Rests h e = absurd h

rests_ended : (p : Program) (t : ℕ) (x : Thread) → look p t x ≡ Rests → has_ended (Some x) ≡ true
rests_ended p t (Runs place operands locals callers) e =
    absurd (code_rests _ (look_code _ t _ place operands locals callers) e)
rests_ended p t (Dies cause) e = absurd cc
rests_ended p t (Exits (Entry a seen)) e = absurd cc
rests_ended p t (Exits Pending) e = absurd cc
rests_ended p t (Exits ClearId) e = absurd cc
rests_ended p t (Exits LastWake) e = absurd cc
rests_ended p t (Exits Ended) e = refl

ended_rests : (p : Program) (t : ℕ) (x : Thread) → has_ended (Some x) ≡ true → look p t x ≡ Rests
ended_rests p t (Runs place operands locals callers) e = absurd cc
ended_rests p t (Dies cause) e = absurd cc
ended_rests p t (Exits (Entry a seen)) e = absurd cc
ended_rests p t (Exits Pending) e = absurd cc
ended_rests p t (Exits ClearId) e = absurd cc
ended_rests p t (Exits LastWake) e = absurd cc
ended_rests p t (Exits Ended) e = refl

look_rests : (rule : ExitRule) (k : ConcreteState) (t : ℕ) (l : Look)
    → on_machine k t (thread_step rule (length k.threads) t k.common l) ≡ Err CannotMove → l ≡ Rests
look_rests rule k t (Goes x) h = absurd cc
look_rests rule k t (Asks request go) h = absurd ((refuses k t request).other (err_of k t go _ CannotMove h))
look_rests rule k t (Leaves phase) h = absurd cc
look_rests rule k t Breaks h = absurd cc
look_rests rule k t Rests h = refl

awake_refuses : (p : Program) (k : ConcreteState) (t : ℕ) (x : Thread) (o : Option ℕ) → thread_of k t ≡ Some x
    → k.common.asleep t ≡ o → step_awake p k t x o ≡ Err CannotMove → CanStep (state_of k) t → ⊥
awake_refuses p k t x None stands awake h can =
    let same : x ≡ can.thread = some_is x can.thread (sym stands ∙ can.stands) in
    both_ways (has_ended (Some can.thread)) can.goes_on (ap (λ y. has_ended (Some y)) (sym same)
    ∙ rests_ended p t x (look_rests (exit_of p.version) k t (look p t x) h)) where
      some_is : (a b : Thread) → Some a ≡ Some b → a ≡ b
      some_is a b e = cc
awake_refuses p k t x (Some a) stands awake h can = asleep_both a (k.common.asleep t) awake can.awake where
  asleep_both : (c : ℕ) (o : Option ℕ) → o ≡ Some c → o ≡ None → ⊥
  asleep_both c o e f = absurd cc

thread_refuses : (p : Program) (k : ConcreteState) (t : ℕ) (o : Option Thread) → thread_of k t ≡ o
    → step_thread p k t o ≡ Err CannotMove → CanStep (state_of k) t → ⊥
thread_refuses p k t None stands h can = missing (thread_of k t) can.thread stands can.stands where
  missing : (o : Option Thread) (x : Thread) → o ≡ None → o ≡ Some x → ⊥
  missing o x e f = absurd cc
thread_refuses p k t (Some x) stands h can = awake_refuses p k t x (k.common.asleep t) stands refl h can

refused_awake : (p : Program) (k : ConcreteState) (t : ℕ) (x : Thread) (o : Option ℕ) → thread_of k t ≡ Some x
    → k.common.asleep t ≡ o → (CanStep (state_of k) t → ⊥) → step_awake p k t x o ≡ Err CannotMove
refused_awake p k t x None stands awake out =
    elim (cases_Bool (has_ended (Some x))) [
      | inl ended ↦ ap (λ l. on_machine k t (thread_step (exit_of p.version) (length k.threads) t k.common l))
          (ended_rests p t x ended)
      | inr goes ↦ absurd (out (record { thread = x; stands = stands; awake = awake; goes_on = goes }))
    ]
refused_awake p k t x (Some a) stands awake out = refl

refused_thread : (p : Program) (k : ConcreteState) (t : ℕ) (o : Option Thread) → thread_of k t ≡ o
    → (CanStep (state_of k) t → ⊥) → step_thread p k t o ≡ Err CannotMove
refused_thread p k t None stands out = refl
refused_thread p k t (Some x) stands out = refused_awake p k t x (k.common.asleep t) stands refl out

pub refuses_so : RefusesSo
refuses_so p k t = (thread_refuses p k t (thread_of k t) refl, refused_thread p k t (thread_of k t) refl)

moves_thread : (k : ConcreteState) (t : ℕ) (a : Option ℕ) (o : Option Thread) → k.common.asleep t ≡ a
    → thread_of k t ≡ o → thread_can_move a o ≡ true → CanStep (state_of k) t
moves_thread k t a None awake stands h = absurd cc
moves_thread k t (Some b) (Some x) awake stands h = absurd cc
moves_thread k t None (Some x) awake stands h =
    record { thread = x; stands = stands; awake = awake; goes_on = unended _ h } where
      unended : (b : Bool) → not b ≡ true → b ≡ false
      unended true g = absurd cc
      unended false g = refl

pub moves_so : MovesSo
moves_so k t = (
  moves_thread k t (k.common.asleep t) (thread_of k t) refl refl,
  λ can. ap (λ a. thread_can_move a (thread_of k t)) can.awake ∙ ap (thread_can_move None) can.stands
      ∙ ap not can.goes_on,
)
