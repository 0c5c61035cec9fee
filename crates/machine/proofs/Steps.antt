-- What a step of a thread comes to, by what comes next as the code tells it.
use Rattle.std.proofs.Common.{◌≡◌, ◌≢◌, ℕ, suc, ◌+◌, ◌||◌, ◌==◌, cond, Bool, true, false, List, Some, None}
use Rattle.std.proofs.Common.{Result, Ok, Err, ◌⊎◌, inl, inr, refl, sym, ap, subst, ◌∙◌, arith}
use Rattle.std.specs.Prelude.{IfErr, if◌then◌else◌}
use Rattle.std.specs.Result.{IsErrAnd}
use Rattle.std.proofs.lemmas.Bool.{eq-eqb, ne_eqb, cond-true, cond-false}
use Rattle.words.specs.Process.{process_word}
use Rattle.isa.specs.Programs.{Program}
use Rattle.robustexit.specs.declared.phase.ExitPhase.{ExitPhase}
use Rattle.robustexit.specs.declared.phase.ExitPhase.TheVariants.{Ended}
use Rattle.locals.specs.declared.request.Request.{Request as Told}
use Rattle.locals.specs.declared.request.NextStep.TheVariants as next
use Rattle.locals.specs.Threads.{Thread, Exits}
use Rattle.locals.specs.Steps.{local_next}
use Rattle.locals.specs.Looks.{Request, AskLoad, AskStore, AskSwap, AskCompareSwap, AskOr, AskAdd, AskFork, AskPrint}
use Rattle.locals.specs.Looks.{AskWait, AskWake, AskRequeue, AskReturn, AskReturnValue, AskFault, Look, Goes}
use Rattle.locals.specs.Looks.{Asks, Leaves, Breaks, Rests, look}
use Rattle.locals.specs.Requests.{request_step, next_step_of, after_answer, fork_child, CanBeAnswered, Answers}
use Rattle.robustexit.specs.declared.rule.ExitRule.{ExitRule}
use Rattle.machine.specs.declared.event.EventName.TheVariants as name
use Rattle.machine.specs.declared.event.Event.{Event}
use Rattle.machine.specs.declared.event.StepFault.{StepFault}
use Rattle.machine.specs.declared.event.StepFault.TheVariants.{CannotMove, Broken}
use Rattle.machine.specs.States.{Common}
use Rattle.machine.specs.ConcreteServing.{Served, serve, plain, set_word}
use Rattle.machine.specs.ConcreteExits.{Left, leave}
use Rattle.machine.specs.ConcreteSteps.{Stepped, thread_step, go_on_with, fault_of}
use Rattle.machine.specs.RequestMeanings.{asked_of, with_common, AsksFork}
use Rattle.machine.proofs.Leaving.{IsUnderWay}
use Rattle.machine.proofs.Stepping.{IsNext, is_next}

-- what the code tells is what was asked
pub shared_is : (r q : Told) → next.Shared r ≡ next.Shared q → r ≡ q
shared_is r q h = cc

told_is : (r : Request) (told q : Told) → asked_of told ≡ r → next.Shared told ≡ next.Shared q → asked_of q ≡ r
told_is r told q back h = ap asked_of (sym (shared_is told q h)) ∙ back

pub asked_back : (r : Request) (q : Told) → request_step r ≡ next.Shared q → asked_of q ≡ r
asked_back (AskLoad a) q h = told_is _ _ q refl h
asked_back (AskStore a v) q h = told_is _ _ q refl h
asked_back (AskSwap a v) q h = told_is _ _ q refl h
asked_back (AskCompareSwap a expected new) q h = told_is _ _ q refl h
asked_back (AskOr a v) q h = told_is _ _ q refl h
asked_back (AskAdd a v) q h = told_is _ _ q refl h
asked_back (AskFork entry arguments has_room) q h = absurd cc
asked_back (AskPrint number) q h = told_is _ _ q refl h
asked_back (AskWait a expected) q h = told_is _ _ q refl h
asked_back (AskWake a n) q h = told_is _ _ q refl h
asked_back (AskRequeue a b wake moves expected) q h = told_is _ _ q refl h
asked_back AskReturn q h = told_is _ _ q refl h
asked_back (AskReturnValue v) q h = told_is _ _ q refl h
asked_back (AskFault cause) q h = told_is _ _ q refl h

exit_is : (a b : ExitPhase) → next.Exit a ≡ next.Exit b → a ≡ b
exit_is a b h = cc

-- a step that is told as a local one, an exit's, a broken one or none is no request
no_local : (r : Request) → request_step r ≡ next.Local → ⊥
no_local (AskFork entry arguments has_room) h = cc
no_local (AskLoad a) h = cc
no_local (AskStore a v) h = cc
no_local (AskSwap a v) h = cc
no_local (AskCompareSwap a expected new) h = cc
no_local (AskOr a v) h = cc
no_local (AskAdd a v) h = cc
no_local (AskPrint number) h = cc
no_local (AskWait a expected) h = cc
no_local (AskWake a n) h = cc
no_local (AskRequeue a b wake moves expected) h = cc
no_local AskReturn h = cc
no_local (AskReturnValue v) h = cc
no_local (AskFault cause) h = cc

pub no_exit : (r : Request) (phase : ExitPhase) → request_step r ≡ next.Exit phase → ⊥
no_exit (AskFork entry arguments has_room) phase h = cc
no_exit (AskLoad a) phase h = cc
no_exit (AskStore a v) phase h = cc
no_exit (AskSwap a v) phase h = cc
no_exit (AskCompareSwap a expected new) phase h = cc
no_exit (AskOr a v) phase h = cc
no_exit (AskAdd a v) phase h = cc
no_exit (AskPrint number) phase h = cc
no_exit (AskWait a expected) phase h = cc
no_exit (AskWake a n) phase h = cc
no_exit (AskRequeue a b wake moves expected) phase h = cc
no_exit AskReturn phase h = cc
no_exit (AskReturnValue v) phase h = cc
no_exit (AskFault cause) phase h = cc

no_break : (r : Request) → request_step r ≡ next.Broken → ⊥
no_break (AskFork entry arguments has_room) h = cc
no_break (AskLoad a) h = cc
no_break (AskStore a v) h = cc
no_break (AskSwap a v) h = cc
no_break (AskCompareSwap a expected new) h = cc
no_break (AskOr a v) h = cc
no_break (AskAdd a v) h = cc
no_break (AskPrint number) h = cc
no_break (AskWait a expected) h = cc
no_break (AskWake a n) h = cc
no_break (AskRequeue a b wake moves expected) h = cc
no_break AskReturn h = cc
no_break (AskReturnValue v) h = cc
no_break (AskFault cause) h = cc

no_rest : (r : Request) → request_step r ≡ next.Ended → ⊥
no_rest (AskFork entry arguments has_room) h = cc
no_rest (AskLoad a) h = cc
no_rest (AskStore a v) h = cc
no_rest (AskSwap a v) h = cc
no_rest (AskCompareSwap a expected new) h = cc
no_rest (AskOr a v) h = cc
no_rest (AskAdd a v) h = cc
no_rest (AskPrint number) h = cc
no_rest (AskWait a expected) h = cc
no_rest (AskWake a n) h = cc
no_rest (AskRequeue a b wake moves expected) h = cc
no_rest AskReturn h = cc
no_rest (AskReturnValue v) h = cc
no_rest (AskFault cause) h = cc

-- a request that was served
pub shared_so : (rule : ExitRule) (made t : ℕ) (c c' : Common) (l : Look) (x : Thread) (request : Told) (answer : ℕ)
    (event : Event) → next_step_of l ≡ next.Shared request
    → ((m : ℕ) → serve m t (asked_of request) c ≡ with_common (Ok answer) event c')
    → thread_step rule made t c l ≡ Ok
    (record { common = c'; thread = after_answer l answer x; child = None; event = event })
shared_so rule made t c c' (Goes y) x request answer event is gives = absurd cc
shared_so rule made t c c' (Asks r go) x request answer event is gives =
    ap (λ q. go_on_with go (serve made t q c)) (sym (asked_back r request is)) ∙ ap (go_on_with go) (gives made)
shared_so rule made t c c' (Leaves phase) x request answer event is gives = absurd cc
shared_so rule made t c c' Breaks x request answer event is gives = absurd cc
shared_so rule made t c c' Rests x request answer event is gives = absurd cc

-- and one that was refused
pub shared_err : (rule : ExitRule) (made t : ℕ) (c c' : Common) (l : Look) (request : Told) (f : StepFault) (event : Event)
    → next_step_of l ≡ next.Shared request
    → ((m : ℕ) → serve m t (asked_of request) c ≡ with_common (Err f) event c') → thread_step rule made t c l ≡ Err f
shared_err rule made t c c' (Goes y) request f event is gives = absurd cc
shared_err rule made t c c' (Asks r go) request f event is gives =
    ap (λ q. go_on_with go (serve made t q c)) (sym (asked_back r request is)) ∙ ap (go_on_with go) (gives made)
shared_err rule made t c c' (Leaves phase) request f event is gives = absurd cc
shared_err rule made t c c' Breaks request f event is gives = absurd cc
shared_err rule made t c c' Rests request f event is gives = absurd cc

answers_none : (r : Request) (answer : ℕ) (request : Told) → request_step r ≡ next.Shared request → Answers answer r
answers_none (AskFork entry arguments has_room) answer request is = absurd cc
answers_none r answer request is = tt

pub can_answer : (l : Look) (answer : ℕ) (request : Told) → next_step_of l ≡ next.Shared request
    → CanBeAnswered l answer
can_answer (Goes y) answer request is = tt
can_answer (Asks r go) answer request is = answers_none r answer request is
can_answer (Leaves phase) answer request is = tt
can_answer Breaks answer request is = tt
can_answer Rests answer request is = tt

-- a fork
fork_room : (e n : ℕ) (room : Bool) (e' n' : ℕ) (room' : Bool) → next.Fork e n room ≡ next.Fork e' n' room'
    → room ≡ room'
fork_room e n room e' n' room' h = cc

asks_fork : (r : Request) (go : ℕ → Thread) (e n : ℕ) (room : Bool) → request_step r ≡ next.Fork e n room
    → AsksFork (Asks r go) room
asks_fork (AskFork entry arguments has_room) go e n room h = fork_room entry _ has_room e n room h
asks_fork (AskLoad a) go e n room h = absurd cc
asks_fork (AskStore a v) go e n room h = absurd cc
asks_fork (AskSwap a v) go e n room h = absurd cc
asks_fork (AskCompareSwap a expected new) go e n room h = absurd cc
asks_fork (AskOr a v) go e n room h = absurd cc
asks_fork (AskAdd a v) go e n room h = absurd cc
asks_fork (AskPrint number) go e n room h = absurd cc
asks_fork (AskWait a expected) go e n room h = absurd cc
asks_fork (AskWake a m) go e n room h = absurd cc
asks_fork (AskRequeue a b wake moves expected) go e n room h = absurd cc
asks_fork AskReturn go e n room h = absurd cc
asks_fork (AskReturnValue v) go e n room h = absurd cc
asks_fork (AskFault cause) go e n room h = absurd cc

pub forks_when : (l : Look) (e n : ℕ) (room : Bool) → next_step_of l ≡ next.Fork e n room → AsksFork l room
forks_when (Goes y) e n room is = absurd cc
forks_when (Asks r go) e n room is = asks_fork r go e n room is
forks_when (Leaves phase) e n room is = absurd cc
forks_when Breaks e n room is = absurd cc
forks_when Rests e n room is = absurd cc

fork_answer : (r : Request) (go : ℕ → Thread) (room : Bool) (answer : ℕ) → AsksFork (Asks r go) room
    → (answer ≡ 0) ⊎ (room ≡ true) → Answers answer r
fork_answer (AskFork entry arguments has_room) go room answer asks h =
    elim h [ inl z ↦ inl z | inr y ↦ inr (asks ∙ y) ]
fork_answer request go room answer asks h = tt

pub can_answer_fork : (l : Look) (room : Bool) (answer : ℕ) → AsksFork l room → (answer ≡ 0) ⊎ (room ≡ true)
    → CanBeAnswered l answer
can_answer_fork (Goes y) room answer asks h = tt
can_answer_fork (Asks r go) room answer asks h = fork_answer r go room answer asks h
can_answer_fork (Leaves phase) room answer asks h = tt
can_answer_fork Breaks room answer asks h = tt
can_answer_fork Rests room answer asks h = tt

fork_step : (rule : ExitRule) (t : ℕ) (c : Common) (l : Look) (x : Thread) (made answer : ℕ) (room : Bool)
    (r : Result Stepped StepFault) → AsksFork l room
    → ((entry : ℕ) (arguments : List ℕ) (go : ℕ → Thread) → l ≡ Asks (AskFork entry arguments room) go
    → thread_step rule made t c (Asks (AskFork entry arguments room) go) ≡ r) → thread_step rule made t c l ≡ r
fork_step rule t c (Asks (AskFork entry arguments has_room) go) x made answer room r asks h =
    ap (λ b. thread_step rule made t c (Asks (AskFork entry arguments b) go)) asks
    ∙ h entry arguments go (ap (λ b. Asks (AskFork entry arguments b) go) asks)
fork_step rule t c (Asks request go) x made answer room r asks h = absurd asks
fork_step rule t c (Goes y) x made answer room r asks h = absurd asks
fork_step rule t c (Leaves phase) x made answer room r asks h = absurd asks
fork_step rule t c Breaks x made answer room r asks h = absurd asks
fork_step rule t c Rests x made answer room r asks h = absurd asks

pub fork_full : (rule : ExitRule) (made t : ℕ) (c : Common) (l : Look) (x : Thread) (room : Bool) → AsksFork l room → made ≡ c.most
    → thread_step rule made t c l ≡ Ok
    (record { common = c; thread = after_answer l 0 x; child = None; event = plain name.Fork 0 })
fork_full rule made t c l x room asks full = fork_step _ t c l x made 0 room _ asks (λ entry arguments go is.
    ap (go_on_with go) (cond-true _ _ _ (eq-eqb made c.most full))
    ∙ (λ i. Ok (record {
      common = c;
      thread = after_answer (sym is i) 0 x;
      child = None;
      event =
          plain name.Fork 0;
    })))

pub fork_no_room : (rule : ExitRule) (made t : ℕ) (c : Common) (l : Look) (x : Thread) (room : Bool) → AsksFork l room → made ≢ c.most
    → room ≡ false → thread_step rule made t c l ≡ Err Broken
fork_no_room rule made t c l x room asks ne none = fork_step _ t c l x made 0 room _ asks (λ entry arguments go is.
    ap (go_on_with go) (cond-false _ _ _ (ne_eqb made c.most ne) ∙ cond-false _ _ _ none))

pub fork_made : (rule : ExitRule) (made t number : ℕ) (c : Common) (l : Look) (x : Thread) (room : Bool) → AsksFork l room → made ≢ c.most
    → room ≡ true → number ≡ made + 1
    → thread_step rule made t c l ≡ Ok
    (record {
      common = set_word c (process_word number 2) number;
      thread = after_answer l number x;
      child =
          fork_child l;
      event = plain name.Fork number;
    })
fork_made rule made t number c l x room asks ne some is_number =
    let same : suc made ≡ number = omega (arith, is_number) in
    fork_step _ t c l x made number room _ asks (λ entry arguments go is.
    ap (go_on_with go) (cond-false _ _ _ (ne_eqb made c.most ne) ∙ cond-true _ _ _ some)
    ∙ (λ i. Ok (record {
      common = set_word c (process_word (same i) 2) (same i);
      thread =
          after_answer (sym is i) (same i) x;
      child = fork_child (sym is i);
      event = plain name.Fork (same i);
    })))

-- a local step
pub local_so : (rule : ExitRule) (made t : ℕ) (c : Common) (l : Look) (x : Thread) → local_next l ≡ Some x
    → thread_step rule made t c l ≡ Ok (record { common = c; thread = x; child = None; event = plain name.Local 0 })
local_so rule made t c (Goes y) x h = let e : y ≡ x = cc in
    λ i. Ok (record { common = c; thread = e i; child = None; event = plain name.Local 0 })
local_so rule made t c (Asks r go) x h = absurd cc
local_so rule made t c (Leaves phase) x h = absurd cc
local_so rule made t c Breaks x h = absurd cc
local_so rule made t c Rests x h = absurd cc

pub local_goes : (l : Look) → next_step_of l ≡ next.Local → local_next l ≡ None → ⊥
local_goes (Goes y) is h = absurd cc
local_goes (Asks r go) is h = no_local r is
local_goes (Leaves phase) is h = absurd cc
local_goes Breaks is h = absurd cc
local_goes Rests is h = absurd cc

-- a step of an exit
pub exit_so : (rule : ExitRule) (made t : ℕ) (c c' : Common) (l : Look) (phase nxt : ExitPhase) (g : Left)
    → next_step_of l ≡ next.Exit phase → leave rule t phase c ≡ g
    → thread_step rule made t c l ≡ Ok (record { common = g.common; thread = Exits g.next; child = None; event = g.event })
exit_so rule made t c c' (Goes y) phase nxt g is gives = absurd cc
exit_so rule made t c c' (Asks r go) phase nxt g is gives = absurd (no_exit r phase is)
exit_so rule made t c c' (Leaves p) phase nxt g is gives =
    let same : p ≡ phase = exit_is p phase is in
    (λ i. thread_step rule made t c (Leaves (same i)))
    ∙ (λ i. Ok (record {
      common = (gives i).common;
      thread = Exits (gives i).next;
      child = None;
      event =
          (gives i).event;
    }))
exit_so rule made t c c' Breaks phase nxt g is gives = absurd cc
exit_so rule made t c c' Rests phase nxt g is gives = absurd cc

under_way : (phase : ExitPhase) → IsUnderWay phase → phase ≢ Ended
under_way Ended h e = absurd h
under_way phase h e = absurd cc

exit_goes : (l : Look) (phase : ExitPhase) → IsNext l → next_step_of l ≡ next.Exit phase → phase ≢ Ended
exit_goes (Goes y) phase n is = absurd cc
exit_goes (Asks r go) phase n is = absurd (no_exit r phase is)
exit_goes (Leaves p) phase n is = let same : p ≡ phase = exit_is p phase is in λ e. under_way p n (same ∙ e)
exit_goes Breaks phase n is = absurd cc
exit_goes Rests phase n is = absurd cc

pub exit_runs : (p : Program) (t : ℕ) (x : Thread) (phase : ExitPhase) → next_step_of (look p t x) ≡ next.Exit phase
    → phase ≢ Ended
exit_runs p t x phase is = exit_goes (look p t x) phase (is_next p t x) is

pub breaks_when : (rule : ExitRule) (made t : ℕ) (c : Common) (l : Look) → next_step_of l ≡ next.Broken
    → thread_step rule made t c l ≡ Err Broken
breaks_when rule made t c (Goes y) is = absurd cc
breaks_when rule made t c (Asks r go) is = absurd (no_break r is)
breaks_when rule made t c (Leaves p) is = absurd cc
breaks_when rule made t c Breaks is = refl
breaks_when rule made t c Rests is = absurd cc

pub rests_when : (rule : ExitRule) (made t : ℕ) (c : Common) (l : Look) → next_step_of l ≡ next.Ended
    → thread_step rule made t c l ≡ Err CannotMove
rests_when rule made t c (Goes y) is = absurd cc
rests_when rule made t c (Asks r go) is = absurd (no_rest r is)
rests_when rule made t c (Leaves p) is = absurd cc
rests_when rule made t c Breaks is = absurd cc
rests_when rule made t c Rests is = refl

-- a refusal that is handed on
pub hand_on : {A : Type 0} → (r : Result A StepFault) (f : StepFault) (Q : StepFault → Type 0)
    → IsErrAnd r (λ g. g ≡ f) → Q f → IfErr r Q
hand_on (Ok x) f Q h q = tt
hand_on (Err g) f Q h q = subst Q (sym h) q

-- what a fork would be refused for
fork_fault_if : (full room : Bool) (x y : Served)
    → fault_of (let r : Result Served StepFault = cond full (Ok x) (cond room (Ok y) (Err Broken)) in r)
    ≡ (if room || full then None else Some Broken)
fork_fault_if true true x y = refl
fork_fault_if true false x y = refl
fork_fault_if false true x y = refl
fork_fault_if false false x y = refl

fault_went : (go : ℕ → Thread) (r : Result Served StepFault) → fault_of (go_on_with go r) ≡ fault_of r
fault_went go (Ok x) = refl
fault_went go (Err f) = refl

pub fork_fault : (rule : ExitRule) (made t : ℕ) (c : Common) (l : Look) (room : Bool) → AsksFork l room
    → fault_of (thread_step rule made t c l) ≡ (if room || (made == c.most) then None else Some Broken)
fork_fault rule made t c (Asks (AskFork entry arguments has_room) go) room asks =
    fault_went go _ ∙ fork_fault_if (made == c.most) has_room _ _
    ∙ ap (λ (b : Bool). if b || (made == c.most) then None else Some Broken) asks
fork_fault rule made t c (Asks request go) room asks = absurd asks
fork_fault rule made t c (Goes y) room asks = absurd asks
fork_fault rule made t c (Leaves phase) room asks = absurd asks
fork_fault rule made t c Breaks room asks = absurd asks
fork_fault rule made t c Rests room asks = absurd asks

-- what a request would be refused for
pub refused_so : (rule : ExitRule) (made t : ℕ) (c : Common) (l : Look) (request : Told) → next_step_of l ≡ next.Shared request
    → fault_of (thread_step rule made t c l) ≡ fault_of (serve made t (asked_of request) c)
refused_so rule made t c (Goes y) request is = absurd cc
refused_so rule made t c (Asks r go) request is = fault_went go (serve made t r c)
    ∙ ap (λ q. fault_of (serve made t q c)) (sym (asked_back r request is))
refused_so rule made t c (Leaves p) request is = absurd cc
refused_so rule made t c Breaks request is = absurd cc
refused_so rule made t c Rests request is = absurd cc
